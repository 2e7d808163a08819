use Rattle.std.proofs.Common.{◌≡◌, ◌∙◌, ap, ap₂, [], ◌∷◌, ◌++◌, map, replicate, sym, ◌+◌, arith}
use Rattle.std.proofs.lemmas.List.{map-append}
use Rattle.power_commutator.specs.Presentations.{identity, range}
use Rattle.pc_group.specs.Parts.{exponents}
use Rattle.pc_group.proofs.MadeParts.{range-next}
use Rattle.pc_group.proofs.presentation.empty_rows.Goals as goal

pub loop-i-preserved : goal.loop-i-preserved
loop-i-preserved c =
    let i = c.loop-i.i in
    let row = λ (k : Rattle.std.specs.Prelude.ℕ). replicate k (identity c.args.gens) in
    ap (map (λ r. exponents r.items)) c.in_ok-push.ensures.items
    ∙ map-append (λ r. exponents r.items) c.loop-i.rows.items (c.in_ok-empty_words.field-0 ∷ [])
    ∙ ap₂ (λ rs r. rs ++ r ∷ []) c.loop-i.invariant (c.in_ok-empty_words.ensures
    ∙ ap row (let z : i ≡ 0 + i = omega arith in z))
    ∙ sym (map-append row (range 0 i) ((0 + i) ∷ []))
    ∙ ap (map row) (sym (range-next 0 i))
