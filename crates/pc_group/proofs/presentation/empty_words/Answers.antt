use Rattle.std.proofs.Common.{◌∙◌, ap, ap₂, [], ◌∷◌, ◌++◌}
use Rattle.std.proofs.lemmas.List.{map-append, replicate_more}
use Rattle.power_commutator.specs.Presentations.{identity}
use Rattle.pc_group.specs.Parts.{exponents}
use Rattle.pc_group.proofs.MadeParts.{identity-replicate}
use Rattle.pc_group.proofs.presentation.empty_words.Goals as goal

pub loop-i-preserved : goal.loop-i-preserved
loop-i-preserved c =
    ap exponents c.in_ok-push.ensures.items
    ∙ map-append (λ w. w.items) c.loop-i.words.items (c.in_ok-from_elem.field-0 ∷ [])
    ∙ ap₂ (λ ws w. ws ++ w ∷ []) c.loop-i.invariant
    (c.in_ok-from_elem.ensures.items_if_clones_equal (λ y e. e) ∙ identity-replicate c.args.gens)
    ∙ replicate_more c.loop-i.i (identity c.args.gens)
