use Rattle.std.proofs.Common.{ℕ, Vec, Global, [], below_more, ap, sym, ◌∙◌}
use Rattle.std.specs.Cmp.Lexicographic.{same_text, other_text}
use Rattle.std.proofs.lemmas.List.{get_or-map}
use Rattle.polynomial_reader.proofs.reader.find_name.Goals as goal

pub returns-then-eq-clause-found : goal.returns-then-eq-clause-found
returns-then-eq-clause-found c =
    get_or-map (λ (n : Vec ℕ Global). n.items) c.args.names.now c.loop-i.i c.index-names-i.result []
    c.loop-i-test.true
    ∙ ap (λ (n : Vec ℕ Global). n.items) (sym c.index-names-i.is) ∙ sym c.as_slice.ensures.value
    ∙ same_text c.as_slice.result.now c.args.name.now (sym c.if-eq.true ∙ c.eq.ensures)

pub loop-i-preserved : goal.loop-i-preserved
loop-i-preserved c =
    below_more _ _ c.loop-i.invariant
    (λ e. other_text c.as_slice.result.now c.args.name.now (sym c.if-eq.false ∙ c.eq.ensures)
    (c.as_slice.ensures.value ∙ ap (λ (n : Vec ℕ Global). n.items) c.index-names-i.is
    ∙ sym (get_or-map (λ (n : Vec ℕ Global). n.items) c.args.names.now c.loop-i.i c.index-names-i.result []
    c.loop-i-test.true) ∙ e))
