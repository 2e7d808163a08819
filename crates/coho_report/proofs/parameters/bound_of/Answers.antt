use Rattle.std.proofs.Common.{◌∙◌, ◌≤◌, ℕ, take, sym, subst}
use Rattle.std.specs.Prelude.{All}
use Rattle.limits.specs.declared.TheConstants.{GREATEST_DEGREE}
use Rattle.std.proofs.lemmas.List.Elements.{All-take, All-map}
use Rattle.coho_report.proofs.Ranks.{each-member}
use Rattle.coho_report.proofs.parameters.bound_of.Goals as goal

pub bound-requires-clause-low : goal.bound-requires-clause-low
bound-requires-clause-low c =
    let forms = c.args.forms.now in
    let before = take c.loop-i.i forms in
    each-member (λ (d : ℕ). d ≤ GREATEST_DEGREE) c.deref.result.now
    (subst (All (λ (d : ℕ). d ≤ GREATEST_DEGREE)) (sym (c.deref.ensures.value ∙ c.loop-i.invariant))
    (All-map (λ (d : ℕ). d ≤ GREATEST_DEGREE) (λ f. f.degree) before
    (All-take (λ f. f.degree ≤ GREATEST_DEGREE) c.loop-i.i forms c.requires.low)))
