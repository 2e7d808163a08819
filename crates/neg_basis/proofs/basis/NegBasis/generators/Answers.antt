use Rattle.std.proofs.Common.{◌++◌, ◌∷◌, [], ℕ, List, ap, sym, ◌∙◌}
use Rattle.neg_basis.proofs.Chosen.{chosen_more, chosen_skip}
use Rattle.neg_basis.proofs.basis.NegBasis.generators.Goals as goal
use Rattle.neg_basis.proofs.basis.NegBasis.generators.Goals.{in-Chosen+in_ok-push-in-Chosen, in-Step}

pub loop-origin-preserved : goal.loop-origin-preserved
loop-origin-preserved c = elim c.match-origin.branch [
  | in-Chosen+in_ok-push-in-Chosen w ↦ rw w.rows-is (w.in_ok-push-in-Chosen.ensures.pushed
      ∙ ap (λ (xs : List ℕ). xs ++ w.in-Chosen.r ∷ []) c.loop-origin.invariant
      ∙ sym (chosen_more c.deref-origin-items.result.now c.loop-origin.origin-index w.in-Chosen.r
      c.loop-origin-test.true w.in-Chosen.is))
  | in-Step w ↦ rw w.rows-is (c.loop-origin.invariant
      ∙ sym (chosen_skip c.deref-origin-items.result.now c.loop-origin.origin-index w.in-Step.map w.in-Step.of
      c.loop-origin-test.true w.in-Step.is))
]
