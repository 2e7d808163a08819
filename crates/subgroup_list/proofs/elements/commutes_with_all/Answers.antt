use Rattle.std.proofs.Common.{arith, rules}
use Rattle.elementary_subgroups.specs.Cliques.{Commutes}
use Rattle.elementary_subgroups.proofs.Indices.{in_at, each_in}
use Rattle.subgroup_list.proofs.elements.commutes_with_all.Goals as goal

pub commute-requires-clause-right : goal.commute-requires-clause-right
commute-requires-clause-right c = c.requires.elements _ (in_at c.args.ys.now c.loop-y.y-index 0 (omega arith))

pub returns-then-not-commute : goal.returns-then-not-commute
returns-then-not-commute c = (
  (λ h. absurd (search rules)),
  λ h. c.if-not-commute.ensures.1
      (h _ (in_at c.args.ys.now c.loop-y.y-index 0 (omega arith))),
)

pub returns : goal.returns
returns c = (
  λ _. each_in (λ y. Commutes c.args.g.now c.args.x y) c.args.ys.now (λ k h. c.loop-y.invariant k
      (omega arith)),
  λ _. search rules,
)
