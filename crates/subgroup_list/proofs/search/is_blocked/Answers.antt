use Rattle.std.proofs.Common.{get_or, arith, rules}
use Rattle.elementary_subgroups.specs.Cliques.{CommutesWithAll}
use Rattle.elementary_subgroups.proofs.Indices.{in_at, each_in}
use Rattle.subgroup_list.proofs.search.is_blocked.Goals as goal

pub commutes_with_all-requires-clause-element : goal.commutes_with_all-requires-clause-element
commutes_with_all-requires-clause-element c = c.requires.barred _
    (in_at c.args.barred.now c.loop-x.x-index 0 (omega arith))

pub returns-then-commutes_with_all : goal.returns-then-commutes_with_all
returns-then-commutes_with_all c = (
  (λ _. (
    get_or c.args.barred.now c.loop-x.x-index 0,
    in_at c.args.barred.now c.loop-x.x-index 0
        (omega arith),
    c.if-commutes_with_all.ensures.0 (search rules),
  )),
  λ _. search rules,
)

pub returns : goal.returns
returns c = (
  (λ h. absurd (search rules)),
  λ b. absurd (each_in (λ w. CommutesWithAll c.args.g.now w c.args.free.now → ⊥) c.args.barred.now
      (λ k l. c.loop-x.invariant k (omega arith)) b.0 b.1 b.2),
)
