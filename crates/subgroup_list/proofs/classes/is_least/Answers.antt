use Rattle.std.proofs.Common.{arith, rules, below_more, refl}
use Rattle.subgroup_list.proofs.Comparison.{not_least}
use Rattle.elementary_subgroups.proofs.GroupLaws.{law_of}
use Rattle.subgroup_list.proofs.classes.is_least.Goals as goal

pub returns-then-conjugate_comes_before : goal.returns-then-conjugate_comes_before
returns-then-conjugate_comes_before c = (
  (λ h. absurd (search rules)),
  λ l. absurd (not_least (law_of c.args.g.now c.order-by-end.ensures.law) c.loop-by.by c.args.m.now
      (omega arith) (λ x h. (c.requires.torsion x h).element)
      (c.if-conjugate_comes_before.ensures.before refl) l),
)

pub loop-by-preserved : goal.loop-by-preserved
loop-by-preserved c = below_more _ _ c.loop-by.invariant (c.if-conjugate_comes_before.ensures.not_before refl)

pub returns : goal.returns
returns c = ((λ _ l C. c.loop-by.invariant C.0 (omega (arith, C.1)) l C.2), λ _. refl)
