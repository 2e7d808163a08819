use Rattle.std.proofs.Common.{ℕ, arith, below_more, refl, ap, ◌∙◌}
use Rattle.group_table.specs.Tables.{product}
use Rattle.elementary_subgroups.proofs.GroupLaws.{cancel_right, law_of}
use Rattle.elementary_subgroups.specs.Sets.{IsIn}
use Rattle.elementary_subgroups.proofs.Indices.{in_at, each_in}
use Rattle.elementary_subgroups.proofs.Conjugates.{Carries}
use Rattle.subgroup_list.proofs.Comparison.{kept_same}
use Rattle.subgroup_list.proofs.classes.keeps.Goals as goal

pub mul-requires-clause-left : goal.mul-requires-clause-left
mul-requires-clause-left c =
    (c.requires.full.torsion _ (in_at c.args.m.now c.loop-x.x-index 0 (omega arith))).element

pub loop-x-preserved : goal.loop-x-preserved
loop-x-preserved c = below_more _ _ c.loop-x.invariant (
  c.mul-in-loop-x.result,
  c.if-not-has.ensures.0 refl,
  ap (product c.args.g.now c.args.by) c.mul-in-loop-x.ensures.value
      ∙ cancel_right (law_of c.args.g.now c.order.ensures.law) c.args.by c.inv-inverse.result c.mul.result
      c.requires.element c.inv-inverse.ensures.below c.mul.ensures.below c.inv-inverse.ensures.left
      ∙ c.mul.ensures.value,
)

pub returns : goal.returns
returns c = λ _ l C. kept_same
    (law_of c.args.g.now c.order.ensures.law) c.args.by c.args.m.now l c.requires.element c.requires.full C
    (each_in (λ x. (y : ℕ) × IsIn y c.args.m.now × Carries c.args.g.now c.args.by x y) c.args.m.now
    (λ k h. c.loop-x.invariant k (omega arith)))
