use Rattle.std.proofs.Common.{◌+◌, ◌%◌, arith}
use Rattle.std.proofs.Math.Nat.{mod-lt}
use Rattle.subgroup_list.proofs.OwnTables.{digit_step, step_below, step_small}
use Rattle.subgroup_list.proofs.own_tables.+digit_sum.Goals as goal

pub digit_sum-requires : goal.digit_sum-requires
digit_sum-requires t c = (
  omega arith,
  (c.requires.base, step_small c.args.p c.args.rank (omega arith) c.requires.base.0 c.requires.small),
)

pub overflow_mul-result : goal.overflow_mul-result
overflow_mul-result t c =
    let b = step_below c.args.p c.args.rank c.digit_sum.result 0
    (omega arith) c.digit_sum.ensures.below c.requires.base.0 in
    omega (arith, b)

pub overflow_add-result-2 : goal.overflow_add-result-2
overflow_add-result-2 t c =
    let b = step_below c.args.p c.args.rank c.digit_sum.result _ (omega arith) c.digit_sum.ensures.below
    (mod-lt (c.args.a % c.args.p + c.args.b % c.args.p) c.requires.base.0) in
    omega (arith, b)

pub returns-clause-sum : goal.returns-clause-sum
returns-clause-sum t c =
    digit_step c.args.p c.args.rank c.args.a c.args.b c.digit_sum.result (omega arith) c.digit_sum.ensures.sum

pub returns-clause-below : goal.returns-clause-below
returns-clause-below t c =
    step_below c.args.p c.args.rank c.digit_sum.result _ (omega arith) c.digit_sum.ensures.below
    (mod-lt (c.args.a % c.args.p + c.args.b % c.args.p) c.requires.base.0)
