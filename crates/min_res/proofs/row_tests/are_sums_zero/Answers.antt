use Rattle.std.proofs.Common.{◌<◌, ℕ, refl, arith, below_more, sym, ◌∙◌}
use Rattle.fp_rows.specs.Refs.{entries_of}
use Rattle.min_res.specs.RecordChecks.{HasSumZero}
use Rattle.min_res.proofs.row_tests.are_sums_zero.Goals as goal

pub returns-then-not-is_sum_zero : goal.returns-then-not-is_sum_zero
returns-then-not-is_sum_zero c = (
  λ t. absurd (cc),
  λ h. sym c.if-not-is_sum_zero.true
      ∙ (c.is_sum_zero.ensures c.loop-block-test.true).1 (h (c.loop-block.block, c.loop-block-test.true)),
)

pub loop-block-preserved : goal.loop-block-preserved
loop-block-preserved c = below_more
    (λ (k : ℕ). (b : k < c.args.rank) → HasSumZero c.args.algebra.now c.args.rank (entries_of c.args.r)
    (k, b))
    c.loop-block.block c.loop-block.invariant (λ b. (c.is_sum_zero.ensures b).0 c.if-not-is_sum_zero.false)

pub returns : goal.returns
returns c = (
  λ t i. c.loop-block.invariant i.0 (let z : i.0 < c.loop-block.block = omega
      (arith, i.1) in z) i.1,
  λ h. refl,
)
