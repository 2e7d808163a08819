use Rattle.std.proofs.Common.{◌<◌, ◌≤◌, ℕ, refl, arith, below_more, length, slice_index, sym, ◌∙◌}
use Rattle.fp_rows.specs.Refs.{entries_of}
use Rattle.min_res.specs.RecordChecks.{HasSumZero}
use Rattle.min_res.proofs.BlockSums.{sums-at}
use Rattle.min_res.proofs.row_tests.are_later_sums_zero.Goals.{else-get-k-via-then-get-k+else-not-is_sum_zero}
use Rattle.min_res.proofs.row_tests.are_later_sums_zero.Goals.{else-get-k-via-else-get-k}
use Rattle.min_res.proofs.row_tests.are_later_sums_zero.Goals as goal

pub returns-then-not-is_sum_zero : goal.returns-then-not-is_sum_zero
returns-then-not-is_sum_zero c =
    let inside : c.loop-block.block < length c.args.positions.now = omega arith in
    let greater : c.args.k < slice_index c.args.positions.now c.loop-block.block = omega arith in (
      λ t. absurd (cc),
      λ h. sym c.if-not-is_sum_zero.true
          ∙ (sums-at c.args.algebra.now (entries_of c.args.r) c.loop-block.block c.is_sum_zero.result
          c.len-rank.result
          (length c.args.positions.now) c.len-rank.ensures c.is_sum_zero.ensures inside).1
          (h (c.loop-block.block, inside) greater),
    )

pub loop-block-preserved : goal.loop-block-preserved
loop-block-preserved c = below_more
    (λ (i : ℕ). (b : i < length c.args.positions.now) → c.args.k < slice_index c.args.positions.now i
    → HasSumZero c.args.algebra.now (length c.args.positions.now) (entries_of c.args.r) (i, b))
    c.loop-block.block c.loop-block.invariant
    (λ b greater. elim c.else-get-k.branch [
      | else-get-k-via-then-get-k+else-not-is_sum_zero w ↦
          (sums-at c.args.algebra.now (entries_of c.args.r) c.loop-block.block w.is_sum_zero.result
          c.len-rank.result
          (length c.args.positions.now) c.len-rank.ensures w.is_sum_zero.ensures b).0
          w.if-not-is_sum_zero.false
      | else-get-k-via-else-get-k w ↦ absurd (let e : c.get.result ≤ c.args.k = w.if-get-k.false in
          omega (arith, e, greater, c.get.ensures))
    ])

pub returns : goal.returns
returns c = (
  λ t i. c.loop-block.invariant i.0 (let z : i.0 < c.loop-block.block = omega
      (arith, i.1) in z) i.1,
  λ h. refl,
)
