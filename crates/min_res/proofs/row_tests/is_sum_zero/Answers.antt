use Rattle.std.proofs.lemmas.Bool.{eq-eqb, eqb-true}
use Rattle.fp_rows.specs.Refs.{entries_of}
use Rattle.min_res.proofs.BlockSums.{sum-zero, zero-sum}
use Rattle.min_res.proofs.row_tests.is_sum_zero.Goals as goal

pub returns : goal.returns
returns c b = (
  λ t. sum-zero c.args.algebra.now c.args.rank (entries_of c.args.r) (c.args.block, b) c.aug.result
      c.aug.ensures.value (eqb-true c.aug.result 0 t),
  λ h. eq-eqb c.aug.result 0
      (zero-sum c.args.algebra.now c.args.rank (entries_of c.args.r) (c.args.block, b) c.aug.result
      c.aug.ensures.value h),
)
