use Rattle.std.proofs.Common.{length, arith, ap}
use Rattle.fp_rows.proofs.bits.Bits.view.Goals as goal

pub invariant_of-result : goal.invariant_of-result
invariant_of-result c = record {
  within = omega (arith, ap length c.as_slice.ensures.value, c.self.invariant.count);
  small = omega (arith, c.self.invariant.small);
}
