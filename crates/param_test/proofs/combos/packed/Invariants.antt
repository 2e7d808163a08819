use Rattle.group_table.specs.Prime.{prime_value}
use Rattle.param_test.proofs.Packing.{IsWritten}
use Rattle.param_test.proofs.combos.packed.Given as goal

abbrev pub invariant-loop-i : goal.invariant-loop-i
invariant-loop-i l = IsWritten (prime_value l.fn.p) l.entries l.i l.row
