use Rattle.std.proofs.Common.{◌≡◌, take}
use Rattle.param_test.specs.Variables.{all_kept}
use Rattle.param_test.proofs.restriction.keep_all.Given as goal

abbrev pub invariant-loop-i : goal.invariant-loop-i
invariant-loop-i l = l.out ≡ all_kept l.gens (take l.i l.fs)
