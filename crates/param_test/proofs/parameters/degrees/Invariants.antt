use Rattle.std.proofs.Common.{◌≡◌, take}
use Rattle.param_test.specs.Tables.{degrees_of}
use Rattle.param_test.proofs.parameters.degrees.Given as goal

abbrev pub invariant-loop-c : goal.invariant-loop-c
invariant-loop-c l = l.degrees.items ≡ degrees_of (take l.c-index l.c-items)
