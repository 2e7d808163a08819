use Rattle.std.proofs.Common.{◌≡◌, map, take}
use Rattle.param_test.specs.Bounds.{greatest}
use Rattle.coho_report.proofs.parameters.greatest_rank.Given as goal

abbrev pub invariant-loop-i : goal.invariant-loop-i
invariant-loop-i l = l.greatest ≡ greatest (map (λ x. x.own.value.rank) (take l.i l.restrictors))
