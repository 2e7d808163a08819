use Rattle.std.proofs.Common.{◌≡◌}
use Rattle.coho_report.specs.Reports.{ranks_below}
use Rattle.coho_report.proofs.composition.ranks_below.Given as goal

abbrev pub invariant-loop-d : goal.invariant-loop-d
invariant-loop-d l = l.ranks.items ≡ ranks_below l.res.group l.d
