use Rattle.std.proofs.Common.{◌≡◌, map, take}
use Rattle.coho_report.proofs.parameters.bound_of.Given as goal

abbrev pub invariant-loop-i : goal.invariant-loop-i
invariant-loop-i l = l.degrees.items ≡ map (λ f. f.degree) (take l.i l.forms)
