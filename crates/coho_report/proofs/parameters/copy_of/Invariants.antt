use Rattle.std.proofs.Common.{◌≡◌, take}
use Rattle.coho_report.proofs.parameters.copy_of.Given as goal

abbrev pub invariant-loop-i : goal.invariant-loop-i
invariant-loop-i l = l.copy ≡ record { prime = l.gens.prime; degrees = take l.i l.gens.degrees }
