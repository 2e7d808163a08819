use Rattle.std.proofs.Common.{◌≡◌, take}
use Rattle.group_table.specs.Prime.{prime_value}
use Rattle.cohomology_degree.proofs.generators.gens_over.Given as goal

abbrev pub invariant-loop-i : goal.invariant-loop-i
invariant-loop-i l = l.copy ≡ record { prime = prime_value l.fn.p; degrees = take l.i l.gens.degrees }
