use Rattle.std.proofs.Common.{◌≡◌, take}
use Rattle.neg_basis.specs.Origins.{chosen_rows}
use Rattle.neg_basis.proofs.basis.NegBasis.generators.Given as goal

abbrev pub invariant-loop-origin : goal.invariant-loop-origin
invariant-loop-origin l = l.rows ≡ chosen_rows (take l.origin-index l.origin-items)
