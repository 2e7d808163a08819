-- The claims hold for the layers.
use Rattle.power_commutator.proofs.Result.{claims}
use Rattle.power_commutator.proofs.consistent_law.Goals as goal

pub returns : goal.returns
returns c P s v e = claims P s v e
