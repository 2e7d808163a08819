-- The group's own table is a realisation.
use Rattle.power_commutator.proofs.Realise.{realisation}
use Rattle.power_commutator.proofs.realisation_law.Goals as goal

pub returns : goal.returns
returns c P s v e = realisation P s v e
