-- The tests hold in a realisation.
use Rattle.power_commutator.proofs.Converse.{no-fault}
use Rattle.power_commutator.proofs.realised_law.Goals as goal

pub returns : goal.returns
returns c P s v R = no-fault P s v R
