use Rattle.group_cocycles.proofs.coboundary_law.Goals as goal
use Rattle.group_cocycles.proofs.Classes.{coboundary-zero}

pub returns : goal.returns
returns c G d x r h k = coboundary-zero G d x r h k
