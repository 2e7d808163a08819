use Rattle.group_cocycles.proofs.Dimensions.{rank-is-dimension}
use Rattle.group_cocycles.proofs.dimension_law.Goals as goal

pub returns : goal.returns
returns c = rank-is-dimension
