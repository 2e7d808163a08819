use Rattle.group_cocycles.proofs.Rings.{is-cohomology-ring}
use Rattle.group_cocycles.proofs.ring_law.Goals as goal

pub returns : goal.returns
returns c G n gs rs P = is-cohomology-ring G n gs rs P
