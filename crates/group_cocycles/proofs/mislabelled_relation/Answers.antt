use Rattle.group_cocycles.proofs.Labels.{one-label}
use Rattle.group_cocycles.proofs.mislabelled_relation.Goals as goal

pub returns : goal.returns
returns c G n hs before r after first t last e other R =
    other (one-label G n hs before r after first t last e R)
