use Rattle.linear_algebra.proofs.Preimages as preimages
use Rattle.linear_algebra.proofs.preimage_is_unique.Goals as goal

pub returns : goal.returns
returns c p rows K target u v l k a b = preimages.preimage_is_one l k target u v a b
