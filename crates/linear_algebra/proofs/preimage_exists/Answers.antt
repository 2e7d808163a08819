use Rattle.linear_algebra.proofs.Preimages as preimages
use Rattle.linear_algebra.proofs.preimage_exists.Goals as goal

pub returns : goal.returns
returns c p rows K target l k s = preimages.preimage_exists l k target s
