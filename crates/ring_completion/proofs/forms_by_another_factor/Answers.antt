use Rattle.graded_algebra.specs.Vectors.{IsOfDegree}
use Rattle.ring_completion.proofs.Results.{free}
use Rattle.ring_completion.proofs.Rewriting.{form-by-factor}
use Rattle.ring_completion.proofs.forms_by_another_factor.Goals as goal

pub returns : goal.returns
returns c q n i j e G gs rs ms products forms r u field p R S P ne I J X d M h v =
    form-by-factor q field G.mul (IsOfDegree q G) G.laws gs p (free q n field G gs p rs R) n rs R ms S
    products P forms i j e r ne I J X d M.fitting h M u v
