use Rattle.std.proofs.Common.{arith}
use Rattle.graded_algebra.specs.Vectors.{Vector, IsOfDegree, algebra}
use Rattle.ring_completion.proofs.ListedCandidates.{generator-at, standard-listed}
use Rattle.ring_completion.proofs.Listings.{degree-power, within-length, clear-if-found, found-if-clear}
use Rattle.ring_completion.proofs.Listings.{listed-if-found, found-if-listed}
use Rattle.ring_completion.proofs.Results.{free}
use Rattle.ring_completion.proofs.generators_and_standard_monomials_by_lists.Goals as goal

pub returns-clause-generators : goal.returns-clause-generators
returns-clause-generators c q i ds = ((λ I. within-length ds i I.within), (λ l. generator-at q ds i l))

pub returns-clause-degrees : goal.returns-clause-degrees
returns-clause-degrees c i ds l = degree-power ds i l

pub returns-clause-standard : goal.returns-clause-standard
returns-clause-standard c q n e G gs rs lists s field p R S l =
    standard-listed q (Vector q) (algebra q G) (IsOfDegree q G) G.laws gs field p (free q n field G gs p rs R)
    n rs R lists S e (omega (arith, l)) s

pub returns-clause-clear : goal.returns-clause-clear
returns-clause-clear c i s = ((λ h. found-if-clear i s h), (λ h. clear-if-found i s h))

pub returns-clause-listed : goal.returns-clause-listed
returns-clause-listed c ms m = ((λ h. found-if-listed ms m h), (λ h. listed-if-found ms m h))
