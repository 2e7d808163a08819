use Rattle.std.proofs.Common.{◌<◌, ◌∷◌, [], arith}
use Rattle.graded_algebra.specs.Algebras.{degrees}
use Rattle.graded_algebra.specs.Vectors.{Vector, IsOfDegree, algebra}
use Rattle.graded_algebra.proofs.MoreGenerators.{degrees-append}
use Rattle.graded_algebra.proofs.VectorLemmas.{one-free}
use Rattle.graded_polynomials.proofs.Terms.{each-append}
use Rattle.ring_completion.proofs.AddedCandidates.{candidates-with-last}
use Rattle.ring_completion.proofs.more_generators.candidates_with_one_more_generator.Goals as goal

pub returns : goal.returns
returns c q n G gs g ms field positive d C = candidates-with-last q n (Vector q) (algebra q G)
    (IsOfDegree q G)
    G.laws gs g d positive
    (rw (degrees-append gs (g ∷ [])) (each-append (λ e. 0 < e) (degrees gs) (g.degree ∷ []) positive
    (omega (arith, d), tt)))
    (λ k e. one-free q G k field.above_one e) ms C
