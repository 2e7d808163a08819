-- The generators and relations of a p-group are those of the cohomology ring of its bar complex.
use Rattle.std.specs.Prelude.{ℕ, List}
use Rattle.p_groups.specs.PGroups.{PGroup, largest_residue}
use Rattle.graded_polynomials.specs.Polynomials.{Polynomial}
use Rattle.graded_algebra.specs.Algebras.{Generator}
use Rattle.graded_algebra.specs.Vectors.{Vector}
use Rattle.group_cocycles.specs.Rings.{cocycles_of, IsCohomologyRing}
use Rattle.group_cocycles.proofs.Rings.{is-cohomology-ring}
use Rattle.cohomology_degree.specs.Rings.{IsPresentation}

pub cohomology-ring : (G : PGroup) (n : ℕ) (gs : List (Generator (Vector (largest_residue G))))
    (rs : List Polynomial) → IsPresentation G n gs rs → IsCohomologyRing G n (cocycles_of G gs) rs
cohomology-ring G n gs rs P =
    is-cohomology-ring G n gs rs
    record { generators_are = P.generators_are; relations_are = P.relations_are }
