-- The restriction of a class to a subgroup, as a polynomial, is one.
use Rattle.std.proofs.Common.{◌≡◌, ◌∙◌, ℕ, ◌<◌, List, length, sym}
use Rattle.std.specs.List.{AllByRecursion as Each}
use Rattle.p_groups.specs.PGroups.{PGroup, largest_residue}
use Rattle.graded_polynomials.specs.AllMonomials.{all_monomials}
use Rattle.graded_polynomials.proofs.AllMonomials.{all-monomials}
use Rattle.graded_polynomials.specs.Polynomials.{Polynomial}
use Rattle.graded_algebra.specs.Algebras.{Generator, degrees}
use Rattle.graded_algebra.specs.Vectors.{Vector}
use Rattle.graded_algebra.proofs.NormalForms.{normal-form-unique}
use Rattle.graded_algebra.proofs.VectorLemmas.{vector-space}
use Rattle.chain_lift.specs.Embeddings.{elementary}
use Rattle.chain_lift.specs.Products.{multiply}
use Rattle.ring_present.specs.Rings.{cohomology}
use Rattle.coho_report.specs.Subgroups.{restricted, IsImage}

-- a normal form in the ring of a subgroup is one
pub one_image : (G : PGroup) (basis : List ℕ) (own : List (Generator (Vector (largest_residue G))))
    → Each (λ d. 0 < d) (degrees own) → (g : Generator (Vector (largest_residue G))) (e f : Polynomial)
    → IsImage G basis own g e → IsImage G basis own g f → e ≡ f
one_image G basis own positive g e f a b =
    let q = largest_residue G in
    let E = elementary G (length basis) in
    let ms = all_monomials q (degrees own) g.degree in
    let terms = normal-form-unique q (Vector q) (cohomology E) (vector-space q (multiply E)) own g.degree ms
    (all-monomials q (degrees own) positive g.degree) (restricted G basis g.degree g.class)
    e.terms f.terms a.form b.form in
    let degree = a.degree_is ∙ sym b.degree_is in
    λ i. record { degree = degree i; terms = terms i }
