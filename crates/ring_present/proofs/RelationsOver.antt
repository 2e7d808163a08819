-- The relations of a ring are polynomials over its generators.
use Rattle.std.proofs.Common.{◌≡◌, ℕ, ◌-◌, List, [], ◌∷◌, map, ap, sym, refl}
use Rattle.std.specs.Prelude.{slice_index_or, All}
use mathlib.Core.Path.{subst}
use Rattle.p_groups.specs.PGroups.{PGroup, largest_residue}
use Rattle.graded_polynomials.specs.Polynomials.{Polynomial, IsPolynomial}
use Rattle.graded_algebra.specs.Algebras.{degrees}
use Rattle.graded_algebra.specs.Vectors.{Vector}
use Rattle.gc_poly.specs.Polynomials.{IsOverGenerators}
use Rattle.cohomology_degree.specs.Rings.{cohomology, IsPresentation}
use Rattle.ring_present.specs.Values.{GeneratorValue, generators_of}
use Rattle.ring_present.proofs.Kept.{relations-stored}

pub degrees-are : (q : ℕ) (gs : List GeneratorValue) → degrees (generators_of q gs) ≡ map (λ g. g.degree) gs
degrees-are q [] = refl
degrees-are q (g ∷ gs) = ap (λ ds. g.degree ∷ ds) (degrees-are q gs)

pub relations-over : (G : PGroup) (n p : ℕ) (gs : List GeneratorValue) (rs : List Polynomial) → p ≡ G.table.p
    → IsPresentation G n (generators_of (largest_residue G) gs) rs
    → All (IsOverGenerators (record { prime = p; degrees = map (λ g. g.degree) gs })) rs
relations-over G n p gs rs e P k d l =
    let f = slice_index_or rs k d in
    let s = relations-stored (largest_residue G) (Vector (largest_residue G)) (cohomology G)
    (generators_of (largest_residue G) gs) n rs P.relations_are k d l in
    subst (λ p. IsPolynomial (p - 1) (map (λ g. g.degree) gs) f.degree f.terms) (sym e)
    (subst (λ ds. IsPolynomial (largest_residue G) ds f.degree f.terms)
    (degrees-are (largest_residue G) gs) s.over)
