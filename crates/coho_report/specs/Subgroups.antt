-- Elementary abelian subgroups, with the restrictions of classes to them in their own rings (Quillen, The
-- spectrum of an equivariant cohomology ring, 1971). Subgroups of one rank have one ring, each in its own
-- numbering.
use Rattle.std.specs.Prelude.{◌≡◌, ℕ, List, length}
use Rattle.p_groups.specs.PGroups.{PGroup, largest_residue}
use Rattle.elementary_subgroups.specs.Bases.{NumberedSubgroup}
use Rattle.graded_polynomials.specs.Polynomials.{Polynomial}
use Rattle.graded_algebra.specs.Algebras.{Generator, degrees}
use Rattle.graded_algebra.specs.Presentations.{IsNormalForm}
use Rattle.graded_algebra.specs.Vectors.{Vector}
use Rattle.chain_lift.specs.Embeddings.{elementary, elementary_over, embedding}
use Rattle.chain_lift.specs.MapsAlong.{restrict}
use Rattle.ring_present.specs.Rings.{cohomology, IsPresentation}
use Rattle.coho_report.specs.Related.{AreRelated}
use Rattle.coho_report.specs.Values.{SubgroupValue}

module _ (G : PGroup) where
  -- the restriction of a class of degree d to the subgroup with this basis
  abbrev pub restricted : List ℕ → ℕ → Vector (largest_residue G) → Vector (largest_residue G)
  restricted basis d v = restrict G (elementary_over G (length basis)) (embedding G basis) d v

  -- f is the restriction of the generator g to the subgroup with this basis, in the standard monomials of the
  -- generators own of its ring
  pub record IsImage (basis : List ℕ) (own : List (Generator (Vector (largest_residue G))))
      (g : Generator (Vector (largest_residue G))) (f : Polynomial) : Type 0 where
    pub degree_is : f.degree ≡ g.degree
    pub form : IsNormalForm (largest_residue G) (cohomology (elementary G (length basis))) own g.degree
        (restricted basis g.degree g.class) f.terms

  -- v tells the basis of s, the generators of degrees 1 to n of its own ring, and the restrictions of the
  -- generators gs
  pub record IsToldOf (n : ℕ) (gs : List (Generator (Vector (largest_residue G)))) (s : NumberedSubgroup)
      (v : SubgroupValue) : Type 0 where
    pub basis_is : v.basis ≡ s.basis
    pub own : List (Generator (Vector (largest_residue G)))
    pub relations : List Polynomial
    pub presentation : IsPresentation (elementary G (length s.basis)) n own relations
    pub generators_are : v.generators ≡ degrees own
    pub images_are : AreRelated (IsImage s.basis own) gs v.images
