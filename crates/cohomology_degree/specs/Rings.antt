-- Generators and relations of the cohomology ring of a p-group through a degree (Carlson, Townsley,
-- Valeri-Elizondo and Zhang, "Cohomology Rings of
-- Finite Groups"). Classes are vectors over the dual bases of the minimal resolution, and products are those
-- by chain lifts.
use Rattle.std.specs.Prelude.{ℕ, List}
use Rattle.p_groups.specs.PGroups.{PGroup, largest_residue}
use Rattle.min_res.specs.Stages.{rank_of}
use Rattle.graded_polynomials.specs.Polynomials.{Polynomial}
use Rattle.graded_algebra.specs.Algebras.{Algebra, Generator}
use Rattle.graded_algebra.specs.Presentations.{IsSpanGenerators, IsRelations}
use Rattle.graded_algebra.specs.Vectors.{Vector, vectors, units}
use Rattle.chain_lift.specs.Products.{multiply}

module _ (G : PGroup) where
  -- the cohomology, with products by chain lifts
  abbrev pub cohomology : Algebra (Vector (largest_residue G))
  cohomology = vectors (largest_residue G) (multiply G)

  -- the dual basis of the basis of the free module of degree d
  abbrev pub dual_basis : ℕ → List (Vector (largest_residue G))
  dual_basis d = units (largest_residue G) 0 (rank_of G d)

  -- gs and rs are the generators and the relations of degrees 1 to n
  pub record IsPresentation (n : ℕ) (gs : List (Generator (Vector (largest_residue G))))
      (rs : List Polynomial) : Type 0 where
    pub generators_are : IsSpanGenerators (largest_residue G) cohomology dual_basis n gs
    pub relations_are : IsRelations (largest_residue G) cohomology gs n rs
