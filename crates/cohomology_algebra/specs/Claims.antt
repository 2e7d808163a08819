-- What holds of vectors of classes with products by lifts, and of presentations by them.
use Rattle.std.specs.Prelude.{◌≡◌, ℕ, ◌≤◌, List, [], ◌∷◌}
use Rattle.group_modules.specs.Field.{Below, residue}
use Rattle.group_modules.specs.Tables.{Group, monoid}
use Rattle.group_modules.specs.Resolutions.{rank}
use Rattle.radical_layers.specs.Coordinates.{Coordinates}
use Rattle.resolution_stages.specs.Definitions.{StageRows}
use Rattle.chain_maps.specs.Multiply.{multiply}
use Rattle.bar_complex.specs.Cochains.{Cochain, AreCohomologous, IsNormalisedCocycle}
use Rattle.bar_comparison.specs.Comparison.{bar_cocycle}
use Rattle.graded_polynomials.specs.Polynomials.{Polynomial}
use Rattle.graded_algebra.specs.Algebras.{Algebra, Generator, IsGradedCommutative}
use Rattle.graded_algebra.specs.Presentations.{IsSpanGenerators, IsRelations}
use Rattle.graded_algebra.specs.Vectors.{Vector, vectors, units}
use Rattle.graded_algebra.specs.Claims.{PresentationClaims, CochainClaims}
use Rattle.graded_algebra.specs.Cochains.{cochains}

module _ {n : ℕ} (q : ℕ) (Γ : Group n) (K : Coordinates q Γ) (S : StageRows) where
  -- v is 0 from the rank of degree d on
  abbrev pub IsOfDegree : ℕ → Vector q → Type 0
  IsOfDegree d v = (i : ℕ) → rank q Γ S.ranks d ≤ i → v i ≡ residue q 0

  -- the cohomology: vectors with products by lifts
  abbrev pub cohomology : Algebra (Vector q)
  cohomology = vectors q (multiply q Γ K S)

  -- the cocycle of a vector of degree d
  abbrev pub vector_cocycle : ℕ → Vector q → Cochain q (monoid Γ)
  vector_cocycle d v = bar_cocycle q Γ K S d (λ i. v i.0)

  -- generators, each with its cocycle for its class
  abbrev pub cocycle_generators : List (Generator (Vector q)) → List (Generator (Cochain q (monoid Γ)))
  cocycle_generators [] = []
  cocycle_generators (g ∷ gs) =
      record { degree = g.degree; class = vector_cocycle g.degree g.class } ∷ cocycle_generators gs

  abbrev pub AlgebraClaims : Type 0
  AlgebraClaims = IsGradedCommutative q (Vector q) cohomology IsOfDegree

  -- generators and relations that are taken degree by degree through m present the classes, and the cocycles
  -- up to coboundaries
  pub record RingClaims (m : ℕ) (gs : List (Generator (Vector q))) (rs : List Polynomial) : Type 0 where
    pub classes : PresentationClaims q (Vector q) cohomology IsOfDegree m gs rs
    pub cocycles : CochainClaims q (Vector q) (Cochain q (monoid Γ)) (cochains (Below n) q)
        (IsNormalisedCocycle q (monoid Γ))
        (AreCohomologous q (monoid Γ)) vector_cocycle m gs (cocycle_generators gs) rs

  -- the premises: generators by spans, and relations, of degrees 1 to m
  pub record IsPresentation (m : ℕ) (gs : List (Generator (Vector q))) (rs : List Polynomial) : Type 0 where
    pub generators_are : IsSpanGenerators q cohomology (λ d. units q 0 (rank q Γ S.ranks d)) m gs
    pub relations_are : IsRelations q cohomology gs m rs
