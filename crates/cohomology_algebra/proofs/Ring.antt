-- A presentation of the algebra of vectors presents the cocycles of the bar complex up to coboundaries.
use Rattle.std.specs.Prelude.{◌≡◌, ℕ, suc, refl, List, [], ◌∷◌, ◌++◌}
use Rattle.std.proofs.Common.{ap}
use mathlib.Core.Path.{subst}
use Rattle.group_modules.specs.Field.{Below}
use Rattle.group_modules.specs.Tables.{Group, monoid}
use Rattle.group_modules.specs.Resolutions.{rank}
use Rattle.linear_algebra.specs.Modular.{IsFieldModulo}
use Rattle.radical_layers.specs.Coordinates.{Coordinates}
use Rattle.resolution_stages.specs.Definitions.{StageRows, AreStages}
use Rattle.resolution_stages.specs.Claims.{ResolutionClaims}
use Rattle.resolution_stages.proofs.FromDefinitions.{resolution-claims}
use Rattle.chain_maps.specs.Multiply.{multiply}
use Rattle.bar_complex.specs.Cochains.{Cochain, AreCohomologous, IsNormalisedCocycle}
use Rattle.cup_products.specs.Claims.{ProductClaims}
use Rattle.cup_products.proofs.Laws.{product-claims}
use Rattle.graded_polynomials.specs.Polynomials.{Polynomial}
use Rattle.graded_algebra.specs.Algebras.{Generator}
use Rattle.graded_algebra.specs.Presentations.{IsGenerators}
use Rattle.graded_algebra.specs.Vectors.{Vector, GradedAlgebra, basis}
use Rattle.graded_algebra.specs.Claims.{PresentationClaims, CochainClaims}
use Rattle.graded_algebra.specs.Cochains.{cochains}
use Rattle.graded_algebra.proofs.Transfer.{images}
use Rattle.graded_algebra.proofs.Cohomology.{cochains-presented}
use Rattle.graded_algebra.proofs.Generators.{AllNew, generators-new, all-new-split}
use Rattle.graded_algebra.proofs.Spans.{span-generators}
use Rattle.graded_algebra.proofs.Presented.{presented-vectors}
use Rattle.graded_algebra.proofs.VectorLemmas.{is-basis}
use Rattle.cohomology_algebra.specs.Claims.{IsOfDegree, AlgebraClaims, IsPresentation, RingClaims, cohomology}
use Rattle.cohomology_algebra.specs.Claims.{vector_cocycle, cocycle_generators}
use Rattle.cohomology_algebra.proofs.Vectors.{graded-commutative}
use Rattle.cohomology_algebra.proofs.Cocycles.{compared, cohomology-is}

module _ {n : ℕ} (q : ℕ) (Γ : Group n) (K : Coordinates q Γ) (S : StageRows) (F : IsFieldModulo (suc q))
    (A : AreStages q Γ K S) where
  abbrev R : ResolutionClaims q Γ K S
  R = resolution-claims q F Γ K S A

  abbrev P : ProductClaims q Γ K S
  P = product-claims q Γ K S F R

  abbrev L : AlgebraClaims q Γ K S
  L = graded-commutative q Γ K S P

  -- the algebra
  abbrev pub graded : GradedAlgebra q
  graded = record { ranks = λ d. rank q Γ S.ranks d; mul = multiply q Γ K S; rank-zero = refl; laws = L }

  pub images-are : (gs : List (Generator (Vector q)))
      → images (Vector q) (Cochain q (monoid Γ)) (cohomology q Γ K S) (cochains (Below n) q)
      (vector_cocycle q Γ K S)
      (AreCohomologous q (monoid Γ)) (compared q Γ K S R P) gs ≡ cocycle_generators q Γ K S gs
  images-are [] = refl
  images-are (g ∷ gs) =
      ap (λ hs. record { degree = g.degree; class = vector_cocycle q Γ K S g.degree g.class } ∷ hs)
      (images-are gs)

  module _ (m : ℕ) (gs : List (Generator (Vector q))) (rs : List Polynomial)
      (H : IsPresentation q Γ K S m gs rs) where
    generators : IsGenerators q (cohomology q Γ K S) (basis q graded) m gs
    generators =
        span-generators q (Vector q) (cohomology q Γ K S) (IsOfDegree q Γ K S) L (basis q graded)
        (is-basis q graded) m gs H.generators_are

    new : AllNew q (Vector q) (cohomology q Γ K S) (IsOfDegree q Γ K S) L [] gs
    new = (generators-new q (Vector q) (cohomology q Γ K S) (IsOfDegree q Γ K S) L (basis q graded)
        (is-basis q graded) m gs generators).0

    -- each generator is of its degree
    inside : (g : Generator (Vector q)) (before after : List (Generator (Vector q)))
        → gs ≡ before ++ g ∷ after
        → IsOfDegree q Γ K S g.degree g.class
    inside g before after e =
        (all-new-split q (Vector q) (cohomology q Γ K S) (IsOfDegree q Γ K S) L [] before (g ∷ after)
        (subst (λ hs. AllNew q (Vector q) (cohomology q Γ K S) (IsOfDegree q Γ K S) L [] hs) e new)).1

    classes-presented : PresentationClaims q (Vector q) (cohomology q Γ K S) (IsOfDegree q Γ K S) m gs rs
    classes-presented = presented-vectors q m F graded gs rs generators H.relations_are

    pub ring-claims : RingClaims q Γ K S m gs rs
    ring-claims = record {
      classes = classes-presented;
      cocycles =
          subst
          (λ hs. CochainClaims q (Vector q) (Cochain q (monoid Γ)) (cochains (Below n) q)
          (IsNormalisedCocycle q (monoid Γ))
          (AreCohomologous q (monoid Γ)) (vector_cocycle q Γ K S) m gs hs rs)
          (images-are gs)
          (cochains-presented q (Vector q) (Cochain q (monoid Γ)) (cohomology q Γ K S) (cochains (Below n) q)
          (IsOfDegree q Γ K S) L
          (vector_cocycle q Γ K S) (IsNormalisedCocycle q (monoid Γ)) (AreCohomologous q (monoid Γ))
          (cohomology-is q Γ K S R P) m gs rs inside
          classes-presented);
    }
