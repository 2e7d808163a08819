-- Vectors and their cocycles, with products by lifts and cup products, are alike up to coboundaries.
use Rattle.std.specs.Prelude.{◌≡◌, ℕ, refl, ◌+◌, []}
use Rattle.std.proofs.Common.{sym, ◌∙◌, ap, ap₂}
use mathlib.Core.Path.{fun_ext, subst}
use Rattle.group_modules.specs.Module.{Monoid}
use Rattle.group_modules.specs.Field.{Below, Fp, residue, plus}
use Rattle.group_modules.specs.Tables.{Group, monoid}
use Rattle.group_modules.proofs.MapLaws.{terms-unit}
use Rattle.group_modules.specs.Resolutions.{rank}
use Rattle.radical_layers.specs.Coordinates.{Coordinates}
use Rattle.resolution_stages.specs.Definitions.{StageRows}
use Rattle.resolution_stages.specs.Claims.{ResolutionClaims}
use Rattle.chain_maps.specs.Lifts.{Class}
use Rattle.chain_maps.specs.Vectors.{extended}
use Rattle.chain_maps.specs.Multiply.{multiply}
use Rattle.chain_maps.proofs.Vectors.{extended-at, extended-past}
use Rattle.bar_complex.specs.Cochains.{cup, Cochain, AreCohomologous, IsNormalisedCocycle}
use Rattle.bar_complex.proofs.Cohomologous.{near-refl, near-sym, near-trans, near-add, near-normal}
use Rattle.bar_complex.proofs.Cohomologous.{near-cocycle}
use Rattle.bar_comparison.specs.Comparison.{bar_cocycle}
use Rattle.bar_comparison.proofs.Comparison.{MinimalStages}
use Rattle.bar_comparison.proofs.Classes as classes
use Rattle.bar_comparison.proofs.ClassMap.{class-map-claims}
use Rattle.bar_comparison.proofs.Stages.{stages}
use Rattle.cup_products.specs.Classes.{GradedClass, mul, cocycle_of}
use Rattle.cup_products.specs.Claims.{ProductClaims, CupClaims}
use Rattle.cup_products.proofs.Laws.{cup-claims}
use Rattle.graded_algebra.specs.Vectors as vectors
use Rattle.graded_algebra.specs.Vectors.{Vector}
use Rattle.graded_algebra.specs.Cochains.{cochains}
use Rattle.graded_algebra.proofs.Transfer.{IsComparison}
use Rattle.graded_algebra.proofs.Cohomology.{IsCohomology}
use Rattle.cohomology_algebra.specs.Claims.{IsOfDegree, cohomology, vector_cocycle}
use Rattle.cohomology_algebra.proofs.Vectors.{class_of, class-one, class-product, vector-class}

module _ {n : ℕ} (q : ℕ) (Γ : Group n) (K : Coordinates q Γ) (S : StageRows) (R : ResolutionClaims q Γ K S)
    (P : ProductClaims q Γ K S) where
  abbrev G : Monoid
  G = monoid Γ

  abbrev M : MinimalStages q G
  M = stages q Γ K S R

  abbrev k : ℕ → Vector q → Cochain q G
  k d v = vector_cocycle q Γ K S d v

  abbrev r : ℕ → ℕ
  r d = rank q Γ S.ranks d

  closed : (d : ℕ) (x : Vector q) → IsNormalisedCocycle q (monoid Γ) d (k d x)
  closed d x = (classes.bar-normal M d (λ i. x i.0), classes.bar-cocycle M d (λ i. x i.0))

  -- a cochain that differs by a coboundary from the cocycle of a vector
  closed-near : (d : ℕ) (x : Vector q) (w : Cochain q G) → AreCohomologous q G d (k d x) w
      → IsNormalisedCocycle q (monoid Γ) d w
  closed-near d x w h = (
    near-normal q G d w (k d x) (near-sym q G d (k d x) w h) (closed d x).0,
    near-cocycle q G d w (k d x) (near-sym q G d (k d x) w h) (closed d x).1,
  )

  one-near : k 0 (vectors.unit q 0) [] ≡ residue q 1
  one-near =
      ap (λ a. cocycle_of q Γ K S a []) (class-one q Γ K S)
      ∙ terms-unit q Γ 1 (Fp q G) (λ i. residue q 1) (residue 0 0)

  product-near : (d e : ℕ) (x y : Vector q)
      → AreCohomologous q G (d + e) (k (d + e) (multiply q Γ K S d e x y)) (cup q d (k d x) (k e y))
  product-near d e x y =
      let a : GradedClass q Γ K S = mul q Γ K S (class_of q Γ K S d x) (class_of q Γ K S e y) in
      subst (λ (a : GradedClass q Γ K S). AreCohomologous q G a.0 (cocycle_of q Γ K S a)
      (cup q d (k d x) (k e y)))
      (sym (class-product q Γ K S d e x y))
      ((P.product (class_of q Γ K S d x) (class_of q Γ K S e y) a.1).1 refl)

  injective : (d : ℕ) (x y : Vector q) → IsOfDegree q Γ K S d x → IsOfDegree q Γ K S d y
      → AreCohomologous q G d (k d x) (k d y)
      → x ≡ y
  injective d x y i j h =
      sym (vector-class q Γ K S d x i) ∙ ap (extended (r d))
      (classes.injective M d (λ i. x i.0) (λ i. y i.0) h)
      ∙ vector-class q Γ K S d y j

  surjective : (d : ℕ) (u : Cochain q G) → IsNormalisedCocycle q (monoid Γ) d u
      → (x : Vector q) × IsOfDegree q Γ K S d x × AreCohomologous q G d u (k d x)
  surjective d u z =
      let c : Class q Γ K S d = (classes.surjective M d u z.0 z.1).0 in (
        extended (r d) c,
        (λ i l. extended-past (r d) c i l),
        subst (λ (e : Class q Γ K S d). AreCohomologous q G d u (bar_cocycle q Γ K S d e))
            (sym (fun_ext (λ i. extended-at (r d) c i))) (classes.surjective M d u z.0 z.1).1,
      )

  abbrev Cups : CupClaims q Γ
  Cups = cup-claims q Γ

  pub compared : IsComparison (Vector q) (Cochain q G) (cohomology q Γ K S) (cochains (Below n) q) k
      (AreCohomologous q G)
  compared = record {
    close-refl = near-refl q G;
    close-trans = near-trans q G;
    close-add = λ d u v u' v' h j. near-add q G d u u' v v' h j;
    close-mul = λ d e u v x h. Cups.left d e u v (k e x) (closed e x) h;
    one = one-near;
    zero = λ d. fun_ext ((class-map-claims q Γ K S).zero d);
    add = λ d x y. fun_ext ((class-map-claims q Γ K S).sum d (λ i. x i.0) (λ i. y i.0));
    mul = product-near;
  }

  pub cohomology-is : IsCohomology (Vector q) (Cochain q G) (cohomology q Γ K S) (cochains (Below n) q)
      (IsOfDegree q Γ K S) k
      (IsNormalisedCocycle q (monoid Γ)) (AreCohomologous q G)
  cohomology-is = record {
    comparison = compared;
    close-sym = near-sym q G;
    close-right = λ d e x u v h. Cups.right d e (k d x) u v (closed d x) h;
    close-left = λ d e u v x w h j. Cups.left d e u v w (closed-near e x w j) h;
    injective = injective;
    surjective = surjective;
    in-zero = λ d i l. refl;
    in-add = λ d x y h j i l. ap₂ (plus q) (h i l) (j i l) ∙ (Fp q G).add-zero (residue q 0);
  }
