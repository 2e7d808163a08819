-- Generators and relations through a degree present the algebra through that degree.
use Rattle.std.proofs.Common.{◌≡◌, ◌≢◌, ℕ, zero, suc, ◌+◌, ◌<◌, ◌≤◌, List, [], ◌∷◌, true, false, cond, ◌⊎◌}
use Rattle.std.proofs.Common.{inl, inr, arith, ap, ap₂, sym, ◌∙◌, refl}
use Rattle.std.specs.List.{AllByRecursion as Each}
use Rattle.linear_algebra.specs.Modular.{IsCongruent, IsFieldModulo}
use Rattle.graded_polynomials.specs.Monomials.{same}
use Rattle.graded_polynomials.specs.Polynomials.{Term, Polynomial, coefficient, IsOver, IsInIdeal}
use Rattle.graded_algebra.specs.Algebras.{Algebra, Generator, degrees, evaluate, value, times}
use Rattle.graded_algebra.specs.Algebras.{IsGradedCommutative}
use Rattle.graded_algebra.specs.Presentations.{IsValue, IsGenerators, IsRelations, IsBasis}
use Rattle.graded_algebra.specs.Vectors.{Vector, GradedAlgebra, IsOfDegree, algebra, basis}
use Rattle.graded_algebra.specs.Claims.{PresentationClaims}
use Rattle.linear_algebra.proofs.Congruences.{congruent_eq}
use Rattle.graded_polynomials.proofs.Terms.{cases-same}
use Rattle.graded_polynomials.proofs.Monomials.{only-one}
use Rattle.graded_algebra.proofs.Vectors.{times-sum}
use Rattle.graded_algebra.proofs.Values.{value-product}
use Rattle.graded_algebra.proofs.Ideals.{ideal-zero, fits-nil, degree-nil}
use Rattle.graded_algebra.proofs.Relations.{relation-ideal, ideal-value}
use Rattle.graded_algebra.proofs.Superfluous.{relation-needed}
use Rattle.graded_algebra.proofs.Generators.{onto, generator-needed, generators-new, all-new-positive}
use Rattle.graded_algebra.proofs.VectorLemmas.{is-basis, zero-spans, one-free}

module _ (q : ℕ) (V : Type 0) (A : Algebra V) (In : ℕ → V
    → Type 0) (L : IsGradedCommutative q V A In) (gs : List (Generator V)) where
  evaluate-nil : (hs : List (Generator V)) → evaluate A hs [] ≡ A.one
  evaluate-nil [] = refl
  evaluate-nil (h ∷ hs) = refl

  module _ (positive : Each (λ d. 0 < d) (degrees gs)) where
    -- a polynomial of degree 0 is a number
    value-constant : (f : List Term) → IsOver q (degrees gs) 0 f
        → value A gs f ≡ times A (coefficient f []) A.one
    value-constant [] o = refl
    value-constant (t ∷ f) o =
        ap₂ A.add (ap (times A t.scalar) (ap (evaluate A gs) m ∙ evaluate-nil gs)) (value-constant f o.1)
        ∙ sym (times-sum q V A L.space t.scalar (coefficient f []) A.one)
        ∙ ap (λ b. times A (cond b t.scalar 0 + coefficient f []) A.one) (sym (ap (λ n. same n []) m))
      where
        m : t.monomial ≡ []
        m = only-one q (degrees gs) t.monomial positive o.0

    coefficient-constant : (f : List Term) → IsOver q (degrees gs) 0 f → (m : List ℕ) → m ≢ []
        → coefficient f m ≡ 0
    coefficient-constant [] o m ne = refl
    coefficient-constant (t ∷ f) o m ne = go (cases-same t.monomial m) (coefficient-constant f o.1 m ne)
      where
        go : ((same t.monomial m ≡ true) × (t.monomial ≡ m))
            ⊎ ((same t.monomial m ≡ false) × (t.monomial ≢ m)) → coefficient f m ≡ 0
            → coefficient (t ∷ f) m ≡ 0
        go (inl e) z = absurd (ne (sym e.1 ∙ only-one q (degrees gs) t.monomial positive o.0))
        go (inr e) z = rw e.0 (omega (arith, z))

    constant-ideal : (rs : List Polynomial) → ((c : ℕ) → times A c A.one ≡ A.zero → IsCongruent (suc q) c 0)
        → (f : List Term) → IsOver q (degrees gs) 0 f → value A gs f ≡ A.zero
        → IsInIdeal q (degrees gs) rs 0 f
    constant-ideal rs free f o z = ideal-zero q (degrees gs) rs 0 f (λ m. go m (cases-same m []))
      where
        go : (m : List ℕ) → ((same m [] ≡ true) × (m ≡ [])) ⊎ ((same m [] ≡ false) × (m ≢ []))
            → IsCongruent (suc q) (coefficient f m) 0
        go m (inl e) = rw e.1 (free (coefficient f []) (sym (value-constant f o) ∙ z))
        go m (inr e) = congruent_eq (coefficient-constant f o m e.1)

  constant-value : (c : ℕ) (v : V) → v ≡ times A c A.one → IsValue q A gs 0 v
  constant-value c v e = record {
    polynomial = record { scalar = c; monomial = [] } ∷ [];
    over = (
      record {
        within = tt;
        trimmed = tt;
        fitting = fits-nil q (degrees gs);
        degree_is = degree-nil (degrees gs);
      },
      tt,
    );
    value_is = L.space.add-zero _ ∙ ap (times A c) (evaluate-nil gs) ∙ sym e;
  }

  module _ (field : IsFieldModulo (suc q)) (vs : ℕ → List V) (B : (d : ℕ) → IsBasis V A In d (vs d))
      (zero-span : (v : V) → In 0 v → (c : ℕ) × (v ≡ times A c A.one)) (free : (c : ℕ)
      → times A c A.one ≡ A.zero → IsCongruent (suc q) c 0) where
    pub presented : (n : ℕ) (rs : List Polynomial) → IsGenerators q A vs n gs → IsRelations q A gs n rs
        → PresentationClaims q V A In n gs rs
    presented n rs G R = record {
      onto = reach;
      exact = λ d l f o. (λ z. inside d l f o z, λ i. ideal-value q V A In L gs n rs R d f i);
      multiplicative = λ d e f g o p. value-product q V A In L gs d e f g o p;
      generators_needed = λ xs g ys e f o z v. generator-needed q V A In L field gs xs g ys
          (generators-new q V A In L vs B n gs G).0 e f o z v;
      relations_needed = λ xs r ys e i. relation-needed q V A In L gs field positive n rs R xs r ys e i;
    }
      where
        positive : Each (λ d. 0 < d) (degrees gs)
        positive = all-new-positive q V A In L [] gs (generators-new q V A In L vs B n gs G).0

        reach : (d : ℕ) → d ≤ n → (v : V) → In d v → IsValue q A gs d v
        reach zero l v i = constant-value (zero-span v i).0 v (zero-span v i).1
        reach (suc d) l v i = onto q V A In L vs B n gs G d l v i

        inside : (d : ℕ) → d ≤ n → (f : List Term) → IsOver q (degrees gs) d f → value A gs f ≡ A.zero
            → IsInIdeal q (degrees gs) rs d f
        inside zero l f o z = constant-ideal positive rs free f o z
        inside (suc d) l f o z = relation-ideal q V A In L gs field n rs R d l f record {
          over = o;
          vanishes = z;
        }

pub presented-vectors : (q n : ℕ) → IsFieldModulo (suc q)
    → (G : GradedAlgebra q) (gs : List (Generator (Vector q))) (rs : List Polynomial)
    → IsGenerators q (algebra q G) (basis q G) n gs → IsRelations q (algebra q G) gs n rs
    → PresentationClaims q (Vector q) (algebra q G) (IsOfDegree q G) n gs rs
presented-vectors q n F G gs rs g r =
    presented q (Vector q) (algebra q G) (IsOfDegree q G) G.laws gs F (basis q G) (is-basis q G)
    (zero-spans q G) (λ c e. one-free q G c F.above_one e) n rs g r
