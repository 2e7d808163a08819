-- Polynomials of degree 0 are numbers.
use Rattle.std.proofs.Common.{◌≡◌, ◌≢◌, ℕ, suc, ◌+◌, ◌<◌, List, [], ◌∷◌, true, false, cond, ◌⊎◌, inl, inr}
use Rattle.std.proofs.Common.{arith, ap, ap₂, sym, ◌∙◌, refl}
use Rattle.std.specs.List.{AllByRecursion as Each}
use Rattle.linear_algebra.specs.Modular.{IsCongruent}
use Rattle.graded_polynomials.specs.Monomials.{same}
use Rattle.graded_polynomials.specs.Polynomials.{Term, Polynomial, coefficient, IsOver, IsInIdeal}
use Rattle.graded_algebra.specs.Algebras.{Algebra, Generator, degrees, evaluate, value, times}
use Rattle.graded_algebra.specs.Algebras.{IsGradedCommutative}
use Rattle.linear_algebra.proofs.Congruences.{congruent_eq}
use Rattle.graded_polynomials.proofs.Terms.{cases-same}
use Rattle.graded_polynomials.proofs.Monomials.{only-one}
use Rattle.graded_algebra.proofs.Vectors.{times-sum}
use Rattle.graded_algebra.proofs.Ideals.{ideal-zero}

module _ (q : ℕ) (V : Type 0) (A : Algebra V) (In : ℕ → V → Type 0) (L : IsGradedCommutative q V A In)
    (gs : List (Generator V)) where
  evaluate-nil : (hs : List (Generator V)) → evaluate A hs [] ≡ A.one
  evaluate-nil [] = refl
  evaluate-nil (h ∷ hs) = refl

  module _ (positive : Each (λ d. 0 < d) (degrees gs)) where
    pub value-constant : (f : List Term) → IsOver q (degrees gs) 0 f
        → value A gs f ≡ times A (coefficient f []) A.one
    value-constant [] o = refl
    value-constant (t ∷ f) o =
        ap₂ A.add (ap (times A t.scalar) (ap (evaluate A gs) m ∙ evaluate-nil gs)) (value-constant f o.1)
        ∙ sym (times-sum q V A L.space t.scalar (coefficient f []) A.one)
        ∙ ap (λ b. times A (cond b t.scalar 0 + coefficient f []) A.one) (sym (ap (λ n. same n []) m))
      where
        m : t.monomial ≡ []
        m = only-one q (degrees gs) t.monomial positive o.0

    coefficient-constant : (f : List Term) → IsOver q (degrees gs) 0 f → (m : List ℕ) → m ≢ []
        → coefficient f m ≡ 0
    coefficient-constant [] o m ne = refl
    coefficient-constant (t ∷ f) o m ne = go (cases-same t.monomial m) (coefficient-constant f o.1 m ne)
      where
        go : ((same t.monomial m ≡ true) × (t.monomial ≡ m))
            ⊎ ((same t.monomial m ≡ false) × (t.monomial ≢ m)) → coefficient f m ≡ 0
            → coefficient (t ∷ f) m ≡ 0
        go (inl e) z = absurd (ne (sym e.1 ∙ only-one q (degrees gs) t.monomial positive o.0))
        go (inr e) z = rw e.0 (omega (arith, z))

    module _ (free : (c : ℕ) → times A c A.one ≡ A.zero → IsCongruent (suc q) c 0) where
      -- a number of value 0 is 0
      pub constant-zero : (f : List Term) → IsOver q (degrees gs) 0 f → value A gs f ≡ A.zero → (m : List ℕ)
          → IsCongruent (suc q) (coefficient f m) 0
      constant-zero f o z m = go (cases-same m [])
        where
          go : ((same m [] ≡ true) × (m ≡ [])) ⊎ ((same m [] ≡ false) × (m ≢ []))
              → IsCongruent (suc q) (coefficient f m) 0
          go (inl e) = rw e.1 (free (coefficient f []) (sym (value-constant f o) ∙ z))
          go (inr e) = congruent_eq (coefficient-constant f o m e.1)

      pub constant-ideal : (rs : List Polynomial) → (f : List Term) → IsOver q (degrees gs) 0 f
          → value A gs f ≡ A.zero → IsInIdeal q (degrees gs) rs 0 f
      constant-ideal rs f o z = ideal-zero q (degrees gs) rs 0 f (constant-zero f o z)
