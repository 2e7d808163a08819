-- Values of polynomials: the value depends on the coefficients alone, and is linear and multiplicative.
use Rattle.std.proofs.Common.{◌≡◌, ◌≢◌, ℕ, zero, suc, ◌+◌, ◌*◌, ◌≤◌, List, [], ◌∷◌, ◌++◌, length, true, false}
use Rattle.std.proofs.Common.{cond, ◌⊎◌, inl, inr, arith, ap, ap₂, sym, ◌∙◌, refl}
use Rattle.std.proofs.lemmas.Bool.{cases_Bool}
use Rattle.linear_algebra.specs.Modular.{IsCongruent}
use Rattle.graded_polynomials.specs.Monomials.{same, joined, swaps, sign, fits, degree}
use Rattle.graded_polynomials.specs.Polynomials.{Term, coefficient, scaled, multiple, IsSame, IsOver, product}
use Rattle.graded_algebra.specs.Algebras.{Algebra, Generator, degrees, evaluate, times, linear, value}
use Rattle.graded_algebra.specs.Algebras.{IsSpace, IsGradedCommutative}
use Rattle.linear_algebra.proofs.Congruences.{congruent_trans, congruent_eq, congruent_add, to_congruent}
use Rattle.linear_algebra.proofs.Congruences.{congruent_refl}
use Rattle.graded_algebra.proofs.Vectors.{zero-add, times-add, times-zero, times-sum, times-times}
use Rattle.graded_algebra.proofs.Vectors.{times-congruent, equal-from, mul-zero, mul-times, zero-mul}
use Rattle.graded_algebra.proofs.Vectors.{times-mul}
use Rattle.graded_algebra.proofs.Evaluation.{evaluate-mul, evaluate-unfit}
use Rattle.graded_polynomials.proofs.Terms.{cases-same, removed, length-removed, coefficient-removed}
use Rattle.graded_polynomials.proofs.Terms.{coefficient-kept, coefficient-append, coefficient-scaled}

module _ (q : ℕ) (V : Type 0) (A : Algebra V) (S : IsSpace q V A) where
  pub linear-append : (u : List ℕ → V) (f g : List Term)
      → linear A u (f ++ g) ≡ A.add (linear A u f) (linear A u g)
  linear-append u [] g = sym (zero-add q V A S (linear A u g))
  linear-append u (t ∷ f) g = ap (A.add (times A t.scalar (u t.monomial))) (linear-append u f g)
      ∙ sym (S.add-assoc _ _ _)

  pub linear-scaled : (u : List ℕ → V) (c : ℕ) (f : List Term)
      → linear A u (scaled c f) ≡ times A c (linear A u f)
  linear-scaled u c [] = sym (times-zero q V A S c)
  linear-scaled u c (t ∷ f) =
      ap₂ A.add (sym (times-times q V A S c t.scalar (u t.monomial))) (linear-scaled u c f)
      ∙ sym (times-add q V A S c _ _)

  -- the terms at m, and the others
  linear-split : (u : List ℕ → V) (m : List ℕ) (f : List Term)
      → linear A u f ≡ A.add (times A (coefficient f m) (u m)) (linear A u (removed m f))
  linear-split u m [] = sym (S.add-zero A.zero)
  linear-split u m (t ∷ f) = ap (A.add (times A t.scalar (u t.monomial))) (linear-split u m f)
      ∙ go (cases-same t.monomial m)
    where
      C : V
      C = times A (coefficient f m) (u m)

      R : V
      R = linear A u (removed m f)

      go : ((same t.monomial m ≡ true) × (t.monomial ≡ m)) ⊎ ((same t.monomial m ≡ false) × (t.monomial ≢ m))
          → A.add (times A t.scalar (u t.monomial)) (A.add C R)
          ≡ A.add (times A (cond (same t.monomial m) t.scalar 0 + coefficient f m) (u m))
          (linear A u (cond (same t.monomial m) (removed m f) (t ∷ removed m f)))
      go (inl e) = rw e.0 (ap (λ z. A.add (times A t.scalar (u z)) (A.add C R)) e.1
          ∙ sym (S.add-assoc _ _ _) ∙ ap (λ z. A.add z R)
          (sym (times-sum q V A S t.scalar (coefficient f m) (u m))))
      go (inr e) = rw e.0 (sym (S.add-assoc _ _ _) ∙ ap (λ z. A.add z R) (S.add-comm _ _) ∙ S.add-assoc _ _ _
          ∙ ap (λ k. A.add (times A k (u m)) (A.add (times A t.scalar (u t.monomial)) R))
          (let k : coefficient f m ≡ 0 + coefficient f m = omega arith in k))

  -- a sum of terms with all coefficients 0 is 0
  linear-vanishes : (u : List ℕ → V) (k : ℕ) (f : List Term) → length f ≤ k
      → ((m : List ℕ) → IsCongruent (suc q) (coefficient f m) 0) → linear A u f ≡ A.zero
  linear-vanishes u k [] l h = refl
  linear-vanishes u zero (t ∷ f) l h = absurd (omega arith)
  linear-vanishes u (suc k) (t ∷ f) l h =
      linear-split u t.monomial (t ∷ f)
      ∙ ap₂ A.add (times-congruent q V A S (u t.monomial) (h t.monomial))
      (linear-vanishes u k (removed t.monomial (t ∷ f)) shorter zeros)
      ∙ S.add-zero A.zero
    where
      shorter : length (removed t.monomial (t ∷ f)) ≤ k
      shorter = go (cases-same t.monomial t.monomial)
        where
          go : ((same t.monomial t.monomial ≡ true) × (t.monomial ≡ t.monomial))
              ⊎ ((same t.monomial t.monomial ≡ false) × (t.monomial ≢ t.monomial))
              → length (removed t.monomial (t ∷ f)) ≤ k
          go (inl e) = rw e.0 (omega (arith, l, length-removed t.monomial f))
          go (inr e) = absurd (e.1 refl)

      zeros : (m : List ℕ) → IsCongruent (suc q) (coefficient (removed t.monomial (t ∷ f)) m) 0
      zeros m = go (cases-same m t.monomial)
        where
          go : ((same m t.monomial ≡ true) × (m ≡ t.monomial))
              ⊎ ((same m t.monomial ≡ false) × (m ≢ t.monomial))
              → IsCongruent (suc q) (coefficient (removed t.monomial (t ∷ f)) m) 0
          go (inl e) = congruent_eq (ap (coefficient (removed t.monomial (t ∷ f))) e.1
              ∙ coefficient-removed t.monomial (t ∷ f))
          go (inr e) = congruent_trans (congruent_eq (coefficient-kept t.monomial (t ∷ f) m e.1)) (h m)

  pub linear-same : (u : List ℕ → V) (f g : List Term) → IsSame q f g → linear A u f ≡ linear A u g
  linear-same u f g h =
      equal-from q V A S _ _
      (ap (A.add (linear A u f)) (sym (linear-scaled u q g)) ∙ sym (linear-append u f (scaled q g))
      ∙ linear-vanishes u (length (f ++ scaled q g)) (f ++ scaled q g) (omega arith)
      (λ m. congruent_trans (congruent_eq (coefficient-append f (scaled q g) m
      ∙ ap (λ z. coefficient f m + z) (coefficient-scaled q g m)))
      (congruent_trans (congruent_add (h.at m) (congruent_refl (q * coefficient g m)))
      (to_congruent 0 (coefficient g m) (omega arith)))))

module _ (q : ℕ) (V : Type 0) (A : Algebra V) (In : ℕ → V → Type 0) (L : IsGradedCommutative q V A In) where
  -- the value of a multiple is the product of the values
  pub value-multiple : (gs : List (Generator V)) (c : ℕ) (m : List ℕ) (d e : ℕ) (f : List Term)
      → degree (degrees gs) m ≡ d → IsOver q (degrees gs) e f
      → value A gs (multiple q (degrees gs) c m f) ≡ times A c (A.mul d e (evaluate A gs m) (value A gs f))
  value-multiple gs c m d e [] k h = sym (ap (times A c) (mul-zero q V A In L _ _ _)
      ∙ times-zero q V A L.space c)
  value-multiple gs c m d e (t ∷ f) k h =
      go (value-multiple gs c m d e f k h.1) (cases_Bool (fits q (degrees gs) (joined m t.monomial)))
      ∙ sym (times-add q V A L.space c _ _) ∙ ap (times A c) (sym (L.mul-right d e (evaluate A gs m) _ _))
    where
      ds : List ℕ
      ds = degrees gs

      s : ℕ
      s = sign q (swaps ds m t.monomial)

      product-is : A.mul d e (evaluate A gs m) (evaluate A gs t.monomial) ≡ times A s
          (evaluate A gs (joined m t.monomial))
      product-is = ap₂ (λ d e. A.mul d e (evaluate A gs m) (evaluate A gs t.monomial)) (sym k)
          (sym h.0.degree_is) ∙ evaluate-mul q V A In L gs m t.monomial

      head-is : times A (c * (s * t.scalar)) (evaluate A gs (joined m t.monomial)) ≡ times A c
          (A.mul d e (evaluate A gs m) (times A t.scalar (evaluate A gs t.monomial)))
      head-is =
          sym (times-times q V A L.space c (s * t.scalar) _)
          ∙ ap (times A c) (ap (λ n. times A n (evaluate A gs (joined m t.monomial)))
          (let k : s * t.scalar ≡ t.scalar * s = omega arith in k)
          ∙ sym (times-times q V A L.space t.scalar s _) ∙ ap (times A t.scalar) (sym product-is)
          ∙ sym (mul-times q V A In L d e t.scalar (evaluate A gs m) (evaluate A gs t.monomial)))

      go : value A gs (multiple q ds c m f) ≡ times A c (A.mul d e (evaluate A gs m) (value A gs f))
          → (fits q ds (joined m t.monomial) ≡ true) ⊎ (fits q ds (joined m t.monomial) ≡ false)
          → value A gs (multiple q ds c m (t ∷ f))
          ≡ A.add (times A c (A.mul d e (evaluate A gs m) (times A t.scalar (evaluate A gs t.monomial))))
          (times A c (A.mul d e (evaluate A gs m) (value A gs f)))
      go rest (inl o) = rw o (ap₂ A.add head-is rest)
      go rest (inr o) = rw o (sym (zero-add q V A L.space _)
          ∙ ap₂ A.add (sym (sym head-is ∙ ap (times A (c * (s * t.scalar)))
          (evaluate-unfit q V A In L gs (joined m t.monomial) o) ∙ times-zero q V A L.space _)) rest)

  -- the value of a product is the product of the values
  pub value-product : (gs : List (Generator V)) (d e : ℕ) (f g : List Term) → IsOver q (degrees gs) d f
      → IsOver q (degrees gs) e g
      → value A gs (product q (degrees gs) f g) ≡ A.mul d e (value A gs f) (value A gs g)
  value-product gs d e [] g h k = sym (zero-mul q V A In L d e (value A gs g))
  value-product gs d e (t ∷ f) g h k =
      linear-append q V A L.space (evaluate A gs) (multiple q (degrees gs) t.scalar t.monomial g)
      (product q (degrees gs) f g)
      ∙ ap₂ A.add
      (value-multiple gs t.scalar t.monomial d e g h.0.degree_is k
      ∙ sym (times-mul q V A In L d e t.scalar (evaluate A gs t.monomial) (value A gs g)))
      (value-product gs d e f g h.1 k)
      ∙ sym (L.mul-left d e _ _ (value A gs g))
