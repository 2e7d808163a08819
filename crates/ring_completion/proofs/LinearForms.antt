-- Combinations by signs, and functions that are given at the places of a list.
use Rattle.std.proofs.Common.{◌≡◌, ◌≢◌, ℕ, zero, suc, ◌+◌, ◌*◌, ◌%◌, ◌<◌, List, [], ◌∷◌, length, true, false}
use Rattle.std.proofs.Common.{cond, eqb, ◌⊎◌, inl, inr, arith, ap, ap₂, sym, ◌∙◌}
use Rattle.std.specs.Prelude.{slice_index_or}
use Rattle.std.proofs.lemmas.Bool.{cases_Bool}
use Rattle.std.specs.List.{AllByRecursion as Each}
use Rattle.linear_algebra.specs.Modular.{IsCongruent}
use Rattle.linear_algebra.proofs.Congruences.{congruent_eq, congruent_trans}
use Rattle.graded_polynomials.specs.Monomials.{fits, joined, swaps, sign, same}
use Rattle.graded_polynomials.specs.Polynomials.{Term, multiple}
use Rattle.graded_polynomials.proofs.Terms.{cases-same}
use Rattle.graded_algebra.specs.Algebras.{Algebra, linear, times, IsSpace}
use Rattle.graded_algebra.proofs.Evaluation.{sign-sum}
use Rattle.graded_algebra.proofs.Vectors.{zero-add, times-one, times-add, times-zero, times-times}
use Rattle.graded_algebra.proofs.Vectors.{times-congruent}
use Rattle.ring_completion.specs.Candidates.{IsListed}
use Rattle.ring_completion.specs.Completions.{alone}

-- a sign twice is 1
pub sign-square : (q n : ℕ) → IsCongruent (suc q) (sign q n * sign q n) 1
sign-square q n = congruent_trans (sign-sum q n n)
    (congruent_eq (let e : (n + n) % 2 ≡ 0 = omega arith in ap (λ k. cond (eqb k 0) 1 q) e))

module _ (q : ℕ) (W : Type 0) (B : Algebra W) (S : IsSpace q W B) where
  pub sign-twice : (n : ℕ) (x : W) → times B (sign q n) (times B (sign q n) x) ≡ x
  sign-twice n x = times-times q W B S (sign q n) (sign q n) x ∙ times-congruent q W B S x (sign-square q n)
      ∙ times-one q W B S x

  pub linear-alone : (u : List ℕ → W) (m : List ℕ) → linear B u (alone m) ≡ u m
  linear-alone u m = S.add-zero (times B 1 (u m)) ∙ times-one q W B S (u m)

  -- a function that is a multiple of another at each term
  pub linear-times : (u v : List ℕ → W) (c : ℕ) (P : List ℕ → Type 0) (g : List Term)
      → Each (λ t. P t.monomial) g
      → ((m : List ℕ) → P m → u m ≡ times B c (v m)) → linear B u g ≡ times B c (linear B v g)
  linear-times u v c P [] h e = sym (times-zero q W B S c)
  linear-times u v c P (t ∷ g) h e =
      ap₂ B.add (ap (times B t.scalar) (e t.monomial h.0) ∙ times-times q W B S t.scalar c _
      ∙ ap (λ k. times B k (v t.monomial)) (let z : t.scalar * c ≡ c * t.scalar = omega arith in z)
      ∙ sym (times-times q W B S c t.scalar _)) (linear-times u v c P g h.1 e)
      ∙ sym (times-add q W B S c _ _)

  -- the terms of a multiple, one by one
  pub linear-multiple : (ds : List ℕ) (u : List ℕ → W) (a : List ℕ) (t : Term) (f : List Term)
      → linear B u (multiple q ds 1 a (t ∷ f))
      ≡ B.add (times B t.scalar (linear B u (multiple q ds 1 a (alone t.monomial))))
      (linear B u (multiple q ds 1 a f))
  linear-multiple ds u a t f = go (cases_Bool (fits q ds (joined a t.monomial)))
    where
      s : ℕ
      s = sign q (swaps ds a t.monomial)

      go : (fits q ds (joined a t.monomial) ≡ true) ⊎ (fits q ds (joined a t.monomial) ≡ false)
          → linear B u (multiple q ds 1 a (t ∷ f))
          ≡ B.add (times B t.scalar (linear B u (multiple q ds 1 a (alone t.monomial))))
          (linear B u (multiple q ds 1 a f))
      go (inl h) = rw h (ap (λ z. B.add z (linear B u (multiple q ds 1 a f)))
          (ap (λ k. times B k (u (joined a t.monomial)))
          (let z : 1 * (s * t.scalar) ≡ t.scalar * (1 * (s * 1)) = omega arith in z)
          ∙ sym (times-times q W B S t.scalar (1 * (s * 1)) _) ∙ ap (times B t.scalar) (sym (S.add-zero _))))
      go (inr h) = rw h
          (sym (ap (λ z. B.add z (linear B u (multiple q ds 1 a f))) (times-zero q W B S t.scalar)
          ∙ zero-add q W B S _))

  -- a function that is given at the places of a list
  abbrev pub at : List (List ℕ) → (ℕ → W) → List ℕ → W
  at [] vs m = B.zero
  at (a ∷ ns) vs m = cond (same a m) (vs 0) (at ns (λ k. vs (suc k)) m)

  pub at-has : (P : List ℕ → W → Type 0) (ns : List (List ℕ)) (vs : ℕ → W)
      → ((k : ℕ) → k < length ns → P (slice_index_or ns k []) (vs k))
      → (m : List ℕ) → IsListed ns m → P m (at ns vs m)
  at-has P [] vs h m i = absurd (let l = i.1 in omega (arith, l))
  at-has P (a ∷ ns) vs h m i =
      go (cases-same a m) i (at-has P ns (λ k. vs (suc k)) (λ k l. h (suc k) (omega arith)) m)
    where
      go : ((same a m ≡ true) × (a ≡ m)) ⊎ ((same a m ≡ false) × (a ≢ m)) → IsListed (a ∷ ns) m
          → (IsListed ns m → P m (at ns (λ k. vs (suc k)) m))
          → P m (cond (same a m) (vs 0) (at ns (λ k. vs (suc k)) m))
      go (inl e) i ih = rw e.0 (let p : P a (vs 0) = h 0 (omega arith) in rw e.1 at p)
      go (inr e) (zero, l, z) ih = absurd (e.1 z)
      go (inr e) (suc k, l, z) ih = rw e.0 (ih (k, omega arith, z))
