-- A subspace with at least as many independent members as a list that spans the whole is the whole.
use Rattle.std.proofs.Common.{◌≡◌, ◌≢◌, ℕ, suc, ◌+◌, ◌*◌, ◌%◌, ◌<◌, ◌≤◌, ◌⊎◌, List, [], ◌∷◌, ◌++◌, length}
use Rattle.std.proofs.Common.{inl, inr, arith, ap, sym, ◌∙◌}
use Rattle.std.proofs.lemmas.Bool.{cases_eq, cases_lt}
use Rattle.std.proofs.lemmas.List.{length_push, get_or_past}
use Rattle.std.proofs.Math.Nat.{zero-mod}
use mathlib.Core.Path.{subst}
use Rattle.linear_algebra.specs.Modular.{IsCongruent, IsFieldModulo, sum_below}
use Rattle.linear_algebra.specs.Rows.{entry, row, IsRow, IsMatrix, IsEchelon, IsInSpan, AreInSpan}
use Rattle.linear_algebra.proofs.Congruences.{congruent_refl, congruent_add, congruent_trans, congruent_eq}
use Rattle.linear_algebra.proofs.Congruences.{congruent_sym, congruent_mul_right}
use Rattle.linear_algebra.proofs.Sums.{sum_below-same, sum_below-vanishes}
use Rattle.linear_algebra.proofs.Pivots.{Combines, coefficient_at_pivot}
use Rattle.linear_algebra.proofs.Dimension.{Dependence, dependent}
use Rattle.linear_algebra.proofs.Independence.{Independent, combine_combinations, combines_from_dependence}
use Rattle.linear_algebra.proofs.Spans.{row_push, row_before_push, are_in_span_with}
use Rattle.linear_algebra.proofs.EchelonLists.{HasPivots-from_echelon}

-- the rows of an echelon list are independent
pub echelon-independent : (p : ℕ) (E : List (List ℕ)) → IsEchelon E
    → Independent p (length E) (λ i j. entry (row E i) j)
echelon-independent p E e = record {
  only_zero = λ u h k l. coefficient_at_pivot p (length E) u (λ i j. entry (row E i) j) _ (λ j. 0)
      (HasPivots-from_echelon e) (record { each = h }) k l;
}

-- x is in the span of independent rows with which it is dependent
pub from-dependence : {p : ℕ} (F : IsFieldModulo p) (E' : List (List ℕ))
    (I : Independent p (length E') (λ i j. entry (row E' i) j)) (x : List ℕ)
    (a : ℕ → ℕ) (t : ℕ) → t < suc (length E') → a t % p ≢ 0
    → ((j : ℕ) → IsCongruent p (sum_below (suc (length E')) (λ i. a i * entry (row (E' ++ x ∷ []) i) j)) 0)
    → IsInSpan p E' (entry x)
from-dependence {p} F E' I x a t below nonzero all-zero = last (cases_eq (a m % p) 0)
  where
    m : ℕ
    m = length E'

    apart : (j : ℕ) → sum_below (suc m) (λ i. a i * entry (row (E' ++ x ∷ []) i) j) ≡ sum_below m
        (λ i. a i * entry (row E' i) j) + a m * entry x j
    apart j = omega (
      arith,
      sum_below-same m (λ i. a i * entry (row (E' ++ x ∷ []) i) j) (λ i. a i * entry (row E' i) j)
          (λ i b. ap (λ r. a i * entry r j) (row_before_push E' x i b)),
      ap (λ r. a m * entry r j) (row_push E' x),
    )

    zero-sum : (j : ℕ) → IsCongruent p (sum_below m (λ i. a i * entry (row E' i) j) + a m * entry x j) 0
    zero-sum j = congruent_trans (congruent_eq (sym (apart j))) (all-zero j)

    last : (a m % p ≡ 0) ⊎ (a m % p ≡ 0 → ⊥) → IsInSpan p E' (entry x)
    last (inr n) = let r : (c : ℕ → ℕ) × Combines p m c (λ i j. entry (row E' i) j) (entry x) =
        combines_from_dependence F m (λ i j. entry (row E' i) j) (entry x) a (a m) I zero-sum n in
        (r.0, record { each = r.1.each })
    last (inl z) = absurd (nonzero (place (cases_lt t m)))
      where
        none : IsCongruent p (a m) 0
        none = record { same_remainder = z ∙ sym (zero-mod p) }

        first-zero : (j : ℕ) → IsCongruent p (sum_below m (λ i. a i * entry (row E' i) j)) 0
        first-zero j = congruent_trans (congruent_eq (omega arith))
            (congruent_trans (congruent_add (congruent_refl (sum_below m (λ i. a i * entry (row E' i) j)))
            (congruent_sym (congruent_trans (congruent_mul_right (entry x j) none)
            (congruent_eq (let k : 0 * entry x j ≡ 0 = omega arith in k))))) (zero-sum j))

        place : (t < m) ⊎ (m ≤ t) → a t % p ≡ 0
        place (inl b) = (I.only_zero a first-zero t b).same_remainder ∙ zero-mod p
        place (inr b) = ap (λ k. a k % p) (let e : t ≡ m = omega (arith, below, b) in e) ∙ z

module _ {p : ℕ} (F : IsFieldModulo p) (E E' : List (List ℕ))
    (I : Independent p (length E') (λ i j. entry (row E' i) j)) (h : AreInSpan p E E')
    (l : length E ≤ length E') (x : List ℕ) (s : IsInSpan p E (entry x)) where
  V : List (List ℕ)
  V = E' ++ x ∷ []

  in-E : AreInSpan p E V
  unfolding V
  in-E = are_in_span_with E' x h s

  size : length V ≡ suc (length E')
  unfolding V
  size = let e : length (E' ++ x ∷ []) ≡ length E' + 1 = length_push E' x in omega (arith, e)

  chosen : (i : ℕ) → (i < length V) ⊎ (length V ≤ i) → ℕ → ℕ
  chosen i (inl m) = (in-E i m).0
  chosen i (inr m) = λ k. 0

  C : ℕ → ℕ → ℕ
  C i = chosen i (cases_lt i (length V))

  right : (i : ℕ) → i < length V → Combines p (length E) (C i) (λ k j. entry (row E k) j)
      (λ j. entry (row V i) j)
  unfolding C chosen
  right i m = go (cases_lt i (length V))
    where
      go : (o : (i < length V) ⊎ (length V ≤ i))
          → Combines p (length E) (chosen i o) (λ k j. entry (row E k) j) (λ j. entry (row V i) j)
      go (inl b) = record { each = (in-E i b).1.each }
      go (inr b) = absurd (omega (arith, m, b))

  pub same-dimension : IsInSpan p E' (entry x)
  unfolding V
  same-dimension = go (dependent F (length E) (suc (length E')) C
      (let k : length E < suc (length E') = omega (arith, l) in k))
    where
      go : Dependence p (suc (length E')) (length E) C → IsInSpan p E' (entry x)
      go D = from-dependence F E' I x D.coefficients D.place D.below D.nonzero
          (λ j. congruent_trans (congruent_sym
          ((combine_combinations p (suc (length E')) (length E) D.coefficients C
          (λ k j. entry (row E k) j) (λ i j. entry (row V i) j)
          (λ i b. right i (subst (λ k. i < k) (sym size) b))).each j))
          (sum_below-vanishes p (length E)
          (λ k. sum_below (suc (length E')) (λ i. D.coefficients i * C i k) * entry (row E k) j)
          (λ k b. congruent_trans (congruent_mul_right (entry (row E k) j) (D.vanishes k b))
          (congruent_eq (omega arith)))))

-- as many independent rows as there are places span every row
pub full : {p : ℕ} (F : IsFieldModulo p) (width : ℕ) (E' : List (List ℕ)) → IsMatrix p width E'
    → Independent p (length E') (λ i j. entry (row E' i) j) → length E' ≡ width
    → (x : List ℕ) → IsRow p width x → IsInSpan p E' (entry x)
full {p} F width E' M I e x r = go (dependent F width (suc (length E'))
    (λ i j. entry (row (E' ++ x ∷ []) i) j) (let k : width < suc (length E') = omega (arith, e) in k))
  where
    past : (y : List ℕ) → IsRow p width y → (j : ℕ) → width ≤ j → entry y j ≡ 0
    past y s j l = get_or_past y j 0 (let k : length y ≡ width = s.length_is in omega (arith, k, l))

    past-V : (i j : ℕ) → i < suc (length E') → width ≤ j → entry (row (E' ++ x ∷ []) i) j ≡ 0
    past-V i j l w = at (cases_lt i (length E'))
      where
        at : (i < length E') ⊎ (length E' ≤ i) → entry (row (E' ++ x ∷ []) i) j ≡ 0
        at (inl b) = rw (row_before_push E' x i b) (past (row E' i) (M i b) j w)
        at (inr b) = rw (let k : i ≡ length E' = omega (arith, l, b) in k, row_push E' x) (past x r j w)

    go : Dependence p (suc (length E')) width (λ i j. entry (row (E' ++ x ∷ []) i) j)
        → IsInSpan p E' (entry x)
    go D = from-dependence F E' I x D.coefficients D.place D.below D.nonzero (λ j. place j (cases_lt j width))
      where
        place : (j : ℕ) → (j < width) ⊎ (width ≤ j)
            → IsCongruent p (sum_below (suc (length E'))
            (λ i. D.coefficients i * entry (row (E' ++ x ∷ []) i) j)) 0
        place j (inl b) = D.vanishes j b
        place j (inr b) = sum_below-vanishes p (suc (length E'))
            (λ i. D.coefficients i * entry (row (E' ++ x ∷ []) i) j)
            (λ i l. congruent_eq (ap (λ k. D.coefficients i * k) (past-V i j l b)
            ∙ (let z : D.coefficients i * 0 ≡ 0 = omega arith in z)))
