-- A subspace has one reduced echelon list.
use Rattle.std.proofs.Common.{◌≡◌, ◌≢◌, ℕ, ◌*◌, ◌<◌, List, [], length, arith, ap, sym, ◌∙◌}
use Rattle.std.proofs.lemmas.List.{ext_get_or}
use Rattle.linear_algebra.specs.Modular.{IsCongruent}
use Rattle.linear_algebra.specs.Rows.{entry, row, IsMatrix, IsCombination, AreInSpan, pivot, IsEchelon}
use Rattle.linear_algebra.proofs.Congruences.{congruent_trans, congruent_eq, congruent_sym}
use Rattle.linear_algebra.proofs.Congruences.{congruent_mul_right, same_below}
use Rattle.linear_algebra.proofs.Sums.{sum_below-one}
use Rattle.linear_algebra.proofs.PivotLemmas.{before_pivot}
use Rattle.linear_algebra.proofs.Pivots.{Combines, HasPivots, SameValues, same_values_count, same_values_upto}
use Rattle.linear_algebra.proofs.Pivots.{first_place_is_pivot, coefficient_at_pivot}

-- the rows of an echelon list, as functions of the place
pub HasPivots-from_echelon : {rows : List (List ℕ)} → IsEchelon rows →
    HasPivots (length rows) (λ i. pivot (row rows i)) (λ i j. entry (row rows i) j)
HasPivots-from_echelon {rows} E = record {
  monic = E.monic;
  cleared = E.cleared;
  before = λ i j l. before_pivot (row rows i) j;
  ascending = E.ascending;
}

pub Combines-from_combination : {p : ℕ} {u : ℕ → ℕ} {rows : List (List ℕ)} {v : ℕ → ℕ}
    → IsCombination p u rows v →
    Combines p (length rows) u (λ i j. entry (row rows i) j) v
Combines-from_combination h = record { each = h.each }

pub one_not_zero : {p : ℕ} → 1 < p → IsCongruent p 1 0 → ⊥
one_not_zero {p} l h = omega (arith, same_below h l (omega arith))

-- each pivot of a list in the span is a pivot
pub pivot_is_pivot : {p : ℕ} → 1 < p → (E F : List (List ℕ)) → IsEchelon E → IsEchelon F → AreInSpan p E F →
    (k : ℕ) → k < length F → (i : ℕ) × (i < length E) × (pivot (row E i) ≡ pivot (row F k))
pivot_is_pivot {p} l E F e f s k b = let c = s k b in
    first_place_is_pivot p (length E) c.0 (λ i j. entry (row E i) j) (λ i. pivot (row E i))
    (λ j. entry (row F k) j)
    (HasPivots-from_echelon e) (Combines-from_combination c.1) (pivot (row F k))
    (λ j m. congruent_eq (before_pivot (row F k) j m))
    (λ z. one_not_zero l (congruent_trans (congruent_eq (sym (f.monic k b))) z))

-- a row that is 1 at pivot i and 0 at the others is row i
pub row_from_pivots : (p m : ℕ) (u : ℕ → ℕ) (R : ℕ → ℕ → ℕ) (q v : ℕ → ℕ) → HasPivots m q R
    → Combines p m u R v →
    (i : ℕ) → i < m → v (q i) ≡ 1 → ((k : ℕ) → k < m → k ≢ i → v (q k) ≡ 0) → (j : ℕ)
    → IsCongruent p (v j) (R i j)
row_from_pivots p m u R q v P c i l own others j =
    congruent_trans (congruent_sym (c.each j))
    (congruent_trans (sum_below-one p m i (λ k. u k * R k j) l
    (λ k b ne. congruent_trans (congruent_mul_right (R k j)
    (congruent_trans (coefficient_at_pivot p m u R q v P c k b) (congruent_eq (others k b ne))))
    (congruent_eq (omega arith))))
    (congruent_trans (congruent_mul_right (R i j)
    (congruent_trans (coefficient_at_pivot p m u R q v P c i l) (congruent_eq own)))
    (congruent_eq (omega arith))))

pub same_echelon : {p width : ℕ} → 1 < p → (E F : List (List ℕ)) → IsMatrix p width E → IsMatrix p width F
    → IsEchelon E → IsEchelon F →
    AreInSpan p E F → AreInSpan p F E → E ≡ F
same_echelon {p} {width} l E F a b e f s t = ext_get_or [] E F count (λ i d. same_row i d)
  where
    values : SameValues (length E) (λ i. pivot (row E i)) (length F) (λ i. pivot (row F i))
    values = record {
      left = pivot_is_pivot l F E f e t;
      right = pivot_is_pivot l E F e f s;
      up_left = e.ascending;
      up_right = f.ascending;
    }

    count : length E ≡ length F
    count = same_values_count values

    agree : (i : ℕ) → i < length E → pivot (row E i) ≡ pivot (row F i)
    agree i d = (same_values_upto values (length E) (omega arith) i d).1

    same_row : (i : ℕ) → i < length E → row E i ≡ row F i
    same_row i d = let inF : i < length F = omega (arith, count) in let c = s i inF in
        let A = a i d in let B = b i inF in
        ext_get_or 0 (row E i) (row F i) (A.length_is ∙ sym B.length_is)
        (λ j m. let w : j < width = omega arith in same_below
        (congruent_sym (row_from_pivots p (length E) c.0 (λ i j. entry (row E i) j) (λ i. pivot (row E i))
        (λ j. entry (row F i) j)
        (HasPivots-from_echelon e) (Combines-from_combination c.1) i d
        (ap (entry (row F i)) (agree i d) ∙ f.monic i inF)
        (λ k g ne. ap (entry (row F i)) (agree k g) ∙ f.cleared k i (omega (arith, count)) inF ne) j))
        (A.below j w) (B.below j w))
