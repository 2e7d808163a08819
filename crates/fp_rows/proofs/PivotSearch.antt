-- A binary search among the pivots that are kept beside the rows of a reduced echelon list.
use Rattle.std.proofs.Common.{◌≡◌, ℕ, ◌<◌, ◌≤◌, ◌⊎◌, inl, inr, List, length, map, get_or, arith, ap, sym, ◌∙◌}
use Rattle.std.proofs.lemmas.Bool.{cases_eq, cases_lt}
use Rattle.std.proofs.lemmas.List.{length-map}
use Rattle.std.proofs.lemmas.List.Sorted.{searched}
use Rattle.std.specs.List.Sorted.{IsBinarySearchResult}
use Rattle.std.specs.Ordering.{nat_cmp}
use Rattle.std.specs.Prelude.{Result, Ok, Err, is_ok, MatchResult}
use Rattle.linear_algebra.specs.Rows.{row, pivot, is_pivot, IsEchelon}
use Rattle.linear_algebra.proofs.PivotTests.{found-if-pivot, not-found-if-none}
use Rattle.fp_rows.proofs.ListLemmas.{kept_pivot}

pub pivot-searched : (rows : List (List ℕ)) (pivots : List ℕ) (j : ℕ) (r : Result ℕ ℕ)
    → IsEchelon rows → pivots ≡ map pivot rows → IsBinarySearchResult (λ y. nat_cmp y j) pivots r
    → is_ok r ≡ is_pivot rows j
pivot-searched rows pivots j r E e found = answer r (searched pivots j r found rise)
  where
    count : length pivots ≡ length rows
    count = ap length e ∙ length-map rows pivot

    at : (i : ℕ) → i < length rows → get_or pivots i 0 ≡ pivot (row rows i)
    at i l = kept_pivot rows pivots i e l

    rise-at : (i k : ℕ) → i ≤ k → k < length rows → (i ≡ k) ⊎ (i ≡ k → ⊥)
        → get_or pivots i 0 ≤ get_or pivots k 0
    rise-at i k l b (inl s) = omega (arith, ap (λ n. get_or pivots n 0) s)
    rise-at i k l b (inr n) = let s : i < k = omega arith in
        let up = E.ascending i k s b in omega (arith, up, at i (omega arith), at k b)

    rise : (i k : ℕ) → i ≤ k → k < length pivots → get_or pivots i 0 ≤ get_or pivots k 0
    rise i k l b = rise-at i k l (omega (arith, count)) (cases_eq i k)

    answer : (r : Result ℕ ℕ) → MatchResult r (λ i. (i < length pivots) × (get_or pivots i 0 ≡ j))
        (λ i. (i ≤ length pivots) × ((k : ℕ) → k < i → get_or pivots k 0 < j)
        × ((k : ℕ) → i ≤ k → k < length pivots → j < get_or pivots k 0))
        → is_ok r ≡ is_pivot rows j
    answer (Ok i) h = let l : i < length rows = omega (arith, h.0, count) in
        sym (found-if-pivot rows j (i, l, sym (at i l) ∙ h.1))
    answer (Err i) h = sym (not-found-if-none rows j (λ k l s. apart k l s (cases_lt k i)))
      where
        apart : (k : ℕ) → k < length rows → pivot (row rows k) ≡ j → (k < i) ⊎ (i ≤ k) → ⊥
        apart k l s (inl b) = omega (arith, h.1 k b, at k l, s)
        apart k l s (inr b) = omega (arith, h.2 k b (omega (arith, l, count)), at k l, s)
