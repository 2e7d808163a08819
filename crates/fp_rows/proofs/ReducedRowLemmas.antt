-- The tests of a row of a reduced row echelon list, by the pivots that are kept beside the rows.
use Rattle.std.proofs.Common.{◌≡◌, ◌≢◌, ℕ, ◌<◌, List, length, map, get_or, arith, ap, sym, ◌∙◌}
use Rattle.std.proofs.lemmas.List.{length-map}
use Rattle.linear_algebra.specs.Rows.{entry, row, pivot}
use Rattle.fp_rows.specs.Values.{RowValue}
use Rattle.fp_rows.specs.Lists.{lists}
use Rattle.fp_rows.specs.ReducedRows.{IsReducedRow}
use Rattle.fp_rows.proofs.ListLemmas.{row_lists, length-lists, kept_pivot}

module _ (vs : List RowValue) (pivots : List ℕ) (k : ℕ) (x : RowValue) (e : pivots ≡ map pivot (lists vs))
    (l : k < length vs) (is : x ≡ get_or vs k x) where
  same : row (lists vs) k ≡ x.entries
  same = row_lists vs k x l is

  inside : (i : ℕ) → i < length pivots → i < length (lists vs)
  inside i h = let n = ap length e in omega (arith, h, n, length-map (lists vs) pivot)

  outside : (i : ℕ) → i < length (lists vs) → i < length pivots
  outside i h = let n = ap length e in omega (arith, h, n, length-map (lists vs) pivot)

  here : k < length (lists vs)
  here = let n = length-lists vs in omega (arith, l, n)

  kept : (i : ℕ) → i < length (lists vs) → get_or pivots i 0 ≡ pivot (row (lists vs) i)
  kept i h = kept_pivot (lists vs) pivots i e h

  abbrev IsOne : Type 0
  IsOne = (get_or pivots k 0 < length x.entries) × (entry x.entries (get_or pivots k 0) ≡ 1)

  abbrev ComesAfter : Type 0
  ComesAfter = (i : ℕ) → i < k → get_or pivots i 0 < get_or pivots k 0

  abbrev IsZeroAtOthers : Type 0
  IsZeroAtOthers = (i : ℕ) → i < length pivots → i ≢ k → entry x.entries (get_or pivots i 0) ≡ 0

  pub reduced-row : IsOne → ComesAfter → IsZeroAtOthers → IsReducedRow (lists vs) k
  reduced-row one after zero = record {
    not_zero = let a = kept k here in let b = ap length same in omega (arith, one.0, a, b);
    monic = ap (λ r. entry r (pivot (row (lists vs) k))) same ∙ ap (entry x.entries) (sym (kept k here))
        ∙ one.1;
    after_earlier = λ i h. let a = kept k here in let b = kept i (omega (arith, h, here)) in
        omega (arith, a, b, after i h);
    zero_at_others = λ i h n. ap (λ r. entry r (pivot (row (lists vs) i))) same
        ∙ ap (entry x.entries) (sym (kept i h)) ∙ zero i (outside i h) n;
  }

  pub one-of : IsReducedRow (lists vs) k → IsOne
  one-of R = (
    let a = kept k here in let b = ap length same in omega (arith, R.not_zero, a, b),
    ap (entry x.entries) (kept k here) ∙ ap (λ r. entry r (pivot (row (lists vs) k))) (sym same) ∙ R.monic,
  )

  pub after-of : IsReducedRow (lists vs) k → ComesAfter
  after-of R i h = let a = kept k here in let b = kept i (omega (arith, h, here)) in
      omega (arith, a, b, R.after_earlier i h)

  pub zero-of : IsReducedRow (lists vs) k → IsZeroAtOthers
  zero-of R i h n = ap (entry x.entries) (kept i (inside i h))
      ∙ ap (λ r. entry r (pivot (row (lists vs) i))) (sym same) ∙ R.zero_at_others i (inside i h) n
