-- Vectors with different heads, each 0 at the heads before it.
use Rattle.std.proofs.Common.{◌≡◌, ◌≢◌, ℕ, zero, suc, ◌+◌, ◌*◌, ◌-◌, ◌%◌, ◌<◌, ◌≤◌, ◌⊎◌, List, [], ◌∷◌, ◌++◌}
use Rattle.std.proofs.Common.{length, inl, inr, arith, ap, sym, ◌∙◌}
use Rattle.std.proofs.lemmas.Bool.{cases_eq, cases_lt, cases_order}
use Rattle.std.proofs.lemmas.List.{length_push, ext_get_or}
use Rattle.linear_algebra.specs.Modular.{IsCongruent, IsFieldModulo}
use Rattle.linear_algebra.specs.Rows.{entry, row, pivot, add_multiple, IsRow, IsInSpan, IsReduced}
use Rattle.linear_algebra.proofs.Congruences.{congruent_refl, congruent_add, congruent_trans, congruent_eq}
use Rattle.linear_algebra.proofs.Congruences.{congruent_sym, congruent_mul_right, congruent_minus}
use Rattle.linear_algebra.proofs.Congruences.{congruent_cancel, same_below, to_congruent}
use Rattle.linear_algebra.proofs.Sums.{sum_below-one, sum_below-vanishes}
use Rattle.linear_algebra.proofs.Spans.{in_span_congruent, in_span_row, in_span_add, in_span_zero, row_push}
use Rattle.linear_algebra.proofs.Spans.{row_before_push}
use Rattle.linear_algebra.proofs.AddedRow.{in_span_left, in_span_right}
use Rattle.linear_algebra.proofs.Reducing.{IsReducedUpTo, add_multiple_is_row, entry_congruent}
use Rattle.neg_basis.specs.Bases.{IsBasis, IsReducedMultiple}
use Rattle.neg_basis.specs.Turns.{IsNew}
use Rattle.neg_basis.proofs.Heads.{injective_le}

-- one turn of the reduction
pub reduced_step : {p width : ℕ} {E : List (List ℕ)} {v w : List ℕ} {n : ℕ} → 1 < p → IsBasis p width E
    → n < length E →
    IsReducedUpTo p width E v w n → (c : ℕ) → c ≡ p - entry w (pivot (row E n))
    → IsReducedUpTo p width E v (add_multiple p c w (row E n)) (n + 1)
reduced_step {p} {width} {E} {v} {w} {n} one e l h c f = record {
  is_row = row_is;
  difference = in_span_congruent (λ j. congruent_trans (congruent_eq (omega arith))
      (congruent_add (congruent_sym (each j)) (congruent_refl ((p - 1) * entry v j))))
      (in_span_add c h.difference (in_span_row E n l));
  zero_below = λ k b. go k b (cases_eq k n);
}
  where
    row_is : IsRow p width (add_multiple p c w (row E n))
    row_is = add_multiple_is_row c w (row E n) (omega arith) h.is_row (e.matrix n l)

    each : (j : ℕ) → IsCongruent p (entry (add_multiple p c w (row E n)) j) (entry w j + c * entry (row E n)
        j)
    each = entry_congruent c w (row E n) h.is_row (e.matrix n l)

    zero_at : (j : ℕ) → j < width → IsCongruent p (entry w j + c * entry (row E n) j) 0
        → entry (add_multiple p c w (row E n)) j ≡ 0
    zero_at j b z = same_below (congruent_trans (each j) z) (row_is.below j b) (omega arith)

    go : (k : ℕ) → k < n + 1 → (k ≡ n) ⊎ (k ≡ n → ⊥) → entry (add_multiple p c w (row E n)) (pivot (row E k))
        ≡ 0
    go k b (inl g) = ap (λ i. entry (add_multiple p c w (row E n)) (pivot (row E i))) g
        ∙ zero_at (pivot (row E n)) (e.not_zero n l)
        (to_congruent 0 1 (rw (e.monic n l) (let x = h.is_row.below (pivot (row E n)) (e.not_zero n l) in
        omega arith)))
    go k b (inr ne) = zero_at (pivot (row E k)) (e.not_zero k (omega arith))
        (congruent_eq (rw (h.zero_below k (omega arith), e.zero_before k n (omega arith) l) (omega arith)))

-- a member of the span that is 0 at each head has the coefficients 0
pub coefficients_vanish : {p width : ℕ} {E : List (List ℕ)} {v : ℕ → ℕ} → IsBasis p width E
    → (s : IsInSpan p E v) →
    ((i : ℕ) → i < length E → IsCongruent p (v (pivot (row E i))) 0) → (t i : ℕ) → i < t → i < length E
    → IsCongruent p (s.0 i) 0
coefficients_vanish e s z zero i b l = absurd (omega arith)
coefficients_vanish {p} {width} {E} {v} e s z (suc t) i b l = go (λ k c d. coefficients_vanish e s z t k c d)
  where
    term : ((k : ℕ) → k < t → k < length E → IsCongruent p (s.0 k) 0) → (k : ℕ) → k < length E → (k ≡ i)
        ⊎ ((k < i) ⊎ (i < k)) → k ≢ i → IsCongruent p (s.0 k * entry (row E k) (pivot (row E i))) 0
    term ih k c (inl q) ne = absurd (ne q)
    term ih k c (inr (inl q)) ne = congruent_trans (congruent_mul_right (entry (row E k) (pivot (row E i)))
        (ih k (omega arith) c)) (congruent_eq (omega arith))
    term ih k c (inr (inr q)) ne = congruent_eq (rw (e.zero_before i k q c) (omega arith))

    go : ((k : ℕ) → k < t → k < length E → IsCongruent p (s.0 k) 0) → IsCongruent p (s.0 i) 0
    go ih = congruent_trans (congruent_eq (omega (arith, ap (λ x. s.0 i * x) (e.monic i l))))
        (congruent_trans (congruent_sym (sum_below-one p (length E) i (λ k. s.0 k * entry (row E k)
        (pivot (row E i))) l
        (λ k c ne. term ih k c (cases_order k i) ne)))
        (congruent_trans (s.1.each (pivot (row E i))) (z i l)))

pub zero_at_heads : {p width : ℕ} {E : List (List ℕ)} {v : ℕ → ℕ} → IsBasis p width E → IsInSpan p E v →
    ((i : ℕ) → i < length E → IsCongruent p (v (pivot (row E i))) 0) → (j : ℕ) → IsCongruent p (v j) 0
zero_at_heads {p} {width} {E} {v} e s z j = congruent_trans (congruent_sym (s.1.each j))
    (sum_below-vanishes p (length E) (λ i. s.0 i * entry (row E i) j)
    (λ i l. congruent_trans (congruent_mul_right (entry (row E i) j) (coefficients_vanish e s z (suc i) i
    (omega arith) l)) (congruent_eq (omega arith))))

-- there are at most as many vectors as places
pub basis_le : {p width : ℕ} {E : List (List ℕ)} → IsBasis p width E → length E ≤ width
basis_le {p} {width} {E} e = injective_le width (length E) (λ i. pivot (row E i)) e.not_zero
    (λ i k l m q. one i k l m q (cases_order i k))
  where
    one : (i k : ℕ) → i < length E → k < length E → pivot (row E i) ≡ pivot (row E k) → (i ≡ k)
        ⊎ ((i < k) ⊎ (k < i)) → i ≡ k
    one i k l m q (inl c) = c
    one i k l m q (inr (inl c)) = absurd (e.different i k c m q)
    one i k l m q (inr (inr c)) = absurd (e.different k i c l (sym q))

pub no_vectors : {p width : ℕ} → IsBasis p width []
no_vectors = record {
  matrix = λ i l. absurd (omega arith);
  not_zero = λ i l. absurd (omega arith);
  monic = λ i l. absurd (omega arith);
  different = λ i k l m. absurd (omega arith);
  zero_before = λ i k l m. absurd (omega arith);
}

-- one more vector
pub basis_push : {p width : ℕ} {E : List (List ℕ)} {v : ℕ → ℕ} (w : List ℕ) → IsBasis p width E
    → IsNew p width E v w → IsBasis p width (E ++ w ∷ [])
basis_push {p} {width} {E} {v} w e n = record {
  matrix = λ i l. matrix i (last i l);
  not_zero = λ i l. not_zero i (last i l);
  monic = λ i l. monic i (last i l);
  different = λ i k l m. different i k l (last k m);
  zero_before = λ i k l m. zero_before i k l (last k m);
}
  where
    last : (i : ℕ) → i < length (E ++ w ∷ []) → (i < length E) ⊎ (i ≡ length E)
    last i l = go (cases_lt i (length E))
      where
        go : (i < length E) ⊎ (length E ≤ i) → (i < length E) ⊎ (i ≡ length E)
        go (inl b) = inl b
        go (inr b) = inr (omega (arith, length_push E w))

    matrix : (i : ℕ) → (i < length E) ⊎ (i ≡ length E) → IsRow p width (row (E ++ w ∷ []) i)
    matrix i (inl b) = rw (row_before_push E w i b) (e.matrix i b)
    matrix i (inr q) = rw (q, row_push E w) n.is_row

    not_zero : (i : ℕ) → (i < length E) ⊎ (i ≡ length E) → pivot (row (E ++ w ∷ []) i) < width
    not_zero i (inl b) = rw (row_before_push E w i b) (e.not_zero i b)
    not_zero i (inr q) = rw (q, row_push E w) n.inside

    monic : (i : ℕ) → (i < length E) ⊎ (i ≡ length E)
        → entry (row (E ++ w ∷ []) i) (pivot (row (E ++ w ∷ []) i)) ≡ 1
    monic i (inl b) = rw (row_before_push E w i b) (e.monic i b)
    monic i (inr q) = rw (q, row_push E w) n.monic

    zero_before : (i k : ℕ) → i < k → (k < length E) ⊎ (k ≡ length E)
        → entry (row (E ++ w ∷ []) k) (pivot (row (E ++ w ∷ []) i)) ≡ 0
    zero_before i k l (inl b) = rw (row_before_push E w k b, row_before_push E w i (omega arith))
        (e.zero_before i k l b)
    zero_before i k l (inr q) = rw (q, row_push E w, row_before_push E w i (omega arith))
        (n.multiple.zero_at_heads i (omega arith))

    different : (i k : ℕ) → i < k → (k < length E) ⊎ (k ≡ length E) → pivot (row (E ++ w ∷ []) i) ≢ pivot
        (row (E ++ w ∷ []) k)
    different i k l (inl b) = rw (row_before_push E w k b, row_before_push E w i (omega arith))
        (e.different i k l b)
    different i k l (inr q) = rw (q, row_push E w, row_before_push E w i (omega arith))
        (λ z. omega (arith, n.monic, ap (entry w) z, n.multiple.zero_at_heads i (omega arith)))

-- a multiple by a number that is not 0
pub in_span_unscaled : {p : ℕ} {rows : List (List ℕ)} {f : ℕ → ℕ} → IsFieldModulo p → (c : ℕ) → c % p ≢ 0
    → IsInSpan p rows (λ j. c * f j) → IsInSpan p rows f
in_span_unscaled {p} {rows} {f} F c n s = let i = F.inverse c n in
    in_span_congruent (λ j. congruent_trans (congruent_eq (omega arith))
    (congruent_trans (congruent_mul_right (f j) i.1) (congruent_eq (omega arith))))
    (in_span_add i.0 in_span_zero s)

-- what a new vector is made of is in the span with it
pub in_span_with_new : {p : ℕ} {E rows : List (List ℕ)} {v : ℕ → ℕ} (w : List ℕ) → IsFieldModulo p
    → ((f : ℕ → ℕ) → IsInSpan p E f → IsInSpan p rows f) → IsInSpan p rows (entry w) →
    IsReducedMultiple p E v w → IsInSpan p rows v
in_span_with_new {v = v} w F h s r = in_span_unscaled F r.factor r.factor_not_zero (in_span_right (entry w)
    (λ j. r.factor * v j) F.above_one (h _ r.difference) s)

-- and back
pub new_in_span : {p : ℕ} {E rows : List (List ℕ)} {v : ℕ → ℕ} (w : List ℕ) → IsFieldModulo p
    → ((f : ℕ → ℕ) → IsInSpan p E f → IsInSpan p rows f) → IsInSpan p rows v →
    IsReducedMultiple p E v w → IsInSpan p rows (entry w)
new_in_span {v = v} w F h s r = in_span_left (entry w) (λ j. r.factor * v j) F.above_one (h _ r.difference)
    (in_span_congruent (λ j. congruent_eq (omega arith)) (in_span_add r.factor in_span_zero s))

-- a vector that leaves something is not in the span
pub new_not_in_span : {p width : ℕ} {E : List (List ℕ)} {v : ℕ → ℕ} (w : List ℕ) → IsFieldModulo p
    → IsBasis p width E → IsNew p width E v w → ¬ (IsInSpan p E v)
new_not_in_span {p} {width} {E} w F e n s =
    bad (same_below (zero_at_heads e (new_in_span w F (λ f t. t) s n.multiple)
    (λ i l. congruent_eq (n.multiple.zero_at_heads i l)) (pivot w)) (n.is_row.below (pivot w) n.inside)
    (let o = F.above_one in omega arith))
  where
    bad : entry w (pivot w) ≡ 0 → ⊥
    bad z = omega (arith, n.monic)

-- what is left of a vector is one row
pub reduced_is_one : {p width : ℕ} {E : List (List ℕ)} (v w x : List ℕ) → 1 < p → IsBasis p width E
    → IsRow p width w → IsRow p width x → IsReduced p E v w → IsReduced p E v x → w ≡ x
reduced_is_one {p} {width} {E} v w x one e rw_ rx a b = ext_get_or 0 w x (rw_.length_is ∙ sym rx.length_is)
    (λ j l. let k : j < width = omega (arith, rw_.length_is) in same_below (same j) (rw_.below j k)
    (rx.below j k))
  where
    difference : IsInSpan p E (λ j. entry w j + (p - 1) * entry x j)
    difference = in_span_congruent (λ j. congruent_trans (congruent_eq (omega arith))
        (congruent_trans (congruent_add (congruent_refl (entry w j + (p - 1) * entry x j))
        (congruent_minus ((p - 1) * entry v j) one)) (congruent_eq (omega arith))))
        (in_span_add (p - 1) a.difference b.difference)

    zero : (j : ℕ) → IsCongruent p (entry w j + (p - 1) * entry x j) 0
    zero = zero_at_heads e difference (λ i l. congruent_eq (rw (a.zero_at_pivots i l, b.zero_at_pivots i l)
        (omega arith)))

    same : (j : ℕ) → IsCongruent p (entry w j) (entry x j)
    same j = congruent_cancel ((p - 1) * entry x j) (congruent_trans (zero j)
        (congruent_sym (congruent_minus (entry x j) one)))
