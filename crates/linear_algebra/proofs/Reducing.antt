-- A row made 0 at the pivots of a reduced echelon list, and a column made 0.
use Rattle.std.proofs.Common.{◌≡◌, ℕ, ◌+◌, ◌*◌, ◌-◌, ◌<◌, ◌≤◌, ◌⊎◌, List, length, inl, inr, arith, ap, sym}
use Rattle.std.proofs.Common.{◌∙◌}
use Rattle.std.proofs.lemmas.Bool.{cases_eq, cases_lt}
use Rattle.std.proofs.lemmas.List.{get_or_past}
use Rattle.std.proofs.Math.Nat.{mod-lt}
use Rattle.linear_algebra.specs.Modular.{IsCongruent}
use Rattle.linear_algebra.specs.Rows.{entry, row, pivot, add_multiple, IsRow, IsMatrix, IsEchelon, IsInSpan}
use Rattle.linear_algebra.specs.Elimination.{IsCleared}
use Rattle.linear_algebra.proofs.RowLemmas.{length-add_multiple, entry-add_multiple}
use Rattle.linear_algebra.proofs.Congruences.{congruent_refl, congruent_add, congruent_trans, congruent_eq}
use Rattle.linear_algebra.proofs.Congruences.{congruent_sym, congruent_mod, congruent_minus, same_below}
use Rattle.linear_algebra.proofs.Congruences.{to_congruent}
use Rattle.linear_algebra.proofs.Spans.{in_span_congruent, in_span_row, in_span_add, in_span_zero}

-- w is v less a member of the span, and 0 at the first n pivots
pub record IsReducedUpTo (p width : ℕ) (E : List (List ℕ)) (v w : List ℕ) (n : ℕ) : Type 0 where
  pub is_row : IsRow p width w
  pub difference : IsInSpan p E (λ j. entry w j + (p - 1) * entry v j)
  pub zero_below : (k : ℕ) → k < n → entry w (pivot (row E k)) ≡ 0

pub reduced_start : {p width : ℕ} (E : List (List ℕ)) (v : List ℕ) → 1 < p → IsRow p width v
    → IsReducedUpTo p width E v v 0
reduced_start E v l r = record {
  is_row = r;
  difference = in_span_congruent (λ j. congruent_sym (congruent_minus (entry v j) l)) in_span_zero;
  zero_below = λ k b. absurd (omega arith);
}

pub reduced_skip : {p width : ℕ} {E : List (List ℕ)} {v w : List ℕ} {n : ℕ} → IsReducedUpTo p width E v w n
    → entry w (pivot (row E n)) ≡ 0 → IsReducedUpTo p width E v w (n + 1)
reduced_skip {E = E} {w = w} {n = n} h z = record {
  is_row = h.is_row;
  difference = h.difference;
  zero_below = λ k b. go k b (cases_eq k n);
}
  where
    go : (k : ℕ) → k < n + 1 → (k ≡ n) ⊎ (k ≡ n → ⊥) → entry w (pivot (row E k)) ≡ 0
    go k b (inl e) = ap (λ i. entry w (pivot (row E i))) e ∙ z
    go k b (inr ne) = h.zero_below k (omega arith)

pub add_multiple_is_row : {p width : ℕ} (c : ℕ) (w r : List ℕ) → 0 < p → IsRow p width w → IsRow p width r
    → IsRow p width (add_multiple p c w r)
add_multiple_is_row {p} c w r l a b = record {
  length_is = length-add_multiple p c w r ∙ a.length_is;
  below = λ j m. rw (entry-add_multiple p c w r j (b.length_is
      ∙ sym a.length_is) (omega (arith, a.length_is))) (mod-lt (entry w j + c * entry r j) l);
}

-- past the end both sides are 0
pub entry_congruent : {p width : ℕ} (c : ℕ) (w r : List ℕ) → IsRow p width w → IsRow p width r → (j : ℕ)
    → IsCongruent p (entry (add_multiple p c w r) j) (entry w j + c * entry r j)
entry_congruent {p} {width} c w r a b j = go (cases_lt j (length w))
  where
    go : (j < length w) ⊎ (length w ≤ j)
        → IsCongruent p (entry (add_multiple p c w r) j) (entry w j + c * entry r j)
    go (inl l) = rw (entry-add_multiple p c w r j (b.length_is ∙ sym a.length_is) l)
        (congruent_mod (entry w j + c * entry r j))
    go (inr l) = congruent_eq (rw (
      get_or_past (add_multiple p c w r) j 0 (rw length-add_multiple l),
      get_or_past w j 0 l,
      get_or_past r j 0 (omega (arith, a.length_is, b.length_is)),
    ) (omega arith))

pub reduced_step : {p width : ℕ} {E : List (List ℕ)} {v w : List ℕ} {n : ℕ} → 1 < p → IsMatrix p width E
    → IsEchelon E → n < length E →
    IsReducedUpTo p width E v w n → (c : ℕ) → c ≡ p - entry w (pivot (row E n))
    → IsReducedUpTo p width E v (add_multiple p c w (row E n)) (n + 1)
reduced_step {p} {width} {E} {v} {w} {n} one M e l h c f = record {
  is_row = row_is;
  difference = in_span_congruent (λ j. congruent_trans (congruent_eq (omega arith))
      (congruent_add (congruent_sym (each j)) (congruent_refl ((p - 1) * entry v j))))
      (in_span_add c h.difference (in_span_row E n l));
  zero_below = λ k b. go k b (cases_eq k n);
}
  where
    row_is : IsRow p width (add_multiple p c w (row E n))
    row_is = add_multiple_is_row c w (row E n) (omega arith) h.is_row (M n l)

    each : (j : ℕ) → IsCongruent p (entry (add_multiple p c w (row E n)) j)
        (entry w j + c * entry (row E n) j)
    each = entry_congruent c w (row E n) h.is_row (M n l)

    inside : (k : ℕ) → k < length E → pivot (row E k) < width
    inside k b = omega (arith, e.not_zero k b, (M k b).length_is)

    zero_at : (j : ℕ) → j < width → IsCongruent p (entry w j + c * entry (row E n) j) 0
        → entry (add_multiple p c w (row E n)) j ≡ 0
    zero_at j b z = same_below (congruent_trans (each j) z) (row_is.below j b) (omega arith)

    go : (k : ℕ) → k < n + 1 → (k ≡ n) ⊎ (k ≡ n → ⊥)
        → entry (add_multiple p c w (row E n)) (pivot (row E k)) ≡ 0
    go k b (inl g) = ap (λ i. entry (add_multiple p c w (row E n)) (pivot (row E i))) g
        ∙ zero_at (pivot (row E n)) (inside n l)
        (to_congruent 0 1 (rw (e.monic n l)
        (let x = h.is_row.below (pivot (row E n)) (inside n l) in omega arith)))
    go k b (inr ne) = zero_at (pivot (row E k)) (inside k (omega arith))
        (congruent_eq (rw (h.zero_below k (omega arith), e.cleared k n (omega arith) l ne) (omega arith)))

pub cleared_by : {p width t : ℕ} (v r : List ℕ) → 0 < p → IsRow p width v → IsRow p width r
    → IsCleared p width t v r (add_multiple p (p - entry r t) r v)
cleared_by {p} {width} {t} v r l a b = record {
  is_row = add_multiple_is_row (p - entry r t) r v l b a;
  each = entry_congruent (p - entry r t) r v b a;
}
