-- A reduced vector, scaled to 1 at its head.
use Rattle.std.proofs.Common.{◌≡◌, ℕ, ◌*◌, ◌-◌, ◌%◌, ◌<◌, ◌≤◌, List, length, map, arith, inl, inr, ap, sym}
use Rattle.std.proofs.Common.{◌∙◌, refl}
use Rattle.std.proofs.lemmas.List.{length-map, length_push, get_or_past, get_or-replicate, length-replicate}
use Rattle.std.proofs.Math.Nat.{mod-lt, mod-eq_of_lt, zero-mod}
use Rattle.linear_algebra.specs.Modular.{IsCongruent, IsFieldModulo}
use Rattle.linear_algebra.specs.Rows.{entry, row, pivot, add_multiple, IsRow, IsInSpan, IsReduced}
use Rattle.linear_algebra.proofs.Congruences.{congruent_refl, congruent_add, congruent_trans, congruent_eq}
use Rattle.linear_algebra.proofs.Congruences.{congruent_sym, congruent_mod}
use Rattle.linear_algebra.proofs.Spans.{in_span_congruent, in_span_add, in_span_zero}
use Rattle.std.proofs.Common.{replicate, ◌⊎◌}
use Rattle.std.proofs.lemmas.Bool.{cases_lt}
use Rattle.linear_algebra.proofs.Reducing.{add_multiple_is_row, entry_congruent}
use Rattle.linear_algebra.proofs.PivotLemmas.{pivot-le-length, pivot_is, pivot_none}
use Rattle.linear_algebra.proofs.RowLemmas.{is_scaled}
use Rattle.fp_rows.specs.Parts.{IsNextPlace}
use Rattle.linear_algebra.proofs.AddedRow.{scaled_entry, scaled_pivot, zeros_in_span}
use Rattle.fp_rows.specs.Values.{RowValue}
use Rattle.neg_basis.specs.Bases.{IsBasis}
use Rattle.neg_basis.specs.Turns.{IsNew, IsMonicRest, IsAdded}
use Rattle.neg_basis.specs.declared.origin.Origin.{Origin}
use Rattle.neg_basis.proofs.BasisLemmas.{in_span_with_new, basis_push}

pub prepared_zero : {p width : ℕ} (E : List (List ℕ)) (v w : List ℕ) → 1 < p → IsRow p width w
    → IsReduced p E v w → width ≤ pivot w → IsMonicRest p width E (entry v) w
prepared_zero {p} E v w one wr r z = record {
  is_row = wr;
  monic = λ b. absurd (omega arith);
  multiple = record {
    factor = 1;
    factor_not_zero = λ q. omega (arith, mod-eq_of_lt one);
    difference = in_span_congruent (λ j. congruent_eq (omega arith)) r.difference;
    zero_at_heads = r.zero_at_pivots;
  };
}

pub prepared_scaled : {p width : ℕ} (c t : ℕ) (E : List (List ℕ)) (v w s : List ℕ) → 1 < p → c < p
    → IsRow p width w → IsReduced p E v w → t ≡ pivot w →
    c * entry w t % p ≡ 1 → s ≡ map (λ x. c * x % p) w → IsMonicRest p width E (entry v) s
prepared_scaled {p} {width} c t E v w s one below wr r tp inv sc = record {
  is_row = record {
    length_is = ap length sc ∙ length-map w (λ x. c * x % p) ∙ wr.length_is;
    below =
        λ j l. rw at (mod-lt (c * entry w j) (omega arith));
  };
  monic = λ b. ap (entry s) (scaled_pivot c t E v w s one wr r tp inv sc) ∙ at t ∙ inv;
  multiple = record {
    factor = c;
    factor_not_zero = λ q. bad (sym (mod-eq_of_lt below) ∙ q);
    difference = in_span_congruent (λ j. congruent_trans (congruent_eq (omega arith))
        (congruent_add (congruent j) (congruent_refl ((p - 1) * (c * entry v j)))))
        (in_span_add c in_span_zero r.difference);
    zero_at_heads = λ i l. at (pivot (row E i)) ∙ ap (λ x. x % p) (let z : c * entry w (pivot (row E i)) ≡ 0 =
        rw (r.zero_at_pivots i l) (omega arith) in z) ∙ zero-mod p;
  };
}
  where
    at : (j : ℕ) → entry s j ≡ c * entry w j % p
    at j = scaled_entry c t E v w s one wr r tp inv sc j

    congruent : (j : ℕ) → IsCongruent p (c * entry w j) (entry s j)
    congruent j = congruent_trans (congruent_sym (congruent_mod (c * entry w j))) (congruent_eq (sym (at j)))

    bad : c ≡ 0 → ⊥
    bad z = let e : c * entry w t % p ≡ 0 = ap (λ x. x % p) (let y : c * entry w t ≡ 0 = rw z (omega arith) in
        y) ∙ zero-mod p in omega (arith, inv)

-- nothing is left: the vector is in the span
pub nothing_left : {p width : ℕ} {E : List (List ℕ)} (v : ℕ → ℕ) (w : List ℕ) → IsFieldModulo p
    → IsMonicRest p width E v w → width ≤ pivot w → IsInSpan p E v
nothing_left v w F h z = in_span_with_new w F (λ f s. s) (zeros_in_span w (let l = pivot-le-length w in
    omega (arith, h.is_row.length_is))) h.multiple

pub is_new : {p width : ℕ} {E : List (List ℕ)} {v : ℕ → ℕ} {w : List ℕ} → IsMonicRest p width E v w
    → pivot w < width → IsNew p width E v w
is_new h l = record { is_row = h.is_row; inside = l; monic = h.monic l; multiple = h.multiple }

pub added_basis : {p width : ℕ} {E E' : List (List ℕ)} {origins origins' : List Origin} (v : ℕ
    → ℕ) (o : Origin) → IsBasis p width E → IsAdded p width E origins v o E' origins' → IsBasis p width E'
added_basis v o e (inl (a, b, s)) = rw a e
added_basis v o e (inr (w, a, b, N)) = rw a (basis_push w e N)

pub added_le : {p width : ℕ} {E E' : List (List ℕ)} {origins origins' : List Origin} (v : ℕ → ℕ) (o : Origin)
    → IsAdded p width E origins v o E' origins' → length E ≤ length E'
added_le v o (inl (a, b, s)) = omega (arith, ap length a)
added_le {E = E} v o (inr (w, a, b, N)) = omega (arith, ap length a, length_push E w)

-- zeros plus a row
pub loaded : {p : ℕ} (r z : List ℕ) → 1 < p → IsRow p (length z) r → ((j : ℕ) → entry z j ≡ 0)
    → IsRow p (length z) (add_multiple p 1 z r) × ((j : ℕ) → IsCongruent p (entry (add_multiple p 1 z r) j)
    (entry r j))
loaded {p} r z one h zero = (
  add_multiple_is_row 1 z r (omega arith) is_zero h,
  λ j. congruent_trans (entry_congruent 1 z r is_zero h j) (congruent_eq (rw zero (omega arith))),
)
  where
    is_zero : IsRow p (length z) z
    is_zero = record { length_is = refl; below = λ j l. rw zero (omega arith) }

pub zeros : (n j : ℕ) → entry (replicate n 0) j ≡ 0
zeros n j = go (cases_lt j n)
  where
    go : (j < n) ⊎ (n ≤ j) → entry (replicate n 0) j ≡ 0
    go (inl l) = get_or-replicate n j 0 0 l
    go (inr l) = get_or_past (replicate n 0) j 0 (rw length-replicate l)

-- a row is its prime and its entries
pub same_row_value : {p q : ℕ} {xs ys : List ℕ} → p ≡ q → xs ≡ ys
    → (let x : RowValue = record { p = p; entries = xs } in let y : RowValue = record {
      p = q;
      entries =
          ys;
    } in
    x ≡ y)
same_row_value e f = cc

-- the first place that is not 0 is the pivot
pub first_is_pivot : {xs : List ℕ} {i : ℕ} → IsNextPlace xs 0 i → i ≡ pivot xs
first_is_pivot {xs} {i} n = go (cases_lt i (length xs))
  where
    go : (i < length xs) ⊎ (length xs ≤ i) → i ≡ pivot xs
    go (inl l) = sym (pivot_is xs i (λ j b. n.before j (omega arith) b) (n.here l))
    go (inr l) = let e : i ≡ length xs = omega (arith, l, n.within) in
        e ∙ sym (pivot_none xs (λ j b. n.before j (omega arith) (omega (arith, b, e))))

-- once a row is the row
pub scaled_by_one : {p : ℕ} {xs : List ℕ} → IsRow p (length xs) xs → xs ≡ map (λ x. 1 * x % p) xs
scaled_by_one {p} {xs} r = is_scaled p 1 xs xs refl (λ j l. sym (mod-eq_of_lt (r.below j l))
    ∙ ap (λ x. x % p) (let e : entry xs j ≡ 1 * entry xs j = omega arith in e))
