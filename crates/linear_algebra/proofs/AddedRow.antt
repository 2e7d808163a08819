-- What one turn of the elimination leaves: the reduced echelon list of the rows and one more.
use Rattle.std.proofs.Common.{◌≡◌, ◌≢◌, ℕ, ◌+◌, ◌*◌, ◌-◌, ◌%◌, ◌<◌, ◌≤◌, ◌⊎◌, List, [], ◌∷◌, ◌++◌, length}
use Rattle.std.proofs.Common.{map, take, drop, get_or, inl, inr, arith, ap, sym, ◌∙◌, refl}
use Rattle.std.specs.Prelude.{insert}
use Rattle.std.proofs.lemmas.Bool.{cases_eq, cases_lt}
use Rattle.std.proofs.lemmas.List.{get_or-map, length-map, get_or_past, map-append, take-map, drop-map}
use Rattle.std.proofs.lemmas.List.{ext_get_or}
use Rattle.std.proofs.Math.Nat.{zero-mod, mod-eq_of_lt, mod-lt}
use Rattle.linear_algebra.specs.Modular.{IsCongruent}
use Rattle.linear_algebra.specs.Rows.{entry, row, pivot, IsRow, IsMatrix, IsEchelon, IsEchelonOf, IsReduced}
use Rattle.linear_algebra.specs.Rows.{IsInSpan}
use Rattle.linear_algebra.specs.Elimination.{IsPrepared, AreCleared, IsPlace}
use Rattle.linear_algebra.proofs.Congruences.{congruent_refl, congruent_add, congruent_trans, congruent_eq}
use Rattle.linear_algebra.proofs.Congruences.{congruent_sym, congruent_mul_left, congruent_mod}
use Rattle.linear_algebra.proofs.Congruences.{congruent_minus, congruent_cancel}
use Rattle.linear_algebra.proofs.PivotLemmas.{before_pivot, pivot_is}
use Rattle.linear_algebra.proofs.Spans.{in_span_congruent, in_span_add, in_span_zero, in_span_trans}
use Rattle.linear_algebra.proofs.Spans.{in_span_pushed, are_in_span_push, are_in_span_with, are_in_span_self}
use Rattle.linear_algebra.proofs.Spans.{are_in_span_trans}
use Rattle.linear_algebra.proofs.Insertion.{IsNewRow, inserted_matrix, inserted_echelon}
use Rattle.linear_algebra.proofs.Insertion.{spanned_by_rows_and_new, spans_rows, spans_rows_and_new}
use Rattle.linear_algebra.proofs.Insertion.{cleared_pivot}

-- minus minus x is x
pub congruent_minus_minus : {p : ℕ} (x : ℕ) → 1 < p → IsCongruent p ((p - 1) * ((p - 1) * x)) x
congruent_minus_minus {p} x l = congruent_cancel ((p - 1) * x)
    (congruent_trans (congruent_eq (omega arith))
    (congruent_trans (congruent_minus ((p - 1) * x) l) (congruent_sym (congruent_minus x l))))

-- of a and b that differ by a member of the span, both are in the span or neither
pub in_span_left : {p : ℕ} {rows : List (List ℕ)} (a b : ℕ → ℕ) → 1 < p
    → IsInSpan p rows (λ j. a j + (p - 1) * b j) → IsInSpan p rows b → IsInSpan p rows a
in_span_left {p} a b l d s = in_span_congruent
    (λ j. congruent_trans (congruent_eq (omega arith))
    (congruent_trans (congruent_add (congruent_refl (a j)) (congruent_minus (b j) l))
    (congruent_eq (omega arith)))) (in_span_add 1 d s)

pub in_span_right : {p : ℕ} {rows : List (List ℕ)} (a b : ℕ → ℕ) → 1 < p
    → IsInSpan p rows (λ j. a j + (p - 1) * b j) → IsInSpan p rows a → IsInSpan p rows b
in_span_right {p} a b l d s = in_span_congruent (λ j. congruent_trans (congruent_eq (omega arith))
    (congruent_trans (congruent_add (congruent_minus (a j) l) (congruent_minus_minus (b j) l))
    (congruent_eq (omega arith)))) (in_span_add (p - 1) s d)

-- a row of zeros is in each span
pub zeros_in_span : {p : ℕ} {E : List (List ℕ)} (s : List ℕ) → pivot s ≡ length s → IsInSpan p E (entry s)
zeros_in_span s z = in_span_congruent (λ j. congruent_eq
    (sym (all_zero j (cases_lt j (length s))))) in_span_zero
  where
    all_zero : (j : ℕ) → (j < length s) ⊎ (length s ≤ j) → entry s j ≡ 0
    all_zero j (inl b) = before_pivot s j (omega arith)
    all_zero j (inr b) = get_or_past s j 0 b

-- a reduced row that is 0 is prepared
pub prepared_zero : {p width : ℕ} (E : List (List ℕ)) (v w : List ℕ) → 1 < p → IsRow p width w
    → IsReduced p E v w → pivot w ≡ width → IsPrepared p width E v w
prepared_zero E v w l wr r z = record {
  is_row = wr;
  zero_at_pivots = r.zero_at_pivots;
  monic = λ b. absurd (omega arith);
  made = zeros_in_span w (z ∙ sym wr.length_is);
  gives_back = in_span_right (entry w) (entry v) l (in_span_trans (are_in_span_push E w) r.difference)
      (in_span_pushed E w);
}

-- a multiple of the reduced row is prepared
module _ {p width : ℕ} (c t : ℕ) (E : List (List ℕ)) (v w s : List ℕ) (one : 1 < p)
    (wr : IsRow p width w) (r : IsReduced p E v w) (tp : t ≡ pivot w) (inv : c * entry w t % p ≡ 1)
    (sc : s ≡ map (λ x. c * x % p) w) where
  pub scaled_entry : (j : ℕ) → entry s j ≡ c * entry w j % p
  scaled_entry j = go (cases_lt j (length w))
    where
      go : (j < length w) ⊎ (length w ≤ j) → entry s j ≡ c * entry w j % p
      go (inl l) = rw sc (get_or-map (λ x. c * x % p) w j 0 0 l)
      go (inr l) = rw sc (get_or_past (map (λ x. c * x % p) w) j 0 (rw length-map l)
          ∙ (rw (get_or_past w j 0 l) (sym (ap (λ x. x % p) (let z : c * 0 ≡ 0 = omega arith in z)
          ∙ zero-mod p))))

  zero_scaled : (j : ℕ) → entry w j ≡ 0 → entry s j ≡ 0
  zero_scaled j z = scaled_entry j ∙ (rw z (ap (λ x. x % p) (let z : c * 0 ≡ 0 = omega arith in z)
      ∙ zero-mod p))

  pub scaled_pivot : pivot s ≡ t
  scaled_pivot = pivot_is s t (λ j l. zero_scaled j (before_pivot w j (omega arith)))
      (λ z. omega (arith, scaled_entry t, inv))

  scaled_congruent : (j : ℕ) → IsCongruent p (0 + c * entry w j) (entry s j)
  scaled_congruent j = congruent_trans (congruent_eq (omega arith))
      (congruent_trans (congruent_sym (congruent_mod (c * entry w j))) (congruent_eq (sym (scaled_entry j))))

  -- w is the multiple by its entry at t
  unscaled : (j : ℕ) → IsCongruent p (0 + entry w t * entry s j) (entry w j)
  unscaled j = congruent_trans (congruent_add (congruent_refl 0)
      (congruent_mul_left (entry w t) (congruent_sym (scaled_congruent j))))
      (congruent_trans (congruent_eq (omega arith))
      (congruent_trans (congruent_mul_left (entry w j)
      (record { same_remainder = inv ∙ sym (mod-eq_of_lt one) })) (congruent_eq (omega arith))))

  pub prepared_scaled : IsPrepared p width E v s
  prepared_scaled = record {
    is_row = record {
      length_is = ap length sc ∙ length-map w (λ x. c * x % p)
          ∙ wr.length_is;
      below = λ j l. rw scaled_entry (mod-lt (c * entry w j) (omega arith));
    };
    zero_at_pivots = λ i l. zero_scaled (pivot (row E i)) (r.zero_at_pivots i l);
    monic = λ b. ap (entry s) scaled_pivot ∙ scaled_entry t ∙ inv;
    made = in_span_congruent scaled_congruent (in_span_add c in_span_zero
        (in_span_left (entry w) (entry v) one (in_span_trans (are_in_span_push E v) r.difference)
        (in_span_pushed E v)));
    gives_back = in_span_right (entry w) (entry v) one (in_span_trans (are_in_span_push E s) r.difference)
        (in_span_congruent unscaled (in_span_add (entry w t) in_span_zero (in_span_pushed E s)));
  }

-- the prepared row is 0: the list stays
pub added_nothing : {p width : ℕ} {E : List (List ℕ)} (v s : List ℕ) → IsMatrix p width E → IsEchelon E
    → IsPrepared p width E v s → pivot s ≡ width →
    IsEchelonOf p width (E ++ v ∷ []) E
added_nothing {p} {width} {E} v s M e r z = record {
  matrix = M;
  echelon = e;
  spanned = are_in_span_push E v;
  spans = are_in_span_with E v (are_in_span_self E)
      (in_span_trans (are_in_span_with E s (are_in_span_self E)
      (zeros_in_span s (z ∙ sym r.is_row.length_is))) r.gives_back);
}

module _ {p width : ℕ} {E D : List (List ℕ)} (v s : List ℕ) (t pos : ℕ) (one : 1 < p) (M : IsMatrix p width E)
    (e : IsEchelon E)
    (r : IsPrepared p width E v s) (tp : t ≡ pivot s) (inside : t < width) (cl : AreCleared p width t s E D)
    (P : IsPlace t pos E) where
  new_row : IsNewRow p width t E s
  new_row = record {
    is_row = r.is_row;
    inside = inside;
    pivot_is_t = sym tp;
    monic = ap (entry s) tp
        ∙ r.monic (omega arith);
    zero_at_pivots = r.zero_at_pivots;
  }

  pub added_row : IsEchelonOf p width (E ++ v ∷ []) (insert D pos s)
  added_row = record {
    matrix = inserted_matrix one M e new_row cl P;
    echelon = inserted_echelon one M e new_row cl P;
    spanned = are_in_span_trans (insert D pos s) (are_in_span_with E s (are_in_span_push E v) r.made)
        (spanned_by_rows_and_new one M e new_row cl P);
    spans = are_in_span_with E v (spans_rows one M e new_row cl P)
        (in_span_trans (spans_rows_and_new one M e new_row cl P) r.gives_back);
  }

  same_pivots : map pivot D ≡ map pivot E
  same_pivots = ext_get_or 0 (map pivot D) (map pivot E) (length-map D pivot ∙ cl.same_length
      ∙ sym (length-map E pivot))
      (λ i l. let d : i < length D = rw length-map at l in let f : i < length E = rw cl.same_length at d in
      get_or-map pivot D i [] 0 d ∙ cleared_pivot one M e new_row cl i f ∙ sym (get_or-map pivot E i [] 0 f))

  pub added_pivots : (ps : List ℕ) → ps ≡ map pivot E → insert ps pos t ≡ map pivot (insert D pos s)
  added_pivots ps q = rw (
    q,
    ← same_pivots,
    take-map pivot pos D,
    drop-map pivot pos D,
    map-append pivot (take pos D) (s ∷ drop pos D),
    new_row.pivot_is_t,
  ) refl

-- the pivot at t differs from every pivot of the list, since the new row is 1 at t
pub place_is : (E : List (List ℕ)) (ps s : List ℕ) (t pos : ℕ) → IsEchelon E → ps ≡ map pivot E
    → ((i : ℕ) → i < length E → entry s (pivot (row E i)) ≡ 0) → entry s t ≡ 1 →
    pos ≤ length ps → ((i : ℕ) → i < pos → get_or ps i 0 < t) → (pos < length ps → t ≤ get_or ps pos 0)
    → IsPlace t pos E
place_is E ps s t pos e q z n l below here = record {
  within = omega (arith, count);
  below = λ i b. rw (← at i (omega (arith, count))) (below i b);
  above = λ i b m. above i b m (cases_eq pos i);
}
  where
    count : length ps ≡ length E
    count = ap length q ∙ length-map E pivot

    at : (i : ℕ) → i < length E → get_or ps i 0 ≡ pivot (row E i)
    at i m = ap (λ xs. get_or xs i 0) q ∙ get_or-map pivot E i [] 0 m

    differs : (i : ℕ) → i < length E → pivot (row E i) ≢ t
    differs i m f = omega (arith, n, ap (entry s) f, z i m)

    above : (i : ℕ) → pos ≤ i → i < length E → (pos ≡ i) ⊎ (pos ≡ i → ⊥) → t < pivot (row E i)
    above i b m (inl f) = let h : t ≤ get_or ps pos 0 = here (omega (arith, count)) in
        omega (arith, differs i m, at i m, ap (λ k. get_or ps k 0) f)
    above i b m (inr ne) = let h : t ≤ get_or ps pos 0 = here (omega (arith, count)) in
        omega (arith, at pos (omega arith), e.ascending pos i (omega arith) m)
