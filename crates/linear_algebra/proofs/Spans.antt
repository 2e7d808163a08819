-- The span of a list of rows: its rows, 0, sums and multiples are in it, and spans are transitive.
use Rattle.std.proofs.Common.{◌≡◌, ℕ, zero, suc, ◌+◌, ◌*◌, ◌<◌, ◌≤◌, ◌⊎◌, List, [], ◌∷◌, ◌++◌, length, inl}
use Rattle.std.proofs.Common.{inr, arith, ap, ◌∙◌, refl}
use Rattle.std.proofs.lemmas.Bool.{cases_lt}
use Rattle.std.proofs.lemmas.List.{get_or_append_left, length_push, get_or_push}
use Rattle.linear_algebra.specs.Modular.{IsCongruent, sum_below}
use Rattle.linear_algebra.specs.Rows.{entry, row, IsCombination, IsInSpan, AreInSpan}
use Rattle.linear_algebra.proofs.Congruences.{congruent_add, congruent_trans, congruent_eq}
use Rattle.linear_algebra.proofs.Congruences.{congruent_mul_left}
use Rattle.linear_algebra.proofs.Sums.{sum_below-one, sum_below-vanishes, update, update_same, update_other}
use Rattle.linear_algebra.proofs.Pivots.{Combines}
use Rattle.linear_algebra.proofs.Independence.{combine_combinations}

pub in_span_congruent : {p : ℕ} {rows : List (List ℕ)} {f g : ℕ → ℕ} → ((j : ℕ) → IsCongruent p (f j) (g j))
    → IsInSpan p rows f → IsInSpan p rows g
in_span_congruent e s = (s.0, record { each = λ j. congruent_trans (s.1.each j) (e j) })

pub in_span_zero : {p : ℕ} {rows : List (List ℕ)} → IsInSpan p rows (λ j. 0)
in_span_zero {p} {rows} = (
  (λ i. 0),
  record {
    each = λ j. sum_below-vanishes p (length rows)
        (λ i. 0 * entry (row rows i) j) (λ i l. congruent_eq (omega arith));
  },
)

-- the coefficient 1 at i and 0 elsewhere give row i
pub unit_combination : {p : ℕ} (rows : List (List ℕ)) (i : ℕ) → i < length rows
    → IsCombination p (update i 1 (λ k. 0)) rows (entry (row rows i))
unit_combination {p} rows i l = record {
  each = λ j.
      congruent_trans (sum_below-one p (length rows) i (λ k. update i 1 (λ k. 0) k * entry (row rows k) j) l
      (λ k b ne. congruent_eq (ap (λ x. x * entry (row rows k) j) (update_other i 1 (λ k. 0) k ne)
      ∙ omega arith)))
      (congruent_eq (ap (λ x. x * entry (row rows i) j) (update_same i 1 (λ k. 0)) ∙ omega arith));
}

pub in_span_row : {p : ℕ} (rows : List (List ℕ)) (i : ℕ) → i < length rows
    → IsInSpan p rows (entry (row rows i))
in_span_row {p} rows i l = (update i 1 (λ k. 0), unit_combination rows i l)

pub in_span_add : {p : ℕ} {rows : List (List ℕ)} {f g : ℕ → ℕ} (c : ℕ) → IsInSpan p rows f → IsInSpan p rows g
    → IsInSpan p rows (λ j. f j + c * g j)
in_span_add {p} {rows} {f} {g} c s t = (
  (λ i. s.0 i + c * t.0 i),
  record {
    each = λ j.
        congruent_trans (congruent_eq (apart (length rows) c s.0 t.0 (λ i. entry (row rows i) j)))
        (congruent_add (s.1.each j) (congruent_mul_left c (t.1.each j)));
  },
)
  where
    apart : (n c : ℕ) (u w r : ℕ → ℕ) → sum_below n (λ i. (u i + c * w i) * r i) ≡ sum_below n
        (λ i. u i * r i) + c * sum_below n (λ i. w i * r i)
    apart zero c u w r = omega arith
    apart (suc n) c u w r = omega (arith, apart n c u w r)

-- what is in the span of rows that are in a span is in that span
pub in_span_trans : {p : ℕ} {rows vs : List (List ℕ)} {f : ℕ → ℕ} → AreInSpan p rows vs → IsInSpan p vs f
    → IsInSpan p rows f
in_span_trans {p} {rows} {vs} {f} h s = (
  (λ k. sum_below (length vs) (λ i. s.0 i * C i k)),
  record {
    each = λ j.
        congruent_trans ((combine_combinations p (length vs) (length rows) s.0 C (λ k j. entry (row rows k) j)
        (λ i j. entry (row vs i) j) (λ i l. right i l (cases_lt i (length vs)))).each j) (s.1.each j);
  },
)
  where
    chosen : (i : ℕ) → (i < length vs) ⊎ (length vs ≤ i) → ℕ → ℕ
    chosen i (inl l) = (h i l).0
    chosen i (inr _) = λ k. 0

    C : ℕ → ℕ → ℕ
    C i = chosen i (cases_lt i (length vs))

    right : (i : ℕ) → i < length vs → (o : (i < length vs) ⊎ (length vs ≤ i))
        → Combines p (length rows) (chosen i o) (λ k j. entry (row rows k) j) (λ j. entry (row vs i) j)
    right i l (inl m) = record { each = (h i m).1.each }
    right i l (inr m) = absurd (omega arith)

pub are_in_span_trans : {p : ℕ} {rows vs : List (List ℕ)} (ws : List (List ℕ)) → AreInSpan p rows vs
    → AreInSpan p vs ws → AreInSpan p rows ws
are_in_span_trans ws h k i l = in_span_trans h (k i l)

pub are_in_span_self : {p : ℕ} (rows : List (List ℕ)) → AreInSpan p rows rows
are_in_span_self rows i l = in_span_row rows i l

-- a list with one more row
pub row_push : (rows : List (List ℕ)) (v : List ℕ) → row (rows ++ v ∷ []) (length rows) ≡ v
row_push rows v = get_or_push rows v [] (length rows) refl

pub row_before_push : (rows : List (List ℕ)) (v : List ℕ) (i : ℕ) → i < length rows
    → row (rows ++ v ∷ []) i ≡ row rows i
row_before_push rows v i l = get_or_append_left rows (v ∷ []) [] i l

pub in_span_pushed : {p : ℕ} (rows : List (List ℕ)) (v : List ℕ) → IsInSpan p (rows ++ v ∷ []) (entry v)
in_span_pushed {p} rows v = let h : IsInSpan p (rows ++ v ∷ []) (entry (row (rows ++ v ∷ []) (length rows))) =
    in_span_row (rows ++ v ∷ []) (length rows) (rw length_push (omega arith)) in
    rw row_push at h

pub are_in_span_push : {p : ℕ} (rows : List (List ℕ)) (v : List ℕ) → AreInSpan p (rows ++ v ∷ []) rows
are_in_span_push {p} rows v i l = let h : IsInSpan p (rows ++ v ∷ []) (entry (row (rows ++ v ∷ []) i)) =
    in_span_row (rows ++ v ∷ []) i (rw length_push (omega arith)) in
    rw row_before_push at h

-- rows and one more are in a span
pub are_in_span_with : {p : ℕ} {rows : List (List ℕ)} (vs : List (List ℕ)) (v : List ℕ) → AreInSpan p rows vs
    → IsInSpan p rows (entry v) → AreInSpan p rows (vs ++ v ∷ [])
are_in_span_with {p} {rows} vs v h s i l = go (cases_lt i (length vs))
  where
    go : (i < length vs) ⊎ (length vs ≤ i) → IsInSpan p rows (entry (row (vs ++ v ∷ []) i))
    go (inl b) = rw (row_before_push vs v i b) (h i b)
    go (inr b) = let e : i ≡ length vs = omega (arith, length_push vs v) in rw (e, row_push vs v) s
