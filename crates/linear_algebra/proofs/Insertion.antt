-- One more row in a reduced echelon list.
use Rattle.std.proofs.Common.{◌≡◌, ◌≢◌, ℕ, suc, ◌+◌, ◌*◌, ◌-◌, ◌<◌, ◌≤◌, ◌⊎◌, List, [], ◌∷◌, ◌++◌, length}
use Rattle.std.proofs.Common.{inl, inr, arith, ap, sym, ◌∙◌, refl}
use Rattle.std.specs.Prelude.{insert}
use Rattle.std.proofs.lemmas.Bool.{cases_lt, cases_order}
use Rattle.std.proofs.lemmas.List.Edits.{length-insert, get_or-insert_below, get_or-insert_at}
use Rattle.std.proofs.lemmas.List.Edits.{get_or-insert_above}
use Rattle.std.proofs.Math.Nat.{sub-zero}
use Rattle.linear_algebra.specs.Modular.{IsCongruent}
use Rattle.linear_algebra.specs.Rows.{entry, row, pivot, IsRow, IsMatrix, IsEchelon, IsInSpan, AreInSpan}
use Rattle.linear_algebra.specs.Elimination.{AreCleared, IsPlace}
use Rattle.linear_algebra.proofs.Congruences.{congruent_refl, congruent_add, congruent_trans, congruent_eq}
use Rattle.linear_algebra.proofs.Congruences.{congruent_sym, same_below, to_congruent}
use Rattle.linear_algebra.proofs.Spans.{in_span_congruent, in_span_row, in_span_add, in_span_pushed}
use Rattle.linear_algebra.proofs.Spans.{are_in_span_push, are_in_span_with}
use Rattle.linear_algebra.proofs.PivotLemmas.{before_pivot, pivot_is}

-- what the new row v, with the pivot t, is to the list E
pub record IsNewRow (p width t : ℕ) (E : List (List ℕ)) (v : List ℕ) : Type 0 where
  pub is_row : IsRow p width v
  pub inside : t < width
  pub pivot_is_t : pivot v ≡ t
  pub monic : entry v t ≡ 1
  pub zero_at_pivots : (i : ℕ) → i < length E → entry v (pivot (row E i)) ≡ 0

module _ {p width t : ℕ} {E D : List (List ℕ)} {v : List ℕ} (one : 1 < p) (M : IsMatrix p width E)
    (e : IsEchelon E)
    (n : IsNewRow p width t E v) (c : AreCleared p width t v E D) where
  -- an entry of a cleared row that is congruent to a number below p
  cleared_entry : (i j a : ℕ) → i < length E → j < width → a < p
      → IsCongruent p (entry (row E i) j + (p - entry (row E i) t) * entry v j) a → entry (row D i) j ≡ a
  cleared_entry i j a l w b h = same_below (congruent_trans ((c.each i l).each j) h)
      ((c.each i l).is_row.below j w) b

  pivot_inside : (i : ℕ) → i < length E → pivot (row E i) < width
  pivot_inside i l = omega (arith, e.not_zero i l, (M i l).length_is)

  cleared_at_t : (i : ℕ) → i < length E → entry (row D i) t ≡ 0
  cleared_at_t i l = cleared_entry i t 0 l n.inside (omega arith)
      (to_congruent 0 1 (let m = n.monic in let b = (M i l).below t n.inside in rw n.monic (omega arith)))

  cleared_before : (i j : ℕ) → i < length E → j < pivot (row E i) → (j < t) ⊎ (t ≤ j) → entry (row D i) j ≡ 0
  cleared_before i j l b (inl a) = cleared_entry i j 0 l (omega (arith, pivot_inside i l)) (omega arith)
      (congruent_eq (rw (
        before_pivot (row E i) j b,
        before_pivot v j (omega (arith, n.pivot_is_t)),
      ) (omega arith)))
  cleared_before i j l b (inr a) = cleared_entry i j 0 l (omega (arith, pivot_inside i l)) (omega arith)
      (to_congruent 0 (entry v j) (rw (
        before_pivot (row E i) j b,
        before_pivot (row E i) t (omega arith),
        sub-zero,
      ) (omega arith)))

  cleared_at_pivot : (i k : ℕ) → i < length E → k < length E
      → entry (row D k) (pivot (row E i)) ≡ entry (row E k) (pivot (row E i))
  cleared_at_pivot i k l m = cleared_entry k (pivot (row E i)) (entry (row E k) (pivot (row E i))) m
      (pivot_inside i l) ((M k m).below (pivot (row E i)) (pivot_inside i l))
      (congruent_eq (rw (n.zero_at_pivots i l) (omega arith)))

  pub cleared_pivot : (i : ℕ) → i < length E → pivot (row D i) ≡ pivot (row E i)
  cleared_pivot i l = pivot_is (row D i) (pivot (row E i)) (λ j b. cleared_before i j l b (cases_lt j t))
      (λ z. omega (arith, cleared_at_pivot i i l l, e.monic i l))

  module _ {pos : ℕ} (P : IsPlace t pos E) where
    -- row k of the new list is the new row or a cleared one
    record OldRow (k : ℕ) : Type 0 where
      at : ℕ
      inside_E : at < length E
      is_row_k : row (insert D pos v) k ≡ row D at
      side : ((k < pos) × (at ≡ k)) ⊎ ((pos < k) × (k ≡ suc at))

    record NewRow (k : ℕ) : Type 0 where
      at_pos : k ≡ pos
      is_v : row (insert D pos v) k ≡ v

    length_new : length (insert D pos v) ≡ suc (length E)
    length_new = length-insert D pos v (let a = P.within in let b = c.same_length in omega arith)
        ∙ (let b = c.same_length in omega arith)

    which : (k : ℕ) → k < length (insert D pos v) → OldRow k ⊎ NewRow k
    which k l = go (cases_order k pos)
      where
        room : pos ≤ length D
        room = let a = P.within in let b = c.same_length in omega arith

        shift : (m : ℕ) → pos < m → m < suc (length E) → row (insert D pos v) m ≡ row D (m - 1)
        shift m a b = let s : m ≡ (m - 1) + 1 = omega arith in ap (row (insert D pos v)) s
            ∙ get_or-insert_above D pos v [] (m - 1) (omega arith) room

        go : (k ≡ pos) ⊎ ((k < pos) ⊎ (pos < k)) → OldRow k ⊎ NewRow k
        go (inl e) = inr (record {
          at_pos = e;
          is_v = ap (row (insert D pos v)) e
              ∙ get_or-insert_at D pos v [] room;
        })
        go (inr (inl b)) = inl (record {
          at = k;
          inside_E = let a = P.within in omega arith;
          is_row_k = get_or-insert_below D pos v [] k b room;
          side = inl (b, refl);
        })
        go (inr (inr a)) = inl (record {
          at = k - 1;
          inside_E = let q = length_new in omega arith;
          is_row_k = shift k a (let q = length_new in omega arith);
          side = inr (a, omega arith);
        })

    old_pivot : {k : ℕ} (o : OldRow k) → pivot (row (insert D pos v) k) ≡ pivot (row E o.at)
    old_pivot o = ap pivot o.is_row_k ∙ cleared_pivot o.at o.inside_E

    new_pivot : {k : ℕ} → NewRow k → pivot (row (insert D pos v) k) ≡ t
    new_pivot w = ap pivot w.is_v ∙ n.pivot_is_t

    inserted_row : (k : ℕ) → OldRow k ⊎ NewRow k → IsRow p width (row (insert D pos v) k)
    inserted_row k (inl o) = rw o.is_row_k (c.each o.at o.inside_E).is_row
    inserted_row k (inr w) = rw w.is_v n.is_row

    inserted_not_zero : (k : ℕ) → OldRow k ⊎ NewRow k → pivot (row (insert D pos v) k) < width
    inserted_not_zero k (inl o) = rw (old_pivot o) (pivot_inside o.at o.inside_E)
    inserted_not_zero k (inr w) = rw (new_pivot w) n.inside

    inserted_monic : (k : ℕ) → OldRow k ⊎ NewRow k
        → entry (row (insert D pos v) k) (pivot (row (insert D pos v) k)) ≡ 1
    inserted_monic k (inl o) = rw (old_pivot o, o.is_row_k) (cleared_at_pivot o.at o.at o.inside_E o.inside_E
        ∙ e.monic o.at o.inside_E)
    inserted_monic k (inr w) = rw (new_pivot w, w.is_v) n.monic

    inserted_ascending : (i k : ℕ) → i < k → OldRow i ⊎ NewRow i → OldRow k ⊎ NewRow k
        → pivot (row (insert D pos v) i) < pivot (row (insert D pos v) k)
    inserted_ascending i k l (inl o) (inl q) =
        rw (old_pivot o, old_pivot q) (e.ascending o.at q.at (sides o.side q.side) q.inside_E)
      where
        sides : ((i < pos) × (o.at ≡ i)) ⊎ ((pos < i) × (i ≡ suc o.at)) → ((k < pos) × (q.at ≡ k))
            ⊎ ((pos < k) × (k ≡ suc q.at)) → o.at < q.at
        sides (inl a) (inl b) = omega arith
        sides (inl a) (inr b) = omega arith
        sides (inr a) (inl b) = omega arith
        sides (inr a) (inr b) = omega arith
    inserted_ascending i k l (inl o) (inr w) = rw (old_pivot o, new_pivot w) (P.below o.at (sides o.side))
      where
        sides : ((i < pos) × (o.at ≡ i)) ⊎ ((pos < i) × (i ≡ suc o.at)) → o.at < pos
        sides (inl a) = omega arith
        sides (inr a) = let b = w.at_pos in omega arith
    inserted_ascending i k l (inr w) (inl q) =
        rw (new_pivot w, old_pivot q) (P.above q.at (sides q.side) q.inside_E)
      where
        sides : ((k < pos) × (q.at ≡ k)) ⊎ ((pos < k) × (k ≡ suc q.at)) → pos ≤ q.at
        sides (inl a) = let b = w.at_pos in omega arith
        sides (inr a) = omega arith
    inserted_ascending i k l (inr w) (inr x) = absurd (let a = w.at_pos in let b = x.at_pos in omega arith)

    inserted_cleared : (i k : ℕ) → i ≢ k → OldRow i ⊎ NewRow i → OldRow k ⊎ NewRow k
        → entry (row (insert D pos v) k) (pivot (row (insert D pos v) i)) ≡ 0
    inserted_cleared i k l (inl o) (inl q) =
        rw (old_pivot o, q.is_row_k) (cleared_at_pivot o.at q.at o.inside_E q.inside_E
        ∙ e.cleared o.at q.at o.inside_E q.inside_E (sides o.side q.side))
      where
        sides : ((i < pos) × (o.at ≡ i)) ⊎ ((pos < i) × (i ≡ suc o.at)) → ((k < pos) × (q.at ≡ k))
            ⊎ ((pos < k) × (k ≡ suc q.at)) → o.at ≢ q.at
        sides (inl a) (inl b) = omega arith
        sides (inl a) (inr b) = omega arith
        sides (inr a) (inl b) = omega arith
        sides (inr a) (inr b) = omega arith
    inserted_cleared i k l (inl o) (inr w) = rw (old_pivot o, w.is_v) (n.zero_at_pivots o.at o.inside_E)
    inserted_cleared i k l (inr w) (inl q) = rw (new_pivot w, q.is_row_k) (cleared_at_t q.at q.inside_E)
    inserted_cleared i k l (inr w) (inr x) = absurd (l (w.at_pos ∙ sym x.at_pos))

    pub inserted_matrix : IsMatrix p width (insert D pos v)
    inserted_matrix k l = inserted_row k (which k l)

    pub inserted_echelon : IsEchelon (insert D pos v)
    inserted_echelon = record {
      not_zero = λ k l. rw (inserted_row k (which k l)).length_is (inserted_not_zero k (which k l));
      ascending = λ i k l m. inserted_ascending i k l (which i (omega arith)) (which k m);
      monic = λ k l. inserted_monic k (which k l);
      cleared = λ i k l m ne. inserted_cleared i k ne (which i l) (which k m);
    }

    -- the rows and v span the new list
    inserted_spanned : (k : ℕ) → OldRow k ⊎ NewRow k
        → IsInSpan p (E ++ v ∷ []) (entry (row (insert D pos v) k))
    inserted_spanned k (inl o) = rw o.is_row_k
        (in_span_congruent (λ j. congruent_sym ((c.each o.at o.inside_E).each j))
        (in_span_add (p - entry (row E o.at) t) (are_in_span_push E v o.at o.inside_E) (in_span_pushed E v)))
    inserted_spanned k (inr w) = rw w.is_v (in_span_pushed E v)

    pub spanned_by_rows_and_new : AreInSpan p (E ++ v ∷ []) (insert D pos v)
    spanned_by_rows_and_new k l = inserted_spanned k (which k l)

    -- the new list spans v and the rows
    pub spans_new : IsInSpan p (insert D pos v) (entry v)
    spans_new = let room : pos ≤ length D = let a = P.within in let b = c.same_length in omega arith in
        let h : IsInSpan p (insert D pos v) (entry (row (insert D pos v) pos)) =
        in_span_row (insert D pos v) pos (let a = P.within in omega (arith, length_new)) in
        rw (get_or-insert_at D pos v [] room) at h

    spans_cleared : (i : ℕ) → i < length E → (i < pos) ⊎ (pos ≤ i)
        → IsInSpan p (insert D pos v) (entry (row D i))
    spans_cleared i l (inl b) = let room : pos ≤ length D = let a = P.within in let b = c.same_length in
        omega arith in
        let h : IsInSpan p (insert D pos v) (entry (row (insert D pos v) i)) =
        in_span_row (insert D pos v) i (omega (arith, length_new)) in
        rw (get_or-insert_below D pos v [] i b room) at h
    spans_cleared i l (inr a) = let room : pos ≤ length D = let a = P.within in let b = c.same_length in
        omega arith in
        let h : IsInSpan p (insert D pos v) (entry (row (insert D pos v) (i + 1))) =
        in_span_row (insert D pos v) (i + 1) (omega (arith, length_new)) in
        rw (get_or-insert_above D pos v [] i a room) at h

    restored : (i j : ℕ) → i < length E → IsCongruent p (entry (row D i) j + entry (row E i) t * entry v j)
        (entry (row E i) j)
    restored i j l = congruent_trans (congruent_add ((c.each i l).each j)
        (congruent_refl (entry (row E i) t * entry v j)))
        (back (entry (row E i) j) (entry (row E i) t) (entry v j) ((M i l).below t n.inside))
      where
        back : (x a y : ℕ) → a < p → IsCongruent p (x + (p - a) * y + a * y) x
        back x a y b = to_congruent 0 y (let h : (p - a + a) * y ≡ p * y = ap (λ z. z * y)
            (omega arith) in omega (arith, h))

    pub spans_rows : AreInSpan p (insert D pos v) E
    spans_rows i l = in_span_congruent (λ j. restored i j l)
        (in_span_add (entry (row E i) t) (spans_cleared i l (cases_lt i pos)) spans_new)

    pub spans_rows_and_new : AreInSpan p (insert D pos v) (E ++ v ∷ [])
    spans_rows_and_new = are_in_span_with E v spans_rows spans_new
