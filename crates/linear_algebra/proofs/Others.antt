-- The elimination of the generators at some positions: its turns, and what its rows are combinations of.
use Rattle.std.proofs.Common.{◌≡◌, ℕ, zero, suc, ◌+◌, ◌*◌, ◌<◌, ◌≤◌, ◌⊎◌, List, [], ◌∷◌, ◌++◌, length, inl}
use Rattle.std.proofs.Common.{inr, arith, sym, ◌∙◌}
use Rattle.std.proofs.lemmas.Bool.{cases_eq, cases_lt}
use Rattle.std.proofs.lemmas.List.{length_push}
use mathlib.Core.Path.{subst}
use Rattle.linear_algebra.specs.Modular.{IsCongruent, sum_below}
use Rattle.linear_algebra.specs.Rows.{entry, row, IsCombination, IsInSpan, IsEchelonOf}
use Rattle.linear_algebra.specs.Kernels.{IsAmong, IsEchelonOfOthers}
use Rattle.linear_algebra.proofs.Congruences.{congruent_refl, congruent_add, congruent_trans, congruent_eq}
use Rattle.linear_algebra.proofs.Congruences.{congruent_sym, congruent_mul_left, congruent_mul_right}
use Rattle.linear_algebra.proofs.Sums.{sum_below-vanishes, update, update_other}
use Rattle.linear_algebra.proofs.Pivots.{Combines}
use Rattle.linear_algebra.proofs.Independence.{combine_combinations}
use Rattle.linear_algebra.proofs.EliminationLemmas.{echelon_none}
use Rattle.linear_algebra.proofs.Spans.{in_span_trans, in_span_congruent, in_span_zero, in_span_add}
use Rattle.linear_algebra.proofs.Spans.{in_span_pushed, are_in_span_push, are_in_span_trans, row_push}
use Rattle.linear_algebra.proofs.Spans.{row_before_push, unit_combination}

-- a combination of the generators with the coefficient 0 at the skipped positions
abbrev pub IsOtherCombination : ℕ → List (List ℕ) → List ℕ → (ℕ → ℕ) → Type 0
IsOtherCombination p generators skipped x = (u : ℕ → ℕ)
    × ((t : ℕ) → IsAmong skipped t → IsCongruent p (u t) 0) × IsCombination p u generators x

-- a member of the span of such combinations is one
pub other_combination : {p : ℕ} {A : List (List ℕ)} (skipped : List ℕ) {x : ℕ → ℕ} (G : List (List ℕ)) →
    ((i : ℕ) → i < length G → IsOtherCombination p A skipped (entry (row G i))) → IsInSpan p G x
    → IsOtherCombination p A skipped x
other_combination {p} {A} skipped {x} G h s = (
  (λ k. sum_below (length G) (λ i. s.0 i * C i k)),
  (λ t m. sum_below-vanishes p (length G) (λ i. s.0 i * C i t)
      (λ i l. congruent_trans (congruent_mul_left (s.0 i) (none i t m (cases_lt i (length G))))
      (congruent_eq (omega arith)))),
  record {
    each = λ j.
        congruent_trans ((combine_combinations p (length G) (length A) s.0 C (λ k j. entry (row A k) j)
        (λ i j. entry (row G i) j) (λ i l. right i l (cases_lt i (length G)))).each j) (s.1.each j);
  },
)
  where
    chosen : (i : ℕ) → (i < length G) ⊎ (length G ≤ i) → ℕ → ℕ
    chosen i (inl l) = (h i l).0
    chosen i (inr _) = λ k. 0

    C : ℕ → ℕ → ℕ
    C i = chosen i (cases_lt i (length G))

    none : (i t : ℕ) → IsAmong skipped t → (o : (i < length G) ⊎ (length G ≤ i))
        → IsCongruent p (chosen i o t) 0
    none i t m (inl l) = (h i l).1 t m
    none i t m (inr l) = congruent_refl 0

    right : (i : ℕ) → i < length G → (o : (i < length G) ⊎ (length G ≤ i))
        → Combines p (length A) (chosen i o) (λ k j. entry (row A k) j) (λ j. entry (row G i) j)
    right i l (inl m) = record { each = (h i m).2.each }
    right i l (inr m) = absurd (omega (arith, l, m))

pub others_start : {p width : ℕ} (A : List (List ℕ)) (skipped : List ℕ)
    → IsEchelonOfOthers p width A skipped 0 []
others_start {p} {width} A skipped = let e : IsEchelonOf p width [] [] = echelon_none in
    record {
      matrix = e.matrix;
      echelon = e.echelon;
      spanned = λ i l. absurd (omega (arith, l));
      spans = λ k l. absurd (omega (arith, l));
    }

pub others_skipped : {p width n : ℕ} {A F : List (List ℕ)} {skipped : List ℕ}
    → IsEchelonOfOthers p width A skipped n F → IsAmong skipped n
    → IsEchelonOfOthers p width A skipped (n + 1) F
others_skipped {p} {width} {n} {A} {F} {skipped} h m =
    record {
      matrix = h.matrix;
      echelon = h.echelon;
      spanned = h.spanned;
      spans = λ k l o. go k l o (cases_eq k n);
    }
  where
    go : (k : ℕ) → k < n + 1 → (IsAmong skipped k → ⊥) → (k ≡ n) ⊎ (k ≡ n → ⊥)
        → IsInSpan p F (entry (row A k))
    go k l o (inl e) = absurd (o (subst (IsAmong skipped) (sym e) m))
    go k l o (inr ne) = h.spans k (omega (arith, l, ne)) o

pub others_added : {p width n : ℕ} {A F F' : List (List ℕ)} {skipped : List ℕ} (v : List ℕ)
    → IsEchelonOfOthers p width A skipped n F → n < length A → (IsAmong skipped n → ⊥) →
    v ≡ row A n → IsEchelonOf p width (F ++ v ∷ []) F' → IsEchelonOfOthers p width A skipped (n + 1) F'
others_added {p} {width} {n} {A} {F} {F'} {skipped} v h l out e f = record {
  matrix = f.matrix;
  echelon = f.echelon;
  spanned = λ i m. other_combination skipped (F ++ v ∷ []) (λ k b. both k b (cases_lt k (length F)))
      (f.spanned i m);
  spans = λ k m o. go k m o (cases_eq k n);
}
  where
    own : IsOtherCombination p A skipped (entry (row A n))
    own = (
      update n 1 (λ k. 0),
      (λ t m. congruent_eq
          (update_other n 1 (λ k. 0) t (λ q. out (subst (IsAmong skipped) q m)))),
      unit_combination A n l,
    )

    both : (k : ℕ) → k < length (F ++ v ∷ []) → (k < length F) ⊎ (length F ≤ k)
        → IsOtherCombination p A skipped (entry (row (F ++ v ∷ []) k))
    both k b (inl m) = subst (λ r. IsOtherCombination p A skipped (entry r)) (sym (row_before_push F v k m))
        (h.spanned k m)
    both k b (inr m) = subst (λ i. IsOtherCombination p A skipped (entry (row (F ++ v ∷ []) i)))
        (let c : length (F ++ v ∷ []) ≡ length F + 1 = length_push F v in let z : length F ≡ k = omega (
          arith,
          c,
          b,
          m,
        ) in z)
        (subst (λ r. IsOtherCombination p A skipped (entry r)) (sym (row_push F v ∙ e)) own)

    go : (k : ℕ) → k < n + 1 → (IsAmong skipped k → ⊥) → (k ≡ n) ⊎ (k ≡ n → ⊥)
        → IsInSpan p F' (entry (row A k))
    go k m o (inl q) = subst (λ i. IsInSpan p F' (entry (row A i))) (sym q)
        (subst (λ r. IsInSpan p F' (entry r)) e (in_span_trans f.spans (in_span_pushed F v)))
    go k m o (inr ne) = in_span_trans (are_in_span_trans F f.spans (are_in_span_push F v))
        (h.spans k (omega (arith, m, ne)) o)

-- where no position is skipped it is the reduced echelon list of all
pub others_all : {p width n : ℕ} {A F : List (List ℕ)} {skipped : List ℕ} → ((t : ℕ) → IsAmong skipped t → ⊥)
    → length A ≤ n → IsEchelonOfOthers p width A skipped n F → IsEchelonOf p width A F
others_all none all h = record {
  matrix = h.matrix;
  echelon = h.echelon;
  spanned = λ i l. ((h.spanned i l).0, (h.spanned i l).2);
  spans = λ k l. h.spans k (omega (arith, l, all)) (none k);
}

-- fewer of the generators
pub others_fewer : {p width m n : ℕ} {A F : List (List ℕ)} {skipped : List ℕ} → m ≤ n
    → IsEchelonOfOthers p width A skipped n F → IsEchelonOfOthers p width A skipped m F
others_fewer l h = record {
  matrix = h.matrix;
  echelon = h.echelon;
  spanned = h.spanned;
  spans = λ k b o. h.spans k (omega (arith, b, l)) o;
}

-- a sum of terms that are 0 or in the span
pub in_span_sum : {p : ℕ} {F : List (List ℕ)} (n : ℕ) (c : ℕ → ℕ) (R : ℕ → ℕ → ℕ)
    → ((k : ℕ) → k < n → IsCongruent p (c k) 0 ⊎ IsInSpan p F (R k))
    → IsInSpan p F (λ j. sum_below n (λ k. c k * R k j))
in_span_sum zero c R h = in_span_zero
in_span_sum {p} {F} (suc n) c R h = go (h n (omega arith)) (in_span_sum n c R (λ k l. h k (omega (arith, l))))
  where
    go : IsCongruent p (c n) 0 ⊎ IsInSpan p F (R n) → IsInSpan p F (λ j. sum_below n (λ k. c k * R k j))
        → IsInSpan p F (λ j. sum_below n (λ k. c k * R k j) + c n * R n j)
    go (inr s) ih = in_span_add (c n) ih s
    go (inl z) ih = in_span_congruent (λ j. congruent_sym
        (congruent_trans (congruent_add (congruent_refl (sum_below n (λ k. c k * R k j)))
        (congruent_mul_right (R n j) z)) (congruent_eq (omega arith)))) ih
