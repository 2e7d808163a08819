-- The turns of the greedy choice, beside the reduced echelon list of t and the rows taken.
use Rattle.std.proofs.Common.{◌≡◌, ℕ, suc, ◌+◌, List, [], ◌∷◌, ◌++◌, inl, inr, arith, ap, sym, ◌∙◌, refl}
use Rattle.std.proofs.lemmas.List.{append-nil}
use mathlib.Core.Path.{subst}
use Rattle.linear_algebra.specs.Rows.{entry, row, IsMatrix, IsEchelon, IsEchelonOf, IsInSpan}
use Rattle.linear_algebra.specs.Choices.{rows_at, IsGreedyBelow}
use Rattle.linear_algebra.proofs.Spans.{in_span_trans, are_in_span_push, are_in_span_with, are_in_span_self}
use Rattle.linear_algebra.proofs.Spans.{are_in_span_trans}
use Rattle.linear_algebra.proofs.EliminationLemmas.{echelon_push}
use Rattle.linear_algebra.proofs.GreedyChoice.{append-push, rows-push}

-- the positions taken among the first n rows of s, and E is the reduced echelon list of t and the rows taken
pub record IsGreedyTurn (p width : ℕ) (s t : List (List ℕ)) (n : ℕ) (positions : List ℕ)
    (E : List (List ℕ)) : Type 0 where
  pub chosen : IsGreedyBelow p s t n positions
  pub basis : IsEchelonOf p width (t ++ rows_at s positions) E

pub greedy_start : {p width : ℕ} (s t : List (List ℕ)) → IsMatrix p width t → IsEchelon t
    → IsGreedyTurn p width s t 0 [] t
greedy_start {p} {width} s t M e = record {
  chosen = refl;
  basis = subst (λ g. IsEchelonOf p width g t) (sym (append-nil t))
      (record { matrix = M; echelon = e; spanned = are_in_span_self t; spans = are_in_span_self t });
}

pub greedy_passed : {p width : ℕ} {s t E E' : List (List ℕ)} {n : ℕ} {xs : List ℕ} (v : List ℕ) → v ≡ row s n
    → IsGreedyTurn p width s t n xs E →
    IsInSpan p E (entry v) → IsEchelonOf p width (E ++ v ∷ []) E' → IsGreedyTurn p width s t (n + 1) xs E'
greedy_passed {p} {width} {s} {t} {E} {E'} {n} {xs} v e h i f =
    subst (λ k. IsGreedyTurn p width s t k xs E') (let z : suc n ≡ n + 1 = omega arith in z) (record {
      chosen = inl (
        h.chosen,
        subst (λ w. IsInSpan p (t ++ rows_at s xs) (entry w)) e
            (in_span_trans h.basis.spanned i),
      );
      basis = record {
        matrix = f.matrix;
        echelon = f.echelon;
        spanned = are_in_span_trans E' (are_in_span_with E v h.basis.spanned
            (in_span_trans h.basis.spanned i)) f.spanned;
        spans = are_in_span_trans (t ++ rows_at s xs)
            (are_in_span_trans E f.spans (are_in_span_push E v)) h.basis.spans;
      };
    })

pub greedy_taken : {p width : ℕ} {s t E E' : List (List ℕ)} {n : ℕ} {xs : List ℕ} (v : List ℕ) → v ≡ row s n
    → IsGreedyTurn p width s t n xs E →
    (IsInSpan p E (entry v) → ⊥) → IsEchelonOf p width (E ++ v ∷ []) E'
    → IsGreedyTurn p width s t (n + 1) (xs ++ n ∷ []) E'
greedy_taken {p} {width} {s} {t} {E} {E'} {n} {xs} v e h o f =
    subst (λ k. IsGreedyTurn p width s t k (xs ++ n ∷ []) E') (let z : suc n ≡ n + 1 = omega arith in z)
    (record {
      chosen = inr (
        xs,
        h.chosen,
        (λ i. o (subst (λ w. IsInSpan p E (entry w)) (sym e)
            (in_span_trans h.basis.spans i))),
        refl,
      );
      basis = subst (λ g. IsEchelonOf p width g E') (sym whole) (echelon_push v h.basis f);
    })
  where
    whole : t ++ rows_at s (xs ++ n ∷ []) ≡ (t ++ rows_at s xs) ++ v ∷ []
    whole = ap (λ r. t ++ r) (rows-push s xs n) ∙ append-push t (rows_at s xs) (row s n)
        ∙ ap (λ w. (t ++ rows_at s xs) ++ w ∷ []) (sym e)
