-- The turns of the elimination.
use Rattle.std.proofs.Common.{◌≡◌, ℕ, ◌+◌, ◌<◌, List, [], ◌∷◌, ◌++◌, length, take, arith}
use Rattle.std.proofs.lemmas.List.{take_more}
use Rattle.linear_algebra.specs.Rows.{row, IsEchelonOf, AreInSpan}
use Rattle.linear_algebra.proofs.Spans.{in_span_trans, in_span_pushed, are_in_span_push, are_in_span_with}
use Rattle.linear_algebra.proofs.Spans.{are_in_span_trans}

pub echelon_none : {p width : ℕ} → IsEchelonOf p width [] []
echelon_none = record {
  matrix = λ i l. absurd (omega arith);
  echelon = record {
    not_zero = λ i l. absurd (omega arith);
    ascending = λ i k l m. absurd (omega arith);
    monic = λ i l. absurd (omega arith);
    cleared = λ i k l m n. absurd (omega arith);
  };
  spanned = λ i l. absurd (omega arith);
  spans = λ i l. absurd (omega arith);
}

-- one more generator
pub echelon_push : {p width : ℕ} {gens E F : List (List ℕ)} (g : List ℕ) → IsEchelonOf p width gens E
    → IsEchelonOf p width (E ++ g ∷ []) F → IsEchelonOf p width (gens ++ g ∷ []) F
echelon_push {p} {width} {gens} {E} {F} g a b = record {
  matrix = b.matrix;
  echelon = b.echelon;
  spanned = are_in_span_trans F (are_in_span_with E g
      (are_in_span_trans E (are_in_span_push gens g) a.spanned) (in_span_pushed gens g)) b.spanned;
  spans = are_in_span_with gens g (are_in_span_trans gens old a.spans)
      (in_span_trans b.spans (in_span_pushed E g));
}
  where
    old : AreInSpan p F E
    old = are_in_span_trans E b.spans (are_in_span_push E g)

pub echelon_more : {p width : ℕ} {E F : List (List ℕ)} {g : List ℕ} (gens : List (List ℕ)) (i : ℕ)
    → i < length gens → g ≡ row gens i →
    IsEchelonOf p width (take i gens) E → IsEchelonOf p width (E ++ g ∷ []) F
    → IsEchelonOf p width (take (i + 1) gens) F
echelon_more {p} {width} {E} {F} {g} gens i l e a b = rw (take_more gens i [] l, ← e) (echelon_push g a b)
