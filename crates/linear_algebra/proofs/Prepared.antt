-- A prepared row tells whether the row that it was made from is in the span.
use Rattle.std.proofs.Common.{◌≡◌, ℕ, ◌<◌, List, sym, ◌∙◌}
use Rattle.linear_algebra.specs.Modular.{IsFieldModulo}
use Rattle.linear_algebra.specs.Rows.{entry, pivot, IsMatrix, IsEchelon, IsInSpan}
use Rattle.linear_algebra.specs.Elimination.{IsPrepared}
use Rattle.linear_algebra.proofs.Spans.{in_span_trans, are_in_span_with, are_in_span_self}
use Rattle.linear_algebra.proofs.AddedRow.{zeros_in_span}
use Rattle.linear_algebra.proofs.Existence.{no_pivot}

pub prepared_outside : {p width : ℕ} {E : List (List ℕ)} (v s : List ℕ) → IsFieldModulo p → IsMatrix p width E
    → IsEchelon E → IsPrepared p width E v s →
    pivot s < width → IsInSpan p E (entry v) → ⊥
prepared_outside {E = E} v s F M e r l i =
    no_pivot F E M e s r.is_row r.zero_at_pivots
    (in_span_trans (are_in_span_with E v (are_in_span_self E) i) r.made) l

pub prepared_inside : {p width : ℕ} {E : List (List ℕ)} (v s : List ℕ) → IsPrepared p width E v s
    → pivot s ≡ width → IsInSpan p E (entry v)
prepared_inside {E = E} v s r z = in_span_trans
    (are_in_span_with E s (are_in_span_self E) (zeros_in_span s (z ∙ sym r.is_row.length_is))) r.gives_back
