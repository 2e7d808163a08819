-- Rows pushed one after another, and the lengths of sums of rows.
use Rattle.std.proofs.Common.{◌≡◌, ℕ, suc, ◌+◌, ◌<◌, List, [], ◌∷◌, ◌++◌, length, below_more, ap, sym, ◌∙◌}
use Rattle.std.proofs.lemmas.List.{length-replicate}
use Rattle.linear_algebra.specs.Rows.{row, combination_row}
use Rattle.linear_algebra.proofs.RowLemmas.{length-add_multiple}
use Rattle.linear_algebra.proofs.Spans.{row_push, row_before_push}
use mathlib.Core.Path.{subst}

pub rows-push : (j : ℕ) (V : ℕ → List ℕ) (old new : List (List ℕ)) (pushed : List ℕ) → length old ≡ j
    → ((i : ℕ) → i < j → row old i ≡ V i)
    → pushed ≡ V j
    → new ≡ old ++ pushed ∷ [] → (i : ℕ) → i < j + 1 → row new i ≡ V i
rows-push j V old new pushed c b e n = below_more (λ i. row new i ≡ V i) j
    (λ i l. ap (λ z. row z i) n ∙ row_before_push old pushed i (subst (λ k. i < k) (sym c) l) ∙ b i l)
    (ap (λ z. row z j) n ∙ ap (λ k. row (old ++ pushed ∷ []) k) (sym c) ∙ row_push old pushed ∙ e)

pub length-sum : (p width : ℕ) (u : ℕ → ℕ) (rows : List (List ℕ))
    → length (combination_row p width u rows) ≡ width
length-sum p width u [] = length-replicate width 0
length-sum p width u (r ∷ rows) = length-add_multiple p (u 0)
    (combination_row p width (λ i. u (suc i)) rows) r ∙ length-sum p width (λ i. u (suc i)) rows
