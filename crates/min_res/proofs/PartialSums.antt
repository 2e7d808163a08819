-- A turn of a loop that adds multiples of rows.
use Rattle.std.proofs.Common.{◌≡◌, ℕ, ◌+◌, ◌<◌, List, length, ap, ap₂, sym, ◌∙◌}
use mathlib.Core.Path.{subst}
use Rattle.linear_algebra.specs.Rows.{row, add_multiple, IsMatrix}
use Rattle.linear_algebra.proofs.CombinationRows.{IsPartialCombination}
use Rattle.linear_algebra.proofs.CombinationRows.{partial-step}

pub add-step : {p width : ℕ} (u : ℕ → ℕ) (rows : List (List ℕ)) (k : ℕ) (acc new r : List ℕ) (m c : ℕ) → 0 < p
    → IsMatrix p width rows → k < length rows → IsPartialCombination p width u rows k acc
    → m ≡ p → c ≡ u k → r ≡ row rows k → new ≡ add_multiple m c acc r
    → IsPartialCombination p width u rows (k + 1) new
add-step {p} {width} u rows k acc new r m c positive matrix l h e f g n =
    subst (λ x. IsPartialCombination p width u rows (k + 1) x)
    (sym (n ∙ ap (λ x. add_multiple x c acc r) e ∙ ap₂ (λ x y. add_multiple p x acc y) f g))
    (partial-step u rows k acc positive matrix l h)
