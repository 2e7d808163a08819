-- A place that the test for a pivot refuses is none.
use Rattle.std.proofs.Common.{◌≡◌, ℕ, List, false, sym, ◌∙◌}
use Rattle.linear_algebra.specs.Rows.{IsPivot, is_pivot}
use Rattle.linear_algebra.proofs.PivotTests.{found-if-pivot}
use Rattle.graded_polynomials.proofs.Terms.{false≢true}

pub none-if-not-found : (rows : List (List ℕ)) (k : ℕ) → is_pivot rows k ≡ false → IsPivot rows k → ⊥
none-if-not-found rows k h p = false≢true (sym h ∙ found-if-pivot rows k p)
