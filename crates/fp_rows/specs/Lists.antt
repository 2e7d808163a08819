use Rattle.std.specs.Prelude.{◌≡◌, ℕ, List, map}
use Rattle.std.specs.List.{All}
use Rattle.fp_rows.specs.Values.{RowValue}

-- the lists of numbers of rows
abbrev pub lists : List RowValue → List (List ℕ)
lists rows = map (λ r. r.entries) rows

-- each of the rows is over p
abbrev pub AreOver : ℕ → List RowValue → Type 0
AreOver p rows = All (λ r. r.p ≡ p) rows
