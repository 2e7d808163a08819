-- Descending lists of monomials.
use Rattle.std.specs.Prelude.{ℕ, List, AllPairs}
use Rattle.graded_polynomials.specs.Monomials.{IsGreater}

abbrev pub IsDescending : List (List ℕ) → Type 0
IsDescending ms = AllPairs (λ m n. IsGreater m n) ms
