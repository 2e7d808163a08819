-- Rows as class vectors, and the values of monomials by rows.
use Rattle.std.specs.Prelude.{◌≡◌, ℕ, ◌<◌, List, [], length, slice_index_or}
use Rattle.linear_algebra.specs.Rows.{row}
use Rattle.linear_algebra.specs.Kernels.{unit_row}
use Rattle.graded_algebra.specs.Algebras.{Algebra, Generator, evaluate}
pub use Rattle.linear_algebra.specs.Residues.{Vector, vector}

-- row i is the value of monomial i in the generators gs
pub record AreValues (q : ℕ) (A : Algebra (Vector q)) (gs : List (Generator (Vector q)))
    (ms values : List (List ℕ)) : Type 0 where
  pub count : length values ≡ length ms
  pub each : (i : ℕ) → i < length ms → vector q (row values i) ≡ evaluate A gs (slice_index_or ms i [])

-- the unit rows of width n, in order
pub record AreUnitRows (n : ℕ) (rows : List (List ℕ)) : Type 0 where
  pub count : length rows ≡ n
  pub each : (i : ℕ) → i < n → row rows i ≡ unit_row n i
