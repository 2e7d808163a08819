-- Standard monomials, in order.
use Rattle.std.specs.Prelude.{◌≡◌, ℕ, ◌<◌, List, [], length, slice_index_or}
use Rattle.graded_polynomials.specs.Monomials.{IsMonomial, IsGreater}
use Rattle.graded_algebra.specs.Algebras.{Algebra, Generator, degrees}
use Rattle.graded_algebra.specs.Presentations.{IsStandard}
pub use Rattle.ring_completion.specs.Left.{without_pivots}

-- ms are all standard monomials of degree d, in descending order
pub record AreStandard (q : ℕ) {V : Type 0} (A : Algebra V) (gs : List (Generator V)) (d : ℕ)
    (ms : List (List ℕ)) : Type 0 where
  pub each : (i : ℕ) → i < length ms → IsMonomial q (degrees gs) d (slice_index_or ms i [])
      × IsStandard q A gs d (slice_index_or ms i [])
  pub all : (m : List ℕ) → IsMonomial q (degrees gs) d m → IsStandard q A gs d m → (i : ℕ) × (i < length ms)
      × (slice_index_or ms i [] ≡ m)
  pub descending : (i j : ℕ) → i < j → j < length ms
      → IsGreater (slice_index_or ms i []) (slice_index_or ms j [])
