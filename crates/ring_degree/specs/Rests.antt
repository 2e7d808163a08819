-- What is left of a list and of rows over it at the places that are no pivots, and the candidates of a list.
use Rattle.std.specs.Prelude.{◌≡◌, ℕ, ◌-◌, ◌<◌, ◌↔◌, List, length}
use Rattle.linear_algebra.specs.Rows.{row, IsRow, IsReduced}
use Rattle.gc_poly.specs.Lists.{IsDescending}
use Rattle.graded_polynomials.specs.Monomials.{exponent}
use Rattle.ring_completion.specs.Candidates.{IsListed}
use Rattle.ring_completion.specs.Left.{without_pivots}
use Rattle.ring_completion.specs.Listings.{without_factor}
use Rattle.ring_degree.specs.Tables.{at_generator, standard_at}
use Rattle.ring_degree.specs.declared.table.Table.{Table}

-- w is what is left of v, reduced by these rows
pub record IsRest (p : ℕ) (rows : List (List ℕ)) (v w : List ℕ) : Type 0 where
  pub reduced : List ℕ
  pub is_reduced : IsReduced p rows v reduced
  pub is_row : IsRow p (length v) reduced
  pub entries : w ≡ without_pivots rows 0 reduced

-- the new rows are what is left of the old ones
pub record AreRests (p : ℕ) (rows old new : List (List ℕ)) : Type 0 where
  pub count : length new ≡ length old
  pub each : (k : ℕ) → k < length old → IsRest p rows (row old k) (row new k)

-- each quotient of m, of the next degree, by a generator is a monomial of the tables
abbrev pub HasQuotientsIn : List ℕ → List Table → List ℕ → Type 0
HasQuotientsIn ds tables m = (i : ℕ) → i < length ds → 0 < exponent m i
    → IsListed (standard_at tables (length tables - at_generator ds i)) (without_factor i m)

-- cs are those of the list ms, in descending order
pub record AreCandidatesIn (ds : List ℕ) (tables : List Table) (ms cs : List (List ℕ)) : Type 0 where
  pub descending : IsDescending cs
  pub members : (m : List ℕ) → IsListed cs m ↔ (IsListed ms m × HasQuotientsIn ds tables m)
