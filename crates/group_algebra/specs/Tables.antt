-- The rows that an algebra keeps, by their position in a list.
use Rattle.std.specs.Prelude.{◌≡◌, ℕ, List, ◌+◌, ◌*◌, ◌<◌, length}
use Rattle.linear_algebra.specs.Rows.{entry, row, combination_row}
use Rattle.group_modules.specs.Field.{Below, residue}
use Rattle.group_modules.specs.Tables.{unit}
use Rattle.fp_rows.specs.Values.{MatrixValue}
use Rattle.p_groups.specs.PGroups.{PGroup, largest_residue, group, order_of, prime_of}
use Rattle.group_algebra.specs.Coefficients.{AreSumCoordinates}
use Rattle.group_algebra.specs.Coordinates.{free_module, row_of, member, product_with, AreCoefficients}

-- a matrix of this many rows of the width of kG
pub record HasShape (G : PGroup) (count : ℕ) (m : MatrixValue) : Type 0 where
  pub prime : m.p ≡ prime_of G
  pub width : m.width ≡ order_of G
  pub rows : length m.rows ≡ count

-- row k holds the coefficients of member k of the layer basis
abbrev pub AreMembers : PGroup → List (List ℕ) → Type 0
AreMembers G rows = (k : ℕ) → k < order_of G → AreCoefficients G (row rows k) (member G k)

-- the element g of the group algebra
abbrev pub element : (G : PGroup) → Below (order_of G) → (free_module G 1).of
element G g = (free_module G 1).act g (unit (largest_residue G) (group G) 1 (residue 0 0))

-- x holds the layer coordinates of g times member k, where its position is that of k and g
abbrev pub IsTranslateRow : PGroup → ℕ → List ℕ → Type 0
IsTranslateRow G i x = (k : ℕ) (g : Below (order_of G)) → k < order_of G → i ≡ k * order_of G + g.0
    → x ≡ row_of G 1 ((free_module G 1).act g (member G k))

-- x holds the layer coordinates of member k times member l, where its position is that of l and k
abbrev pub IsProductRow : PGroup → ℕ → List ℕ → Type 0
IsProductRow G i x = (k l : ℕ) → k < order_of G → l < order_of G → i ≡ l * order_of G + k
    → x ≡ row_of G 1 (product_with G 1 (member G k) (member G l))

-- each row has the property of its position
abbrev pub EachRow : (ℕ → List ℕ → Type 0) → List (List ℕ) → Type 0
EachRow P rows = (i : ℕ) → i < length rows → P i (row rows i)

-- combinations of the rows with sum coordinates give the layer coordinates of the same member
abbrev pub TakesSumsToLayers : PGroup → List (List ℕ) → Type 0
TakesSumsToLayers G rows =
    (v : (free_module G 1).of) (a s : List ℕ) → AreCoefficients G a v
    → AreSumCoordinates (prime_of G) (order_of G) a s
    → combination_row (prime_of G) (order_of G) (entry s) rows ≡ row_of G 1 v

-- x holds the layer coordinates of the element at its position
abbrev pub IsElementRow : PGroup → ℕ → List ℕ → Type 0
IsElementRow G i x = (g : Below (order_of G)) → i ≡ g.0 → x ≡ row_of G 1 (element G g)
