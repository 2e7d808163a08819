-- Multiplication tables on the numbers below p^n.
use Rattle.std.specs.Prelude.{◌≡◌, ℕ, zero, suc, ◌+◌, ◌*◌, ◌^◌, ◌<◌, List, length, slice_index, refl}
use Rattle.group_table.specs.Groups.{IsGroup}

-- the prime p, the number n, and the p^n rows of p^n entries, one row after another
pub record GroupTable : Type 0 where
  pub p : ℕ
  pub n : ℕ
  pub entries : List ℕ

-- how many elements there are
unfoldable pub order : GroupTable → ℕ
order G = G.p ^ G.n

pub order_is : (G : GroupTable) → order G ≡ G.p ^ G.n
unfolding order
order_is G = refl

-- the product of a and b stands in row a at column b
unfoldable pub product : GroupTable → ℕ → ℕ → ℕ
product G a b = slice_index G.entries (a * order G + b)

pub product_is : (G : GroupTable) (a b : ℕ) → product G a b ≡ slice_index G.entries (a * order G + b)
unfolding product
product_is G a b = refl

-- the rows and columns are those of the numbers below p^n, and each entry is one of these numbers
pub record IsTable (G : GroupTable) : Type 0 where
  pub size : length G.entries ≡ order G * order G
  pub closed : (a b : ℕ) → a < order G → b < order G → product G a b < order G

-- the table is the product of a group with the identity 0
abbrev pub IsGroupTable : GroupTable → Type 0
IsGroupTable G = IsGroup (order G) (product G)

-- b is the inverse of a
pub record IsInverse (G : GroupTable) (a b : ℕ) : Type 0 where
  pub below : b < order G
  pub right : product G a b ≡ 0
  pub left : product G b a ≡ 0

-- a to the power e
abbrev pub power : GroupTable → ℕ → ℕ → ℕ
power G a zero = 0
power G a (suc e) = product G (power G a e) a
