-- Maximal sets of commuting elements whose p-th powers are 0.
use Rattle.std.specs.Prelude.{◌≡◌, ℕ, ◌<◌, List, Bool, eqb}
use Rattle.group_table.specs.Tables.{GroupTable, order, product, power}
use Rattle.elementary_subgroups.specs.Sets.{IsIn, IsSet}

-- an element whose p-th power is 0
pub record IsTorsion (G : GroupTable) (x : ℕ) : Type 0 where
  pub element : x < order G
  pub power_is : power G x G.p ≡ 0

abbrev pub Commutes : GroupTable → ℕ → ℕ → Type 0
Commutes G x y = product G x y ≡ product G y x

abbrev pub CommutesWithAll : GroupTable → ℕ → List ℕ → Type 0
CommutesWithAll G x ys = (y : ℕ) → IsIn y ys → Commutes G x y

abbrev pub commutes_test : GroupTable → ℕ → ℕ → Bool
commutes_test G x y = eqb (product G x y) (product G y x)

abbrev pub torsion_test : GroupTable → ℕ → Bool
torsion_test G x = eqb (power G x G.p) 0

-- a set of commuting elements of this kind that contains each one that commutes with all of it
pub record IsFull (G : GroupTable) (m : List ℕ) : Type 0 where
  pub is_set : IsSet m
  pub torsion : (x : ℕ) → IsIn x m → IsTorsion G x
  pub commutes : (x y : ℕ) → IsIn x m → IsIn y m → Commutes G x y
  pub full : (y : ℕ) → IsTorsion G y → CommutesWithAll G y m → IsIn y m

-- all members are elements of the group
abbrev pub AreElements : GroupTable → List ℕ → Type 0
AreElements G xs = (x : ℕ) → IsIn x xs → x < order G
