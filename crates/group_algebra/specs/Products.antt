-- Products of the members of a list of group elements.
use Rattle.std.specs.Prelude.{◌≡◌, ℕ, ◌<◌, List, map, Bool, true, false, Contains, All, slice_index_or}
use Rattle.group_table.specs.Tables.{GroupTable, order, product}
use Rattle.group_modules.specs.Field.{Below}

-- x is a product of members of the list, where mul is the product and 0 the unit
pub data IsProductOf (mul : ℕ → ℕ → ℕ) (generators : List ℕ) : ℕ → Type 0 where
  unit : IsProductOf mul generators 0
  times : (x s : ℕ) → IsProductOf mul generators x → Contains generators s
      → IsProductOf mul generators (mul x s)

-- each number below n is such a product
abbrev pub Generate : ℕ → (ℕ → ℕ → ℕ) → List ℕ → Type 0
Generate n mul generators = (g : ℕ) → g < n → IsProductOf mul generators g

-- the list generates the group
pub record AreGenerators (G : GroupTable) (generators : List ℕ) : Type 0 where
  pub below : All (λ g. g < order G) generators
  pub generate : Generate (order G) (product G) generators

-- products of the generators, in a list and by a mark for each
pub record AreProducts (G : GroupTable) (generators products : List ℕ) (seen : List Bool) : Type 0 where
  pub below : All (λ g. g < order G) products
  pub listed : All (IsProductOf (product G) generators) products
  pub marked : (x : ℕ) → slice_index_or seen x false ≡ true → IsProductOf (product G) generators x

-- the numbers of elements
abbrev pub numbers : {n : ℕ} → List (Below n) → List ℕ
numbers gs = map (λ g. g.0) gs
