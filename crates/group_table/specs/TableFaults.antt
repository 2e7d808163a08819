-- What shows that a table is not that of a group with the identity 0, and where it shows first.
use Rattle.std.specs.Prelude.{◌≡◌, ◌≢◌, ℕ, ◌<◌, ◌⊎◌}
use Rattle.group_table.specs.Tables.{GroupTable, order, product}
use Rattle.group_table.specs.declared.table_fault.TableFault.{TableFault}
use Rattle.group_table.specs.declared.table_fault.TableFault.TheVariants.{NotUnit, NotLatin, NotAssociative}
use Rattle.group_table.specs.declared.table_fault.TableFault.TheVariants.{Memory}

-- 0 is a unit for a on both sides
abbrev pub IsUnitAt : GroupTable → ℕ → Type 0
IsUnitAt G a = (product G 0 a ≡ a) × (product G a 0 ≡ a)

-- row a has no entry twice
abbrev pub IsLatinAt : GroupTable → ℕ → Type 0
IsLatinAt G a = (b c : ℕ) → b < c → c < order G → product G a b ≢ product G a c

abbrev pub IsAssociativeAt : GroupTable → ℕ → ℕ → ℕ → Type 0
IsAssociativeAt G a b c = product G (product G a b) c ≡ product G a (product G b c)

abbrev pub HasUnit : GroupTable → Type 0
HasUnit G = (a : ℕ) → a < order G → IsUnitAt G a

abbrev pub HasLatinRows : GroupTable → Type 0
HasLatinRows G = (a : ℕ) → a < order G → IsLatinAt G a

abbrev pub IsAssociative : GroupTable → Type 0
IsAssociative G = (a b c : ℕ) → a < order G → b < order G → c < order G → IsAssociativeAt G a b c

-- a is the first of the numbers below n at which P does not hold
pub record IsFirstFailure (n : ℕ) (P : ℕ → Type 0) (a : ℕ) : Type 0 where
  pub below : a < n
  pub fails : ¬ P a
  pub earlier : (k : ℕ) → k < a → P k

-- the triple (i, j, k) comes before (a, b, c) in ascending order
abbrev pub IsBefore : (i j k a b c : ℕ) → Type 0
IsBefore i j k a b c = (i < a) ⊎ ((i ≡ a) × ((j < b) ⊎ ((j ≡ b) × (k < c))))

-- (a, b, c) is the first triple that does not associate
pub record IsFirstNotAssociative (G : GroupTable) (a b c : ℕ) : Type 0 where
  pub left : a < order G
  pub middle : b < order G
  pub right : c < order G
  pub fails : ¬ IsAssociativeAt G a b c
  pub earlier : (i j k : ℕ) → i < order G → j < order G → k < order G → IsBefore i j k a b c
      → IsAssociativeAt G i j k

-- the fault comes first: the unit is looked at before the rows, and these before associativity
abbrev pub IsFirstFault : GroupTable → TableFault → Type 0
IsFirstFault G (NotUnit a) = IsFirstFailure (order G) (IsUnitAt G) a
IsFirstFault G (NotLatin a) = HasUnit G × IsFirstFailure (order G) (IsLatinAt G) a
IsFirstFault G (NotAssociative a b c) = HasUnit G × HasLatinRows G × IsFirstNotAssociative G a b c
IsFirstFault G Memory = Unit {0}
