-- Groups of prime power order by their tables.
use Rattle.std.specs.Prelude.{ℕ, ◌-◌}
use Rattle.group_table.specs.Tables.{GroupTable, IsGroupTable, order, product}
use Rattle.linear_algebra.specs.Modular.{IsSmallPrime}
use Rattle.group_modules.specs.Tables.{Group}
use Rattle.numbered_groups.specs.Groups.{group_of}

-- the table of a group of p^n elements, where p is 2, 3, 5 or 7
pub record IsPGroup (G : GroupTable) : Type 0 where
  pub law : IsGroupTable G
  pub prime : IsSmallPrime G.p

-- a finite p-group by its multiplication table
pub record PGroup : Type 0 where
  pub table : GroupTable
  pub law : IsPGroup table

-- p
abbrev pub prime_of : PGroup → ℕ
prime_of G = G.table.p

-- the number of elements, p^n
abbrev pub order_of : PGroup → ℕ
order_of G = order G.table

-- p - 1
abbrev pub largest_residue : PGroup → ℕ
largest_residue G = prime_of G - 1

-- the group on the numbers below p^n
abbrev pub group : (G : PGroup) → Group (order_of G)
group G = group_of (product G.table) G.law.law
