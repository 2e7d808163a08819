-- What contracts read of a borrowed row.
use Rattle.std.specs.Prelude.{ℕ, List}
use Rattle.group_table.specs.Prime.{prime_value}
use Rattle.fp_rows.specs.Numbers.{numbers_of}
use Rattle.fp_rows.specs.declared.row_ref.RowRef.{RowRef}

-- the numbers that a borrowed row shows
abbrev pub entries_of : RowRef → List ℕ
entries_of r = numbers_of r.entries

-- the number of its prime
abbrev pub modulus_of : RowRef → ℕ
modulus_of r = prime_value r.modulus
