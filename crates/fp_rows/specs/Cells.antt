-- What contracts read of an owned list of numbers.
use Rattle.std.specs.Prelude.{◌≡◌, ℕ, List}
use Rattle.fp_rows.specs.declared.cells.Cells.{Cells}
use Rattle.fp_rows.specs.declared.cells.Cells.TheVariants.{Bytes, Bits}

-- the numbers that it holds
abbrev pub cells_of : Cells → List ℕ
cells_of (Bytes v) = v.items
cells_of (Bits b) = b

-- it is packed exactly where p is 2
abbrev pub IsPackedFor : ℕ → Cells → Type 0
IsPackedFor p (Bytes v) = p ≡ 2 → ⊥
IsPackedFor p (Bits b) = p ≡ 2
