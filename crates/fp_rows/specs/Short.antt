-- What contracts read of short rows.
use Rattle.std.specs.Prelude.{◌≡◌, ℕ, ◌*◌, ◌≤◌, List, length, slice_range}
use Rattle.linear_algebra.specs.Rows.{IsRow}
use Rattle.fp_rows.specs.Places.{places}
use Rattle.fp_rows.specs.declared.short_row.ShortCells.{ShortCells}
use Rattle.fp_rows.specs.declared.short_row.ShortCells.TheVariants.{Bytes, Bits}

-- the first numbers that it holds
abbrev pub short_cells_of : ShortCells → ℕ → List ℕ
short_cells_of (Bytes bytes) len = slice_range bytes 0 len
short_cells_of (Bits words) len = places words 0 len

-- it has room for them, and is packed exactly where p is 2
abbrev pub HasRoom : ℕ → ℕ → ShortCells → Type 0
HasRoom p len (Bytes bytes) = (len ≤ length bytes) × (p ≡ 2 → ⊥)
HasRoom p len (Bits words) = (len ≤ 64 * length words) × (p ≡ 2)

-- the numbers of a short row as they are held: below p, and packed only where p is 2
pub record IsShort (p len : ℕ) (cells : ShortCells) : Type 0 where
  pub few : len ≤ 256
  pub row : IsRow p len (short_cells_of cells len)
  pub room : HasRoom p len cells
