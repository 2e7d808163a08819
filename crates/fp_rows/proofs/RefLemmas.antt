-- A borrowed row is a row.
use Rattle.std.proofs.Common.{length, refl}
use Rattle.linear_algebra.specs.Rows.{IsRow}
use Rattle.fp_rows.specs.declared.row_ref.RowRef.{RowRef}
use Rattle.fp_rows.specs.Refs.{entries_of, modulus_of}

pub ref_is_row : (r : RowRef) → IsRow (modulus_of r) (length (entries_of r)) (entries_of r)
ref_is_row r = record { length_is = refl; below = r.below }
