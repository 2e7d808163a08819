use Rattle.std.proofs.Common.{ℕ, ◌<◌, List, length, arith}
use Rattle.group_table.specs.Prime.{prime_value}
use Rattle.linear_algebra.specs.Rows.{add_multiple, IsRow}
use Rattle.linear_algebra.proofs.Reducing.{add_multiple_is_row}
use Rattle.fp_rows.specs.Cells.{cells_of}
use Rattle.fp_rows.proofs.Primes.{prime_above_one}
use Rattle.fp_rows.proofs.ListLemmas.{row_at_length}
use Rattle.fp_rows.proofs.row.Row.add_row.Goals as goal

pub invariant_of-self : goal.invariant_of-self
invariant_of-self c =
    let p : ℕ = prime_value c.self.inside.prime in
    let xs : List ℕ = cells_of c.self.inside.cells in
    let ys : List ℕ = cells_of c.r.inside.cells in
    let positive : 0 < p = (let o = prime_above_one c.self.inside.prime in omega (arith, o)) in
    let r : IsRow p (length xs) ys = rw (← c.self.view_is, ← c.r.view_is) at c.requires.row in
    let sum : IsRow p (length (add_multiple p c.args.c xs ys)) (add_multiple p c.args.c xs ys) =
    row_at_length (add_multiple_is_row c.args.c xs ys positive c.self.invariant.row r) in
    record { row = rw c.add_cells.ensures.sum sum; packed = c.add_cells.ensures.packed }
