use Rattle.std.proofs.Common.{ℕ, ◌<◌, arith}
use Rattle.group_table.specs.Prime.{prime_value}
use Rattle.fp_rows.specs.Cells.{cells_of}
use Rattle.fp_rows.specs.Numbers.{numbers_of}
use Rattle.fp_rows.proofs.ListLemmas.{row_at_length}
use Rattle.fp_rows.proofs.PartLemmas.{part_is_row}
use Rattle.fp_rows.proofs.Primes.{prime_above_one}
use Rattle.fp_rows.proofs.row.Row.add_part.Goals as goal

pub invariant_of-self : goal.invariant_of-self
invariant_of-self c =
    let p : ℕ = prime_value c.self.inside.prime in
    let positive : 0 < p = (let o = prime_above_one c.self.inside.prime in omega (arith, o)) in
    record {
      row = row_at_length (part_is_row c.args.at c.args.c (numbers_of c.args.r.entries)
          (cells_of c.self.inside.cells)
          (cells_of c.add_part.new.self) positive c.self.invariant.row c.add_part.ensures.gains);
      packed = c.add_part.ensures.packed;
    }
