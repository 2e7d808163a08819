use Rattle.std.proofs.Common.{◌≡◌, ◌<◌, arith, ap}
use Rattle.linear_algebra.specs.Rows.{entry, combination_row}
use Rattle.linear_algebra.proofs.CombinationRows.{combination_row-is_row, combination_row-each}
use Rattle.fp_rows.specs.Refs.{entries_of}
use Rattle.fp_rows.specs.Values.{RowValue}
use Rattle.fp_rows.proofs.Primes.{prime_above_one}
use Rattle.row_tests.proofs.negative_bases.OneMapOps.apply.Goals as goal

above_zero : (c : goal.After-combine) → 0 < c.args.self.now.matrix.p
above_zero c = let one : 1 < c.args.self.now.matrix.p =
    rw c.requires.same_prime at (prime_above_one c.args.v.modulus) in omega arith

image_is : (c : goal.After-combine) → c.combine.new.out.entries
    ≡ combination_row c.args.self.now.matrix.p c.args.self.now.matrix.width (entry (entries_of c.args.v))
    c.args.self.now.matrix.rows
image_is c = ap (λ (r : RowValue). r.entries) c.combine.ensures

pub returns-clause-row : goal.returns-clause-row
returns-clause-row c = rw image_is (combination_row-is_row c.args.self.now.matrix.p
    c.args.self.now.matrix.width (above_zero c) (entry (entries_of c.args.v)) c.args.self.now.matrix.rows
    c.rows-rows.ensures.matrix)

pub returns-clause-image : goal.returns-clause-image
returns-clause-image c = rw image_is (combination_row-each c.args.self.now.matrix.p
    c.args.self.now.matrix.width (above_zero c) (entry (entries_of c.args.v)) c.args.self.now.matrix.rows
    c.rows-rows.ensures.matrix)
