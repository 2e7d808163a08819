use Rattle.std.proofs.Common.{◌≡◌, arith}
use Rattle.fp_rows.specs.Numbers.{numbers_of}
use Rattle.fp_rows.proofs.BitLemmas.{nothing_added}
use Rattle.fp_rows.proofs.cells.add_to_bytes.Goals as goal

pub returns-else-c-ne0 : goal.returns-else-c-ne0
returns-else-c-ne0 c = let z : c.args.c ≡ 0 = omega (arith, c.if-c-ne0.false) in
    rw z (nothing_added _ c.args.v.now (numbers_of c.args.r) c.requires.added.length_is c.requires.row.below)
