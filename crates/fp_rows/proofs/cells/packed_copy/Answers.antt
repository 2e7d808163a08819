use Rattle.std.proofs.Common.{◌∙◌}
use Rattle.fp_rows.specs.Numbers.{numbers_of}
use Rattle.fp_rows.proofs.BitLemmas.{added_to_zeros}
use Rattle.fp_rows.proofs.cells.packed_copy.Goals as goal

pub returns-clause-same : goal.returns-clause-same
returns-clause-same c = c.add_to_bits.ensures
    ∙ (rw (c.in_ok-b.ensures, c.len.ensures) (added_to_zeros 2 (numbers_of c.args.r) c.requires.row.below))
