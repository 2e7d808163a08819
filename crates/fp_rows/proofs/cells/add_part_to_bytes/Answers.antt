use Rattle.group_table.specs.Prime.{prime_value}
use Rattle.fp_rows.specs.Numbers.{numbers_of}
use Rattle.fp_rows.proofs.PartLemmas.{part_summed}
use Rattle.fp_rows.proofs.cells.add_part_to_bytes.Goals as goal

pub returns : goal.returns
returns c = rw c.len.ensures (part_summed (prime_value c.args.p) c.args.at c.args.c (numbers_of c.args.r)
    c.args.v.now c.add_to_bytes.new.v c.requires.within (rw c.len.ensures at c.add_to_bytes.ensures))
