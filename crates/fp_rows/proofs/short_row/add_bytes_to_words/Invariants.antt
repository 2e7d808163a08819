use Rattle.fp_rows.proofs.ShortLemmas.{AreBytesAdded}
use Rattle.fp_rows.proofs.short_row.add_bytes_to_words.Given as goal

abbrev pub invariant-loop-i : goal.invariant-loop-i
invariant-loop-i l = AreBytesAdded l.words l.fn.words l.s l.i
