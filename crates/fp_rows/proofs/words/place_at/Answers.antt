use Rattle.std.proofs.Common.{get_or, ◌/◌, ◌%◌}
use Rattle.std.proofs.lemmas.Nat.Bits.{shr_and_one}
use Rattle.fp_rows.specs.Places.{place}
use Rattle.fp_rows.proofs.words.place_at.Goals as goal

pub returns-clause-value : goal.returns-clause-value
unfolding place
returns-clause-value c = shr_and_one (get_or c.args.words.now (c.args.i / 64) 0) (c.args.i % 64)
