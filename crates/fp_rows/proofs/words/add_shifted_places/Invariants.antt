use Rattle.std.proofs.Common.{◌+◌}
use Rattle.fp_rows.specs.Places.{place}
use Rattle.fp_rows.proofs.PlaceLemmas.{AreAddedUpTo}
use Rattle.fp_rows.proofs.words.add_shifted_places.Given as goal

abbrev pub invariant-loop-k : goal.invariant-loop-k
invariant-loop-k l = AreAddedUpTo l.dst l.fn.dst (λ j. place l.src (l.from + j)) l.len l.k
