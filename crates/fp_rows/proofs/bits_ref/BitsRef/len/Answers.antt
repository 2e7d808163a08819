use Rattle.std.proofs.Common.{sym}
use Rattle.fp_rows.proofs.PlaceLemmas.{length-places}
use Rattle.fp_rows.proofs.BitLemmas.{places_below}
use Rattle.fp_rows.proofs.bits_ref.BitsRef.len.Goals as goal

pub returns-clause-count : goal.returns-clause-count
returns-clause-count c = sym (length-places c.args.self.now.words.now c.args.self.now.from
    c.args.self.now.len)

pub returns-clause-below : goal.returns-clause-below
returns-clause-below c = places_below c.args.self.now.words.now c.args.self.now.from c.args.self.now.len
