use Rattle.std.proofs.Common.{length, ap, sym, ◌∙◌}
use Rattle.fp_rows.proofs.PlaceLemmas.{length-places}
use Rattle.fp_rows.proofs.BitLemmas.{places_below}
use Rattle.fp_rows.proofs.bits.Bits.len.Goals as goal

pub returns-clause-count : goal.returns-clause-count
returns-clause-count c = sym (length-places c.self.inside.words.items 0 c.self.inside.len)
    ∙ ap length c.self.view_is

pub returns-clause-below : goal.returns-clause-below
returns-clause-below c = rw (← c.self.view_is) (places_below c.self.inside.words.items 0 c.self.inside.len)
