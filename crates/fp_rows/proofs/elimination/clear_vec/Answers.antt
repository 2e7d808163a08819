use Rattle.std.proofs.Common.{◌∙◌}
use Rattle.fp_rows.specs.Lists.{lists}
use Rattle.linear_algebra.proofs.AddedRow.{place_is}
use Rattle.fp_rows.proofs.elimination.clear_vec.Goals as goal

pub returns-clause-place : goal.returns-clause-place
returns-clause-place c = place_is (lists c.args.rows.now.items) c.deref.result.now c.args.v.now.entries
    c.args.t c.place_of.result
    c.requires.echelon (c.deref.ensures.value
    ∙ c.requires.pivots_are) c.requires.zero_at_pivots c.requires.monic
    c.place_of.ensures.within c.place_of.ensures.below c.place_of.ensures.here
