use Rattle.ring_present.proofs.KnownRings.{relation-over}
use Rattle.ring_present.proofs.ring.Ring.relation.Goals as goal

pub returns-clause-over : goal.returns-clause-over
returns-clause-over c =
    let k = c.self.inside.known in
    relation-over c.args.self.now k.group k.gens k.lifts.items k.relations.items k.degrees.items
    c.self.invariant.0 c.self.view_is c.args.i c.index.result.now c.requires c.index.ensures
