use Rattle.ring_present.proofs.KnownRings.{known-ring}
use Rattle.ring_present.proofs.ring.Ring.degree.Goals as goal

pub returns-clause-known : goal.returns-clause-known
returns-clause-known c =
    let k = c.self.inside.known in
    known-ring c.args.self.now k.group k.gens k.lifts.items k.relations.items k.degrees.items
    c.self.invariant.0
    c.self.view_is
