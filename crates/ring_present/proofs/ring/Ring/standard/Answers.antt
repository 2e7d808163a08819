use Rattle.ring_present.proofs.Shown.{seen-of, standard-is, standard-seen}
use Rattle.ring_present.proofs.ring.Ring.standard.Goals as goal

pub returns-clause-list : goal.returns-clause-list
returns-clause-list c =
    let k = c.self.inside.known in
    standard-is c.args.self.now k.group k.gens k.lifts.items k.relations.items k.degrees.items
    (seen-of c.args.self.now k.group k.gens k.lifts.items k.relations.items k.degrees.items c.self.view_is)
    c.self.invariant.0 c.args.d c.index.result.now c.index.ensures c.requires.from c.requires.to

pub returns-clause-standard : goal.returns-clause-standard
returns-clause-standard c G known =
    let k = c.self.inside.known in
    standard-seen c.args.self.now k.group k.gens k.lifts.items k.relations.items k.degrees.items
    (seen-of c.args.self.now k.group k.gens k.lifts.items k.relations.items k.degrees.items c.self.view_is)
    c.self.invariant.0 c.args.d c.index.result.now c.index.ensures c.requires.from c.requires.to G known
