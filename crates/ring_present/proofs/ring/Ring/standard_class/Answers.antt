use Rattle.std.proofs.Common.{◌<◌, length, arith, ap, ◌∙◌}
use Rattle.fp_rows.specs.Refs.{entries_of}
use Rattle.ring_present.proofs.Shown.{seen-of, some-group, count-seen, width-seen, value-seen, modulus-seen}
use Rattle.ring_present.proofs.ring.Ring.standard_class.Goals as goal

pub row-requires : goal.row-requires
row-requires c =
    let k = c.self.inside.known in
    let seen = seen-of c.args.self.now k.group k.gens k.lifts.items k.relations.items k.degrees.items
    c.self.view_is in
    let some : 0 < length k.degrees.items =
    (let e = seen.degree_is in omega (arith, e, c.requires.from, c.requires.to)) in
    let g = some-group k.group k.gens k.lifts.items k.relations.items k.degrees.items
    c.self.invariant.0 some in
    let n = count-seen c.args.self.now k.group k.gens k.lifts.items k.relations.items k.degrees.items seen
    c.self.invariant.0 c.args.d c.index.result.now c.index.ensures c.requires.from c.requires.to g.0
    (seen.group_is ∙ g.1) in
    omega (arith, n, c.requires.within)

pub returns-clause-length : goal.returns-clause-length
returns-clause-length c G known =
    let k = c.self.inside.known in
    let seen = seen-of c.args.self.now k.group k.gens k.lifts.items k.relations.items k.degrees.items
    c.self.view_is in
    ap length c.row.ensures.entries ∙ c.row.ensures.is_row.length_is
    ∙ width-seen c.args.self.now k.group k.gens k.lifts.items k.relations.items k.degrees.items seen
    c.self.invariant.0 c.args.d c.index.result.now c.index.ensures c.requires.from c.requires.to G known

pub returns-clause-value : goal.returns-clause-value
returns-clause-value c G known =
    let k = c.self.inside.known in
    let seen = seen-of c.args.self.now k.group k.gens k.lifts.items k.relations.items k.degrees.items
    c.self.view_is in
    value-seen c.args.self.now k.group k.gens k.lifts.items k.relations.items k.degrees.items seen
    c.self.invariant.0 c.args.d c.index.result.now c.index.ensures c.requires.from c.requires.to G known
    c.args.i (entries_of c.row.result) c.requires.within c.row.ensures.entries

pub returns-clause-modulus : goal.returns-clause-modulus
returns-clause-modulus c =
    let k = c.self.inside.known in
    let seen = seen-of c.args.self.now k.group k.gens k.lifts.items k.relations.items k.degrees.items
    c.self.view_is in
    let some : 0 < length k.degrees.items =
    (let e = seen.degree_is in omega (arith, e, c.requires.from, c.requires.to)) in
    let g = some-group k.group k.gens k.lifts.items k.relations.items k.degrees.items
    c.self.invariant.0 some in
    c.row.ensures.modulus ∙ modulus-seen c.args.self.now k.group k.gens k.lifts.items k.relations.items
    k.degrees.items seen c.self.invariant.0 c.args.d c.index.result.now c.index.ensures c.requires.from
    c.requires.to g.0 (seen.group_is ∙ g.1)
