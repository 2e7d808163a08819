use Rattle.std.proofs.Common.{◌≡◌, length, arith, ap, sym, ◌∙◌}
use Rattle.std.proofs.lemmas.List.{length-map}
use Rattle.fp_rows.specs.Refs.{entries_of}
use Rattle.chain_lift.specs.Values.{LiftValue}
use Rattle.ring_present.specs.Values.{RingValue}
use Rattle.ring_present.proofs.Shown.{lift-prime}
use Rattle.ring_present.proofs.KnownRings.{class-length}
use Rattle.ring_present.proofs.ring.Ring.class_of.Goals as goal

pub returns-clause-modulus : goal.returns-clause-modulus
returns-clause-modulus c =
    let k = c.self.inside.known in
    let n : length c.args.self.now.generators ≡ length k.lifts.items =
    ap (λ (r : RingValue). length r.generators) (sym c.self.view_is)
    ∙ length-map k.lifts.items (λ (l : LiftValue). record { degree = l.degree; class = l.class }) in
    c.class.ensures.modulus
    ∙ lift-prime k.group k.gens k.lifts.items k.relations.items k.degrees.items c.self.invariant.0 c.args.i
    c.index.result.now (omega (arith, n, c.requires)) c.index.ensures
    ∙ ap (λ (r : RingValue). r.prime) c.self.view_is

pub returns-clause-length : goal.returns-clause-length
returns-clause-length c G known g =
    let k = c.self.inside.known in
    class-length c.args.self.now k.group k.gens k.lifts.items k.relations.items k.degrees.items
    c.self.invariant.0 c.self.view_is c.args.i c.index.result.now
    (length (entries_of c.class.result)) c.requires c.index.ensures c.class.ensures.length G known g
