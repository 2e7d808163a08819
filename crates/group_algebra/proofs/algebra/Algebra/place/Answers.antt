use Rattle.std.proofs.Common.{◌≡◌, ◌∙◌, ap}
use Rattle.group_table.specs.Tables.{order}
use Rattle.radical_layers.specs.Placing.{size_of, place_of}
use Rattle.group_algebra.proofs.LayerRows.{size-is}
use Rattle.group_algebra.proofs.algebra.Algebra.place.Goals as goal

pub place-requires-clause-member : goal.place-requires-clause-member
place-requires-clause-member c =
    let e : size_of c.self.inside.places ≡ order c.self.inside.group.table =
    ap size_of c.self.invariant.sizes_are ∙ size-is c.self.inside.group in
    rw e (rw (← c.self.view_is) at c.requires.member)

pub place-requires-clause-small : goal.place-requires-clause-small
place-requires-clause-small c =
    let e : size_of c.self.inside.places ≡ order c.self.inside.group.table =
    ap size_of c.self.invariant.sizes_are ∙ size-is c.self.inside.group in
    rw e (rw (← c.self.view_is) at c.requires.small)

pub returns-clause-value : goal.returns-clause-value
returns-clause-value c = rw (← c.self.view_is) (c.place.ensures.value
    ∙ ap (λ ss. place_of ss c.args.rank c.args.block c.args.member) c.self.invariant.sizes_are)

pub returns-clause-inside : goal.returns-clause-inside
returns-clause-inside c =
    let e : size_of c.self.inside.places ≡ order c.self.inside.group.table =
    ap size_of c.self.invariant.sizes_are ∙ size-is c.self.inside.group in
    rw (← c.self.view_is, ← e) c.place.ensures.inside
