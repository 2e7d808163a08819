use Rattle.std.proofs.Common.{◌≡◌, ◌<◌, ◌≤◌, ◌+◌, ◌*◌, ◌-◌, ◌^◌, arith}
use Rattle.radical_layers.specs.Placing.{size_of, place_of}
use Rattle.group_algebra.specs.Places.{span_of}
use Rattle.group_algebra.proofs.PlaceLemmas.{place-found, place-at-start}
use Rattle.group_algebra.proofs.places.Places.place.Goals as goal

pub overflow_mul-result : goal.overflow_mul-result
overflow_mul-result c =
    let r : (c.index-start.result.now ≤ c.args.member)
    × (c.args.rank * c.index-start.result.now + c.args.block * span_of c.self.inside.sizes.items c.args.member
    + (c.args.member - c.index-start.result.now)
    ≡ place_of c.self.inside.sizes.items c.args.rank c.args.block c.args.member)
    × (place_of c.self.inside.sizes.items c.args.rank c.args.block c.args.member < size_of
    c.self.inside.sizes.items * c.args.rank)
    = place-at-start c.self.inside.sizes.items c.args.rank c.args.block c.args.member
    c.self.inside.starts.items c.self.inside.spans.items c.index-start.result.now
    c.self.invariant c.requires.block (rw (← c.self.view_is) at c.requires.member) c.index-start.ensures in
    let small : size_of c.self.inside.sizes.items * c.args.rank < 2 ^ 64 =
    rw (← c.self.view_is) at c.requires.small in
    omega (arith, r.0, r.1, r.2, small)

pub overflow_mul-result-2 : goal.overflow_mul-result-2
overflow_mul-result-2 c =
    let r : (c.index-start.result.now ≤ c.args.member)
    × (c.args.rank * c.index-start.result.now + c.args.block * c.index.result.now +
    (c.args.member - c.index-start.result.now)
    ≡ place_of c.self.inside.sizes.items c.args.rank c.args.block c.args.member)
    × (place_of c.self.inside.sizes.items c.args.rank c.args.block c.args.member < size_of
    c.self.inside.sizes.items * c.args.rank)
    = place-found c.self.inside.sizes.items c.args.rank c.args.block c.args.member c.self.inside.starts.items
    c.self.inside.spans.items c.index-start.result.now c.index.result.now
    c.self.invariant c.requires.block (rw
    (← c.self.view_is) at c.requires.member) c.index-start.ensures c.index.ensures in
    let small : size_of c.self.inside.sizes.items * c.args.rank < 2 ^ 64 =
    rw (← c.self.view_is) at c.requires.small in
    omega (arith, r.0, r.1, r.2, small)

pub overflow_add-result : goal.overflow_add-result
overflow_add-result c =
    let r : (c.index-start.result.now ≤ c.args.member)
    × (c.args.rank * c.index-start.result.now + c.args.block * c.index.result.now +
    (c.args.member - c.index-start.result.now)
    ≡ place_of c.self.inside.sizes.items c.args.rank c.args.block c.args.member)
    × (place_of c.self.inside.sizes.items c.args.rank c.args.block c.args.member < size_of
    c.self.inside.sizes.items * c.args.rank)
    = place-found c.self.inside.sizes.items c.args.rank c.args.block c.args.member c.self.inside.starts.items
    c.self.inside.spans.items c.index-start.result.now c.index.result.now
    c.self.invariant c.requires.block (rw
    (← c.self.view_is) at c.requires.member) c.index-start.ensures c.index.ensures in
    let small : size_of c.self.inside.sizes.items * c.args.rank < 2 ^ 64 =
    rw (← c.self.view_is) at c.requires.small in
    omega (arith, r.0, r.1, r.2, small)

pub overflow_sub-result : goal.overflow_sub-result
overflow_sub-result c =
    let r : (c.index-start.result.now ≤ c.args.member)
    × (c.args.rank * c.index-start.result.now + c.args.block * c.index.result.now +
    (c.args.member - c.index-start.result.now)
    ≡ place_of c.self.inside.sizes.items c.args.rank c.args.block c.args.member)
    × (place_of c.self.inside.sizes.items c.args.rank c.args.block c.args.member < size_of
    c.self.inside.sizes.items * c.args.rank)
    = place-found c.self.inside.sizes.items c.args.rank c.args.block c.args.member c.self.inside.starts.items
    c.self.inside.spans.items c.index-start.result.now c.index.result.now
    c.self.invariant c.requires.block (rw
    (← c.self.view_is) at c.requires.member) c.index-start.ensures c.index.ensures in
    let small : size_of c.self.inside.sizes.items * c.args.rank < 2 ^ 64 =
    rw (← c.self.view_is) at c.requires.small in
    omega (arith, r.0, r.1, r.2, small)

pub overflow_add-result-2 : goal.overflow_add-result-2
overflow_add-result-2 c =
    let r : (c.index-start.result.now ≤ c.args.member)
    × (c.args.rank * c.index-start.result.now + c.args.block * c.index.result.now +
    (c.args.member - c.index-start.result.now)
    ≡ place_of c.self.inside.sizes.items c.args.rank c.args.block c.args.member)
    × (place_of c.self.inside.sizes.items c.args.rank c.args.block c.args.member < size_of
    c.self.inside.sizes.items * c.args.rank)
    = place-found c.self.inside.sizes.items c.args.rank c.args.block c.args.member c.self.inside.starts.items
    c.self.inside.spans.items c.index-start.result.now c.index.result.now
    c.self.invariant c.requires.block (rw
    (← c.self.view_is) at c.requires.member) c.index-start.ensures c.index.ensures in
    let small : size_of c.self.inside.sizes.items * c.args.rank < 2 ^ 64 =
    rw (← c.self.view_is) at c.requires.small in
    omega (arith, r.0, r.1, r.2, small)

pub returns-clause-value : goal.returns-clause-value
returns-clause-value c = rw (← c.self.view_is)
    (place-found c.self.inside.sizes.items c.args.rank c.args.block c.args.member c.self.inside.starts.items
    c.self.inside.spans.items c.index-start.result.now c.index.result.now
    c.self.invariant c.requires.block (rw
    (← c.self.view_is) at c.requires.member) c.index-start.ensures c.index.ensures).1

pub returns-clause-inside : goal.returns-clause-inside
returns-clause-inside c =
    let r : (c.index-start.result.now ≤ c.args.member)
    × (c.args.rank * c.index-start.result.now + c.args.block * c.index.result.now +
    (c.args.member - c.index-start.result.now)
    ≡ place_of c.self.inside.sizes.items c.args.rank c.args.block c.args.member)
    × (place_of c.self.inside.sizes.items c.args.rank c.args.block c.args.member < size_of
    c.self.inside.sizes.items * c.args.rank)
    = place-found c.self.inside.sizes.items c.args.rank c.args.block c.args.member c.self.inside.starts.items
    c.self.inside.spans.items c.index-start.result.now c.index.result.now
    c.self.invariant c.requires.block (rw
    (← c.self.view_is) at c.requires.member) c.index-start.ensures c.index.ensures in
    let small : size_of c.self.inside.sizes.items * c.args.rank < 2 ^ 64 =
    rw (← c.self.view_is) at c.requires.small in
    rw (← c.self.view_is, r.1) r.2
