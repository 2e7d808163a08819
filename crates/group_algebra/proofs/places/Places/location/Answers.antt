use Rattle.std.proofs.Common.{◌≡◌, ℕ, zero, suc, ◌+◌, ◌-◌, ◌*◌, ◌/◌, ◌%◌, ◌≤◌, ◌<◌, get_or, length, arith}
use Rattle.std.proofs.Common.{sym, ◌∙◌}
use Rattle.std.proofs.lemmas.Nat.{mod_below}
use Rattle.group_algebra.specs.Places.{start_at}
use Rattle.group_algebra.proofs.LayerPlaces.{start-next, place-in-layer}
use Rattle.group_algebra.proofs.places.Places.location.Goals as goal

pub returns-then-place-rank-clause-place : goal.returns-then-place-rank-clause-place
returns-then-place-rank-clause-place c =
    let ss = c.args.self.now in
    let S : ℕ = start_at c.args.self.now c.loop-layer.layer in
    let s : ℕ = get_or c.args.self.now c.loop-layer.layer 0 in
    let layer : c.loop-layer.layer < length c.args.self.now =
    omega (arith, c.loop-layer-test.true, c.layers-layer-end.ensures) in
    let low : c.args.rank * S ≤ c.args.place = rw c.loop-layer.invariant.0 at c.loop-layer.invariant.1 in
    let high : c.args.place < c.args.rank * (S + s) =
    rw (c.loop-layer.invariant.0, c.size-size.ensures.value) at c.if-place-rank.true in
    let inside : ℕ = c.args.place - c.args.rank * S in
    let d : c.args.rank * (S + s) ≡ c.args.rank * S + c.args.rank * s = omega arith in
    let some : 0 < s = positive c.args.rank s (c.args.place - c.args.rank * S) (omega
    (arith, low, high, d)) in
    rw (c.loop-layer.invariant.0, c.size-size.ensures.value)
    (place-in-layer c.args.self.now c.args.rank ((c.args.place - c.args.rank * S) / s) c.loop-layer.layer
    ((c.args.place - c.args.rank * S) % s) layer (mod_below (c.args.place - c.args.rank * S) s some)
    ∙ together c.args.place (c.args.rank * S) s some low)
  where
    positive : (b s x : ℕ) → x < b * s → 0 < s
    positive b zero x l = absurd (let e : b * 0 ≡ 0 = omega arith in omega (arith, e, l))
    positive b (suc s) x l = omega arith

    together : (p r s : ℕ) → 0 < s → r ≤ p → r + (p - r) / s * s + (p - r) % s ≡ p
    together p r s o l = let e : s * ((p - r) / s) + (p - r) % s ≡ p - r = omega (arith, o) in
        let f : s * ((p - r) / s) ≡ (p - r) / s * s = omega arith in omega (arith, e, f, l)

pub loop-layer-preserved : goal.loop-layer-preserved
loop-layer-preserved c =
    let layer : c.loop-layer.layer < length c.args.self.now =
    omega (arith, c.loop-layer-test.true, c.layers-layer-end.ensures) in (
      rw (c.loop-layer.invariant.0, c.size-size.ensures.value)
          (sym (start-next c.args.self.now c.loop-layer.layer layer)),
      omega (arith, c.if-place-rank.false),
    )
