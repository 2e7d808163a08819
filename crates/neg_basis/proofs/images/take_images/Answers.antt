use Rattle.std.proofs.Common.{◌≡◌, ◌+◌, ◌*◌, ◌^◌, ◌<◌, ◌≤◌, ℕ, arith}
use mathlib.Core.Path.{subst}
use Rattle.linear_algebra.specs.Rows.{entry}
use Rattle.fp_rows.specs.Refs.{entries_of}
use Rattle.neg_basis.specs.Turns.{TakesGenerator, TakesImages}
use Rattle.neg_basis.proofs.ImageLemmas.{images_none, images_more}
use Rattle.neg_basis.proofs.ReadyLemmas.{ready_with}
use Rattle.neg_basis.proofs.images.take_images.Goals as goal

pub overflow_mul-number : goal.overflow_mul-number
overflow_mul-number g c = let fit : (c.args.r + 1) * c.count-maps.result ≤ 2 ^ 32 =
    rw c.count-maps.ensures c.requires.images_fit in
    omega (arith, fit)

pub overflow_add-number : goal.overflow_add-number
overflow_add-number g c = let fit : (c.args.r + 1) * c.count-maps.result ≤ 2 ^ 32 =
    rw c.count-maps.ensures c.requires.images_fit in
    omega (arith, fit, c.loop-k-test.true)

pub overflow_cast-number : goal.overflow_cast-number
overflow_cast-number g c = let fit : (c.args.r + 1) * c.count-maps.result ≤ 2 ^ 32 =
    rw c.count-maps.ensures c.requires.images_fit in
    omega (arith, fit, c.loop-k-test.true)

pub take-requires-clause-ready : goal.take-requires-clause-ready
take-requires-clause-ready g c =
    ready_with c.apply.new.out c.loop-k.invariant.ready c.apply.ensures.prime c.apply.ensures.row

pub loop-k-init : goal.loop-k-init
loop-k-init g c = record {
  ready = c.requires.ready;
  origins = λ h. h;
  taken = images_none (entries_of c.args.row) c.args.r c.args.found.now.vectors.rows
      c.args.found.now.origins.items;
}

pub loop-k-preserved : goal.loop-k-preserved
loop-k-preserved g c =
    let step : TakesGenerator (g.T.Ops.modulus c.args.ops.now) (g.T.Ops.width c.args.ops.now)
    (g.T.Ops.maps c.args.ops.now) (g.T.Ops.image c.args.ops.now) (entry c.apply.new.out.entries)
    (c.args.r * g.T.Ops.maps c.args.ops.now + c.loop-k.k) c.loop-k.found.vectors.rows
    c.loop-k.found.origins.items c.take.new.found.vectors.rows c.take.new.found.origins.items =
    subst (λ (n : ℕ). TakesGenerator (g.T.Ops.modulus c.args.ops.now) (g.T.Ops.width c.args.ops.now)
    (g.T.Ops.maps c.args.ops.now) (g.T.Ops.image c.args.ops.now) (entry c.apply.new.out.entries)
    (c.args.r * n + c.loop-k.k) c.loop-k.found.vectors.rows c.loop-k.found.origins.items
    c.take.new.found.vectors.rows c.take.new.found.origins.items) c.count-maps.ensures
    c.in_ok-take.ensures.taken in
    let below : c.loop-k.k < g.T.Ops.maps c.args.ops.now =
    omega (arith, c.loop-k-test.true, c.count-maps.ensures) in
    record {
      ready = c.in_ok-take.ensures.ready;
      origins = λ h. c.in_ok-take.ensures.origins (c.loop-k.invariant.origins h);
      taken = images_more (entry c.apply.new.out.entries) (entries_of c.args.row) c.args.r c.loop-k.k below
          c.apply.ensures.image c.loop-k.invariant.taken step;
    }

pub returns-clause-taken : goal.returns-clause-taken
returns-clause-taken g c = subst (λ k. TakesImages (g.T.Ops.modulus c.args.ops.now)
    (g.T.Ops.width c.args.ops.now) (g.T.Ops.maps c.args.ops.now) (g.T.Ops.image c.args.ops.now)
    (entries_of c.args.row) c.args.r k c.args.found.now.vectors.rows c.args.found.now.origins.items
    c.loop-k.found.vectors.rows c.loop-k.found.origins.items)
    (let e : c.loop-k.k ≡ g.T.Ops.maps c.args.ops.now =
    omega (arith, c.loop-k-test.false, c.count-maps.ensures, c.loop-k.auto.k-end) in e)
    c.loop-k.invariant.taken
