use Rattle.std.proofs.Common.{◌≡◌, ◌+◌, ◌*◌, ◌<◌, ◌≤◌, ℕ, List, length, replicate, arith, ap, sym, ◌∙◌}
use Rattle.std.proofs.Math.Nat.{mul-le-mul_right}
use mathlib.Core.Path.{subst}
use Rattle.std.proofs.lemmas.Result.{IfOk-weaker}
use Rattle.linear_algebra.specs.Modular.{IsCongruent, IsFieldModulo}
use Rattle.linear_algebra.specs.Rows.{entry, row, IsReduced}
use Rattle.neg_basis.specs.Founds.{IsReady}
use Rattle.neg_basis.specs.Images.{AreImages}
use Rattle.neg_basis.specs.Results.{BasisValue, IsNegBasisOf}
use Rattle.neg_basis.specs.Turns.{IsAdded, TakesImages}
use Rattle.neg_basis.specs.declared.origin.Origin.TheVariants.{Chosen}
use Rattle.fp_rows.specs.Values.{RowValue}
use Rattle.fp_rows.proofs.Primes.{prime_above_one}
use Rattle.neg_basis.proofs.OriginLemmas.{no_origins}
use Rattle.neg_basis.proofs.ImageLemmas.{echelon-count, halfway_start, halfway_end, same_rest, more_rest}
use Rattle.neg_basis.proofs.ReadyLemmas.{ready_at, ready_start, ready_with}
use Rattle.neg_basis.proofs.basis.NegBasis.of_images.Goals as goal
use Rattle.neg_basis.proofs.basis.NegBasis.of_images.Goals.{then-rows-before+in_ok-take_images}
use Rattle.neg_basis.proofs.basis.NegBasis.of_images.Goals.{else-rows-before}

pub loop-r-init : goal.loop-r-init
loop-r-init g c =
    let p : c.args.list.now.p ≡ g.T.Ops.modulus c.args.ops.now = c.requires.same_field in
    let w : c.args.list.now.width ≡ g.T.Ops.width c.args.ops.now = c.requires.same_width in
    let one : 1 < g.T.Ops.modulus c.args.ops.now =
    rw (c.prime-3.ensures, p) at (prime_above_one c.prime-3.result) in
    let prime : c.in_ok-v.v.p ≡ g.T.Ops.modulus c.args.ops.now =
    ap (λ (r : RowValue). r.p) c.in_ok-v.ensures ∙ c.prime-3.ensures ∙ p in
    let zeros : c.in_ok-v.v.entries ≡ replicate (g.T.Ops.width c.args.ops.now) 0 =
    rw (c.width-3.ensures, w) at (ap (λ (r : RowValue). r.entries) c.in_ok-v.ensures) in
    record {
      ready = ready_start c.no_vectors-found.result c.in_ok-v.v one
          (c.no_vectors-found.ensures.field ∙ c.prime.ensures ∙ p)
          (c.no_vectors-found.ensures.width ∙ c.width.ensures ∙ w) c.no_vectors-found.ensures.vectors
          c.no_vectors-found.ensures.heads prime zeros;
      rest = ready_start c.no_vectors-rest.result c.in_ok-v.v one
          (c.no_vectors-rest.ensures.field ∙ c.prime-2.ensures ∙ p)
          (c.no_vectors-rest.ensures.width ∙ c.width-2.ensures ∙ w) c.no_vectors-rest.ensures.vectors
          c.no_vectors-rest.ensures.heads prime zeros;
      origins = no_origins c.no_vectors-found.ensures.vectors c.no_vectors-found.ensures.origins;
      halfway = halfway_start c.args.list.now.rows c.no_vectors-found.ensures.vectors
          c.no_vectors-found.ensures.origins c.no_vectors-rest.ensures.vectors;
    }

pub overflow_cast-r : goal.overflow_cast-r
overflow_cast-r g c = omega (
  arith,
  c.loop-r-test.true,
  c.rows-r-end.ensures.count,
  echelon-count c.args.list.now.rows c.rows-r-end.ensures.matrix c.rows-r-end.ensures.echelon,
  c.requires.width_fits,
)

pub load-requires-clause-same_prime : goal.load-requires-clause-same_prime
load-requires-clause-same_prime g c = c.row.ensures.modulus ∙ c.requires.same_field
    ∙ sym c.loop-r.invariant.ready.prime

pub load-requires-clause-same_length : goal.load-requires-clause-same_length
load-requires-clause-same_length g c = ap length c.row.ensures.entries ∙ c.row.ensures.is_row.length_is
    ∙ c.requires.same_width ∙ sym c.loop-r.invariant.ready.row.length_is

pub reduce_by-requires-clause-basis : goal.reduce_by-requires-clause-basis
reduce_by-requires-clause-basis g c = (ready_at c.loop-r.invariant.ready).basis

pub reduce_by-requires-clause-same_prime : goal.reduce_by-requires-clause-same_prime
reduce_by-requires-clause-same_prime g c = c.load.ensures.prime ∙ c.loop-r.invariant.ready.prime
    ∙ sym c.loop-r.invariant.ready.same_field

pub reduce_by-requires-clause-same_width : goal.reduce_by-requires-clause-same_width
reduce_by-requires-clause-same_width g c = c.load.ensures.row.length_is
    ∙ c.loop-r.invariant.ready.row.length_is ∙ sym c.loop-r.invariant.ready.same_width

pub insert-requires : goal.insert-requires
insert-requires g c =
    let h : IsReady (g.T.Ops.modulus c.args.ops.now) (g.T.Ops.width c.args.ops.now) c.loop-r.rest
    c.reduce_by.new.v =
    ready_with c.reduce_by.new.v c.loop-r.invariant.rest
    (c.reduce_by.ensures.prime ∙ c.load.ensures.prime ∙ c.loop-r.invariant.ready.prime)
    (rw (
      c.loop-r.invariant.ready.same_field,
      c.loop-r.invariant.ready.same_width,
    ) at c.reduce_by.ensures.row) in
    ready_at h

pub take_images-requires-clause-images_fit :
    goal.take_images-requires-clause-images_fit
take_images-requires-clause-images_fit g c =
    let fit : (c.loop-r.r + 1) * g.T.Ops.maps c.args.ops.now
    ≤ length c.args.list.now.rows * g.T.Ops.maps c.args.ops.now =
    mul-le-mul_right (g.T.Ops.maps c.args.ops.now)
    (let l : c.loop-r.r + 1 ≤ length c.args.list.now.rows =
    omega (arith, c.loop-r-test.true, c.rows-r-end.ensures.count) in l) in
    omega (arith, fit, c.requires.images_fit)

pub take_images-requires-clause-ready : goal.take_images-requires-clause-ready
take_images-requires-clause-ready g c =
    let h : IsReady (g.T.Ops.modulus c.args.ops.now) (g.T.Ops.width c.args.ops.now) c.insert.new.found
    c.insert.new.v =
    rw (
      c.loop-r.invariant.rest.same_field,
      c.loop-r.invariant.rest.same_width,
    ) at c.in_ok-insert.ensures.ready in
    ready_with c.insert.new.v c.loop-r.invariant.ready h.prime h.row

pub take_images-requires-clause-row_prime :
    goal.take_images-requires-clause-row_prime
take_images-requires-clause-row_prime g c = c.row-then-rows-before.ensures.modulus ∙ c.requires.same_field

pub take_images-requires-clause-row_is :
    goal.take_images-requires-clause-row_is
take_images-requires-clause-row_is g c = rw (
  c.row-then-rows-before.ensures.entries,
  ← c.requires.same_field,
  ← c.requires.same_width,
) c.row-then-rows-before.ensures.is_row

pub loop-r-preserved : goal.loop-r-preserved
loop-r-preserved g c =
    let P : ℕ = g.T.Ops.modulus c.args.ops.now in
    let W : ℕ = g.T.Ops.width c.args.ops.now in
    let before : IsReady P W c.loop-r.found c.loop-r.v = c.loop-r.invariant.ready in
    let field : IsFieldModulo P = rw before.same_field at c.reduce_by.ensures.field in
    let e : (j : ℕ) → IsCongruent P (entry c.load.new.v.entries j)
    (entry (row c.args.list.now.rows c.loop-r.r) j) =
    rw (← before.prime, ← c.row.ensures.entries) c.load.ensures.entries in
    let left : IsReduced P c.loop-r.found.vectors.rows c.load.new.v.entries c.reduce_by.new.v.entries =
    rw before.same_field at c.reduce_by.ensures.reduced in
    let added : IsAdded P W c.loop-r.rest.vectors.rows c.loop-r.rest.origins.items
    (entry c.reduce_by.new.v.entries) (Chosen c.loop-r.r) c.insert.new.found.vectors.rows
    c.insert.new.found.origins.items =
    rw (
      c.loop-r.invariant.rest.same_field,
      c.loop-r.invariant.rest.same_width,
    ) at c.in_ok-insert.ensures.added in
    let rest : IsReady P W c.insert.new.found c.insert.new.v =
    rw (
      c.loop-r.invariant.rest.same_field,
      c.loop-r.invariant.rest.same_width,
    ) at c.in_ok-insert.ensures.ready in
    let below : c.loop-r.r < length c.args.list.now.rows =
    omega (arith, c.loop-r-test.true, c.rows-r-end.ensures.count) in
    elim c.if-rows-before.branch [
      | then-rows-before+in_ok-take_images w ↦ (let taken : TakesImages P W (g.T.Ops.maps c.args.ops.now)
          (g.T.Ops.image c.args.ops.now) (row c.args.list.now.rows c.loop-r.r) c.loop-r.r
          (g.T.Ops.maps c.args.ops.now) c.loop-r.found.vectors.rows c.loop-r.found.origins.items
          w.take_images.new.found.vectors.rows w.take_images.new.found.origins.items =
          rw w.row-then-rows-before.ensures.entries at w.in_ok-take_images.ensures.taken in
          let ready : IsReady P W w.take_images.new.found w.take_images.new.v =
          w.in_ok-take_images.ensures.ready in
          record {
            ready = rw (w.v-is, w.found-is) ready;
            rest = rw w.v-is (ready_with w.take_images.new.v rest ready.prime ready.row);
            origins = rw w.found-is (w.in_ok-take_images.ensures.origins c.loop-r.invariant.origins);
            halfway = rw w.found-is (more_rest field (g.met.T.Ops.linear c.args.ops.now) below
                c.loop-r.invariant.halfway c.load.new.v.entries c.reduce_by.new.v.entries e left
                (Chosen c.loop-r.r) added
                (omega (arith, w.if-rows-before.true, c.rows.ensures.count, c.rows-before.ensures.count))
                taken);
          })
      | else-rows-before w ↦ record {
        ready = rw (w.v-is, w.found-is) (ready_with c.insert.new.v before rest.prime rest.row);
        rest = rw w.v-is rest;
        origins = rw w.found-is c.loop-r.invariant.origins;
        halfway = rw w.found-is (same_rest field (g.met.T.Ops.linear c.args.ops.now) below
            c.loop-r.invariant.halfway c.load.new.v.entries c.reduce_by.new.v.entries e left
            (Chosen c.loop-r.r) added
            (omega (arith, w.if-rows-before.false, c.rows.ensures.count, c.rows-before.ensures.count)));
      }
    ]

pub of_found-requires-clause-basis : goal.of_found-requires-clause-basis
of_found-requires-clause-basis g c = (ready_at c.loop-r.invariant.ready).basis

pub returns-clause-same_field : goal.returns-clause-same_field
returns-clause-same_field g c = IfOk-weaker c.of_found.result _ _
    (λ b e. ap (λ (x : BasisValue). x.p) e ∙ c.loop-r.invariant.ready.same_field ∙ sym c.requires.same_field)
    c.of_found.ensures

pub returns-clause-same_width : goal.returns-clause-same_width
returns-clause-same_width g c = IfOk-weaker c.of_found.result _ _
    (λ b e. ap (λ (x : BasisValue). x.width) e ∙ c.loop-r.invariant.ready.same_width
    ∙ sym c.requires.same_width)
    c.of_found.ensures

pub returns-clause-basis : goal.returns-clause-basis
returns-clause-basis g c =
    let basis : (images : List (List ℕ))
    → AreImages (g.T.Ops.modulus c.args.ops.now) (g.T.Ops.maps c.args.ops.now)
    (g.T.Ops.image c.args.ops.now) c.args.list.now.rows images
    → IsNegBasisOf (g.T.Ops.modulus c.args.ops.now) (g.T.Ops.width c.args.ops.now)
    (g.T.Ops.maps c.args.ops.now) (g.T.Ops.image c.args.ops.now) images c.loop-r.found.vectors.rows
    c.loop-r.found.origins.items =
    halfway_end (g.met.T.Ops.linear c.args.ops.now)
    (omega (arith, c.loop-r-test.false, c.rows-r-end.ensures.count, c.loop-r.auto.r-end))
    c.loop-r.invariant.halfway in
    IfOk-weaker c.of_found.result _ _
    (λ b e. subst (λ (x : BasisValue). (images : List (List ℕ))
    → AreImages c.args.list.now.p (g.T.Ops.maps c.args.ops.now) (g.T.Ops.image c.args.ops.now)
    c.args.list.now.rows images
    → IsNegBasisOf c.args.list.now.p c.args.list.now.width (g.T.Ops.maps c.args.ops.now)
    (g.T.Ops.image c.args.ops.now) images x.vectors x.origins)
    (sym e) (rw (c.requires.same_field, c.requires.same_width) basis)) c.of_found.ensures
