use Rattle.std.proofs.Common.{◌≡◌, ℕ, length, arith, ap, sym, ◌∙◌, refl}
use mathlib.Core.Path.{subst}
use Rattle.std.proofs.lemmas.Result.{IfOk-weaker}
use Rattle.linear_algebra.specs.Modular.{IsCongruent}
use Rattle.linear_algebra.specs.Rows.{entry, row}
use Rattle.fp_rows.specs.Values.{RowValue}
use Rattle.fp_rows.proofs.Primes.{prime_above_one}
use Rattle.neg_basis.specs.Results.{BasisValue, IsNegBasisOf}
use Rattle.neg_basis.proofs.OriginLemmas.{no_origins}
use Rattle.neg_basis.proofs.ReadyLemmas.{ready_at, ready_start, ready_with}
use Rattle.neg_basis.proofs.WorkLemmas.{worked_start, worked_all}
use Rattle.neg_basis.proofs.basis.NegBasis.from_generators.Goals as goal

pub loop-r-init : goal.loop-r-init
loop-r-init g c =
    let p : c.args.gens.now.p ≡ g.T.Ops.modulus c.args.ops.now = c.requires.same_field in
    let w : c.args.gens.now.width ≡ g.T.Ops.width c.args.ops.now = c.requires.same_width in
    record {
      ready = ready_start c.no_vectors-found.result c.in_ok-v.v
          (rw (c.prime-2.ensures, p) at (prime_above_one c.prime-2.result))
          (c.no_vectors-found.ensures.field ∙ c.prime.ensures ∙ p)
          (c.no_vectors-found.ensures.width ∙ c.width.ensures ∙ w) c.no_vectors-found.ensures.vectors
          c.no_vectors-found.ensures.heads
          (ap (λ (r : RowValue). r.p) c.in_ok-v.ensures ∙ c.prime-2.ensures ∙ p)
          (rw (c.width-2.ensures, w) at (ap (λ (r : RowValue). r.entries) c.in_ok-v.ensures));
      origins = no_origins c.no_vectors-found.ensures.vectors c.no_vectors-found.ensures.origins;
      worked = worked_start c.args.gens.now.rows c.no_vectors-found.ensures.vectors
          c.no_vectors-found.ensures.origins;
    }

pub load-requires-clause-same_prime : goal.load-requires-clause-same_prime
load-requires-clause-same_prime g c = c.row.ensures.modulus ∙ c.requires.same_field
    ∙ sym c.loop-r.invariant.ready.prime

pub load-requires-clause-same_length : goal.load-requires-clause-same_length
load-requires-clause-same_length g c = ap length c.row.ensures.entries ∙ c.row.ensures.is_row.length_is
    ∙ c.requires.same_width ∙ sym c.loop-r.invariant.ready.row.length_is

pub take-requires-clause-ready : goal.take-requires-clause-ready
take-requires-clause-ready g c = ready_with c.load.new.v c.loop-r.invariant.ready
    (c.load.ensures.prime ∙ c.loop-r.invariant.ready.prime)
    (rw (c.loop-r.invariant.ready.prime, c.loop-r.invariant.ready.row.length_is) at c.load.ensures.row)

pub loop-r-preserved : goal.loop-r-preserved
loop-r-preserved g c =
    let e : (j : ℕ) → IsCongruent (g.T.Ops.modulus c.args.ops.now) (entry c.load.new.v.entries j)
    (entry (row c.args.gens.now.rows c.loop-r.r) j) =
    rw (← c.loop-r.invariant.ready.prime, ← c.row.ensures.entries) c.load.ensures.entries in
    record {
      ready = c.in_ok-take.ensures.ready;
      origins = c.in_ok-take.ensures.origins c.loop-r.invariant.origins;
      worked = c.in_ok-take.ensures.taken c.args.gens.now.rows
          (omega (arith, c.loop-r-test.true, c.rows-r-end.ensures.count)) e c.loop-r.invariant.worked;
    }

pub of_found-requires-clause-basis : goal.of_found-requires-clause-basis
of_found-requires-clause-basis g c = (ready_at c.loop-r.invariant.ready).basis

pub returns-clause-same_field : goal.returns-clause-same_field
returns-clause-same_field g c = IfOk-weaker c.of_found.result _ _
    (λ b e. ap (λ (x : BasisValue). x.p) e ∙ c.loop-r.invariant.ready.same_field ∙ sym c.requires.same_field)
    c.of_found.ensures

pub returns-clause-same_width : goal.returns-clause-same_width
returns-clause-same_width g c = IfOk-weaker c.of_found.result _ _
    (λ b e. ap (λ (x : BasisValue). x.width) e ∙ c.loop-r.invariant.ready.same_width
    ∙ sym c.requires.same_width)
    c.of_found.ensures

pub returns-clause-basis : goal.returns-clause-basis
returns-clause-basis g c =
    let basis : IsNegBasisOf (g.T.Ops.modulus c.args.ops.now) (g.T.Ops.width c.args.ops.now)
    (g.T.Ops.maps c.args.ops.now) (g.T.Ops.image c.args.ops.now) c.args.gens.now.rows
    c.loop-r.found.vectors.rows c.loop-r.found.origins.items =
    worked_all (g.met.T.Ops.linear c.args.ops.now)
    (omega (arith, c.loop-r-test.false, c.rows-r-end.ensures.count, c.loop-r.auto.r-end)) refl
    c.loop-r.invariant.worked in
    IfOk-weaker c.of_found.result _ _
    (λ b e. subst (λ (x : BasisValue). IsNegBasisOf c.args.gens.now.p c.args.gens.now.width
    (g.T.Ops.maps c.args.ops.now) (g.T.Ops.image c.args.ops.now) c.args.gens.now.rows x.vectors x.origins)
    (sym e) (rw (c.requires.same_field, c.requires.same_width) basis)) c.of_found.ensures
