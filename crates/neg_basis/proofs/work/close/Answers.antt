use Rattle.std.proofs.Common.{◌≡◌, ◌<◌, length, arith}
use Rattle.neg_basis.proofs.BasisLemmas.{basis_le}
use Rattle.neg_basis.proofs.work.close.Goals as goal

pub apply_all-requires-clause-of_fits : goal.apply_all-requires-clause-of_fits
apply_all-requires-clause-of_fits g c = omega (
  arith,
  c.loop-of-test.true,
  c.rows.ensures.count,
  basis_le c.loop-of.invariant.ready.basis,
  c.requires.width_fits,
)

pub loop-of-smaller : goal.loop-of-smaller
loop-of-smaller g c = let l : c.loop-of.of < g.T.Ops.width c.args.ops.now =
    omega (arith, c.loop-of-test.true, c.rows.ensures.count, basis_le c.loop-of.invariant.ready.basis) in
    omega arith

pub loop-of-preserved : goal.loop-of-preserved
loop-of-preserved g c = record {
  ready = c.in_ok-apply_all.ensures.ready;
  inside = omega (arith, c.in_ok-apply_all.ensures.grown, c.loop-of-test.true, c.rows.ensures.count);
  origins = λ h. c.in_ok-apply_all.ensures.origins (c.loop-of.invariant.origins h);
  worked = λ gens n W. c.in_ok-apply_all.ensures.worked gens n (c.loop-of.invariant.worked gens n W);
}

pub returns-clause-worked : goal.returns-clause-worked
returns-clause-worked g c = let e : c.loop-of.of ≡ length c.loop-of.found.vectors.rows =
    omega (arith, c.loop-of-test.false, c.rows.ensures.count, c.loop-of.invariant.inside) in
    λ gens n W. rw (← e) (c.loop-of.invariant.worked gens n W)
