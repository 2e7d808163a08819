use Rattle.std.proofs.Common.{arith}
use Rattle.neg_basis.proofs.WorkLemmas.{next_vector}
use Rattle.neg_basis.proofs.work.apply_all.Goals as goal

pub loop-number-preserved : goal.loop-number-preserved
loop-number-preserved g c = record {
  ready = c.in_ok-apply_one.ensures.ready;
  grown = omega (arith, c.in_ok-apply_one.ensures.grown, c.loop-number.invariant.grown);
  origins = λ h. c.in_ok-apply_one.ensures.origins (c.loop-number.invariant.origins h);
  worked = λ gens n W. c.in_ok-apply_one.ensures.worked gens n (c.loop-number.invariant.worked gens n W);
}

pub returns-clause-worked : goal.returns-clause-worked
returns-clause-worked g c =
    λ gens n W. next_vector (omega (arith, c.loop-number-test.false, c.count-number-end.ensures))
    (c.loop-number.invariant.worked gens n W)
