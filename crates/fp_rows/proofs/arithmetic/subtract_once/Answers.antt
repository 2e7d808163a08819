use Rattle.std.proofs.Common.{◌≢◌, ◌+◌, ◌-◌, ◌%◌, ◌<◌, length, arith, ap, ◌∙◌, below_more}
use Rattle.std.proofs.Common.{get_or-set_same, get_or-set_other}
use Rattle.linear_algebra.specs.Rows.{entry}
use Rattle.fp_rows.proofs.Primes.{minus_once}
use Rattle.fp_rows.proofs.arithmetic.subtract_once.Goals as goal

pub loop-i-preserved : goal.loop-i-preserved
loop-i-preserved g c = record {
  done = below_more _ _
      (λ j l. let n : j ≢ c.loop-i.i = omega arith in
      get_or-set_other c.loop-i.dst c.loop-i.i j c.reduced.result 0 n ∙ c.loop-i.invariant.done j l)
      (let l : c.loop-i.i < length c.loop-i.dst = omega arith in
      get_or-set_same c.loop-i.dst c.loop-i.i c.reduced.result 0 l ∙ c.reduced.ensures
      ∙ ap (λ x. (x + (g.row.M - entry c.args.src.now c.loop-i.i)) % g.row.M)
      (c.loop-i.invariant.rest c.loop-i.i (omega arith))
      ∙ minus_once g.row.M (entry c.args.dst.now c.loop-i.i) (entry c.args.src.now c.loop-i.i)
      (c.requires.src_is.below c.loop-i.i (omega arith)));
  rest = λ j l. let n : j ≢ c.loop-i.i = omega arith in
      get_or-set_other c.loop-i.dst c.loop-i.i j c.reduced.result 0 n
      ∙ c.loop-i.invariant.rest j (omega arith);
}
