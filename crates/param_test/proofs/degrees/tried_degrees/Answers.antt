use Rattle.std.proofs.Common.{◌≡◌, ◌+◌, ◌-◌, length, arith, ap, sym, ◌∙◌}
use Rattle.param_test.specs.Counting as counting
use Rattle.param_test.proofs.Numbers.{number-zero}
use Rattle.param_test.proofs.Trying.{few-none, few-more, not-first}
use Rattle.param_test.proofs.degrees.tried_degrees.Goals as goal

pub loop-e-init : goal.loop-e-init
loop-e-init c = record {
  low = omega arith;
  number = sym (number-zero (length c.args.ring.now.degrees));
  few = omega arith;
  before = few-none (length c.args.ring.now.degrees);
}

pub loop-e-preserved : goal.loop-e-preserved
loop-e-preserved c =
    let n : c.next_number-number.result ≡ counting.number (length c.args.ring.now.degrees) c.loop-e.e =
    c.next_number-number.ensures ∙ ap (λ s. counting.number s c.loop-e.e) c.len-variables.ensures.value in
    record {
      low = omega arith;
      number =
          n ∙ ap (counting.number (length c.args.ring.now.degrees)) (let z : c.loop-e.e ≡ c.loop-e.e + 1 - 1 =
          omega arith in z);
      few = omega arith;
      before = few-more (length c.args.ring.now.degrees) c.loop-e.e c.next_number-number.result n
          (omega arith) c.loop-e.invariant.before;
    }

pub returns-then-number-gt1500-clause-low : goal.returns-then-number-gt1500-clause-low
returns-then-number-gt1500-clause-low c =
    let n : c.next_number-number.result ≡ counting.number (length c.args.ring.now.degrees) c.loop-e.e =
    c.next_number-number.ensures ∙ ap (λ s. counting.number s c.loop-e.e) c.len-variables.ensures.value in
    let z = not-first (length c.args.ring.now.degrees) c.loop-e.e c.next_number-number.result c.requires.few n
    c.if-number-gt1500.true in
    omega (arith, z, c.loop-e.invariant.low)
