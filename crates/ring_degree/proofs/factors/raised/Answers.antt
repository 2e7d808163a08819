use Rattle.std.proofs.Common.{arith, ap, ◌∙◌}
use Rattle.graded_polynomials.specs.Monomials.{exponent}
use Rattle.graded_polynomials.specs.Texts.{power}
use Rattle.ring_completion.proofs.Factors.{power-here, power-elsewhere}
use Rattle.ring_degree.proofs.Multiplying.{raised-step, raised-is}
use Rattle.ring_degree.proofs.factors.raised.Goals as goal
use Rattle.ring_degree.proofs.factors.raised.Goals.{then-k-i, else-k-i}

pub loop-k-preserved : goal.loop-k-preserved
loop-k-preserved c = raised-step c.args.s.now c.loop-k.exponents.items c.push.new.self.items c.args.i
    c.loop-k.k
    c.exponent-exponent.result c.if-k-i.push c.loop-k.invariant
    (omega (arith, c.loop-k-test.true, c.max-k-end.ensures, c.len.ensures.value)) c.exponent-exponent.ensures
    (elim c.if-k-i.branch [
      | then-k-i w ↦
          let h = power-here c.args.i 1 in
          let e = ap (exponent (power c.args.i 1)) w.if-k-i.true in omega (arith, w.push-is, h, e)
      | else-k-i w ↦ let h = power-elsewhere c.args.i 1 c.loop-k.k w.if-k-i.false in
          omega (arith, w.push-is, h)
    ]) c.in_ok-push.ensures.items

pub returns : goal.returns
returns c = raised-is c.args.s.now c.loop-k.exponents.items c.in_ok-product.product c.args.i c.loop-k.k
    c.loop-k.invariant (omega (arith, c.loop-k-test.false, c.max-k-end.ensures, c.len.ensures.value))
    c.len.ensures.trimmed c.in_ok-product.ensures.trimmed
    (λ j. c.in_ok-product.ensures.exponents j ∙ ap (λ x. exponent x j) c.deref.ensures.value)
