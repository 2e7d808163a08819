use Rattle.std.proofs.Common.{arith, ap, ◌∙◌, length}
use Rattle.std.proofs.lemmas.List.{length_push}
use Rattle.graded_polynomials.specs.Monomials.{exponent}
use Rattle.graded_polynomials.specs.Texts.{power}
use Rattle.ring_completion.proofs.Factors.{power-here, power-elsewhere}
use Rattle.ring_degree.proofs.Multiplying.{quotient-step, quotient-is}
use Rattle.ring_degree.proofs.factors.quotient.Goals as goal
use Rattle.ring_degree.proofs.factors.quotient.Goals.{then-k-i, else-k-i}

pub loop-k-preserved : goal.loop-k-preserved
loop-k-preserved c = record {
  count = ap length c.in_ok-push.ensures.items
      ∙ (let h = length_push c.loop-k.exponents.items c.if-k-i.push in
      let e = c.loop-k.invariant.count in omega (arith, h, e));
  each = quotient-step c.loop-k.exponents.items c.push.new.self.items c.args.m.now c.args.i c.loop-k.k
      c.if-k-i.push (omega (arith, c.requires)) c.loop-k.invariant.count c.loop-k.invariant.each
      (elim c.if-k-i.branch [
        | then-k-i w ↦
            let h = power-here c.args.i 1 in
            let e = ap (exponent (power c.args.i 1)) w.if-k-i.true in
            let f = ap (exponent c.args.m.now) w.if-k-i.true in
            omega (arith, w.push-is, h, e, f, c.requires, c.exponent-exponent.ensures)
        | else-k-i w ↦
            let h = power-elsewhere c.args.i 1 c.loop-k.k w.if-k-i.false in
            omega (arith, w.push-is, h, c.exponent-exponent.ensures)
      ])
      c.in_ok-push.ensures.items;
}

pub returns : goal.returns
returns c = quotient-is c.loop-k.exponents.items c.args.m.now c.in_ok-rest.rest c.args.i c.loop-k.k
    (omega (arith, c.requires)) c.loop-k.invariant.count
    (omega (arith, c.loop-k-test.false, c.len-k-end.ensures.value)) c.loop-k.invariant.each
    c.len-k-end.ensures.trimmed c.in_ok-rest.ensures.trimmed
    (λ j. c.in_ok-rest.ensures.exponents j ∙ ap (λ x. exponent x j) c.deref.ensures.value)
