use Rattle.std.proofs.Common.{◌≡◌, ◌≤◌, ◌-◌, length, arith, ap, ◌∙◌}
use Rattle.graded_polynomials.specs.Monomials.{exponent}
use Rattle.cohomology_degree.proofs.Monomials.{last-is-positive, last-factor-of}
use Rattle.cohomology_degree.proofs.values.quotient.Goals as goal

pub overflow_sub-exponent : goal.overflow_sub-exponent
overflow_sub-exponent c =
    let e : c.len-last.result - 1 ≡ length c.args.m.now - 1 = omega (arith, c.len-last.ensures.value) in
    let p : 1 ≤ exponent c.args.m.now (length c.args.m.now - 1) =
    last-is-positive c.args.m.now (length c.args.m.now - 1) c.len-last.ensures.trimmed
    (omega (arith, c.requires)) in
    omega (arith, p, c.exponent-2.ensures, ap (exponent c.args.m.now) e)

pub returns-clause-factor : goal.returns-clause-factor
returns-clause-factor c =
    let e : c.len-last.result - 1 ≡ length c.args.m.now - 1 = omega (arith, c.len-last.ensures.value) in
    let n : c.loop-i.i ≡ length c.args.m.now - 1 = omega (arith, e) in
    last-factor-of c.args.m.now c.loop-i.exponents.items c.push-2.new.self.items c.in_ok-rest.rest
    (length c.args.m.now - 1) c.exponent-2.result
    c.len-last.ensures.trimmed (omega (arith, c.requires)) (c.loop-i.invariant.count
    ∙ n) (λ k l. c.loop-i.invariant.each k (omega (arith, n, l)))
    (c.exponent-2.ensures ∙ ap (exponent c.args.m.now) e) c.in_ok-push-2.ensures.items
    (λ k. c.in_ok-rest.ensures.exponents k ∙ ap (λ x. exponent x k) c.deref.ensures.value)
