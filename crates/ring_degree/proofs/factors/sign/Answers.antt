use Rattle.std.proofs.Common.{◌-◌, ap, sym, ◌∙◌}
use Rattle.graded_polynomials.specs.Monomials.{swaps}
use Rattle.graded_polynomials.specs.Texts.{power}
use Rattle.ring_degree.proofs.Multiplying.{parity-of-swaps, sign-even, sign-odd}
use Rattle.ring_degree.proofs.factors.sign.Goals as goal

pub returns-then-parity_before-degree-eq0-clause-value :
    goal.returns-then-parity_before-degree-eq0-clause-value
returns-then-parity_before-degree-eq0-clause-value c =
    sign-even (c.args.gens.now.prime - 1) (swaps c.args.gens.now.degrees (power c.args.i 1) c.args.s.now)
    (sym (parity-of-swaps c.args.gens.now.degrees c.args.s.now c.args.i c.parity_before.result
    c.degree.result c.requires c.parity_before.ensures c.degree.ensures.value)
    ∙ c.if-parity_before-degree-eq0.true)

pub returns-else-parity_before-degree-eq0-clause-value :
    goal.returns-else-parity_before-degree-eq0-clause-value
returns-else-parity_before-degree-eq0-clause-value c =
    ap (λ p. p - 1) c.modulus-p.ensures.value
    ∙ sign-odd (c.args.gens.now.prime - 1) (swaps c.args.gens.now.degrees (power c.args.i 1) c.args.s.now)
    (λ e. c.if-parity_before-degree-eq0.false
    (parity-of-swaps c.args.gens.now.degrees c.args.s.now c.args.i c.parity_before.result
    c.degree.result c.requires c.parity_before.ensures c.degree.ensures.value ∙ e))
