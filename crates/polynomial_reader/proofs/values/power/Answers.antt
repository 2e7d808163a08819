use Rattle.std.proofs.Common.{get_or, arith, ap, sym, ◌∙◌}
use Rattle.graded_polynomials.specs.Monomials.{is_exterior}
use Rattle.gc_poly.specs.Generators.{greatest}
use Rattle.polynomial_reader.proofs.ValueLemmas.{zero-made, power-zero, power-fitting, power-named}
use Rattle.polynomial_reader.proofs.ValueLemmas.{power-term}
use Rattle.polynomial_reader.proofs.values.power.Goals as goal

pub returns-then-vanishes : goal.returns-then-vanishes
returns-then-vanishes c =
    let z = c.vanishes.ensures.zero c.if-vanishes.true in
    power-zero c.args.gens.now c.args.x.now c.zero-out.result c.requires.within
    (omega (arith, z.0, c.exponent-exponent.ensures))
    (ap (λ i. is_exterior (greatest c.args.gens.now) (get_or c.args.gens.now.degrees i 0))
    (sym c.generator-i.ensures) ∙ z.1)
    (zero-made c.args.gens.now.degrees c.args.x.now c.zero-out.result c.generator-i.result c.degree.result
    c.exponent-exponent.result
    c.from.result c.generator-i.ensures c.degree.ensures.value c.from.ensures c.exponent-exponent.ensures
    c.zero-out.ensures)

pub add_term-requires-clause-monomial : goal.add_term-requires-clause-monomial
add_term-requires-clause-monomial c =
    power-fitting c.args.gens.now c.args.x.now c.zero-out.result c.in_ok-power_monomial.field-0
    c.generator-i.result
    c.exponent-exponent.result c.requires.within c.requires.low
    c.generator-i.ensures c.exponent-exponent.ensures
    (c.vanishes.ensures.other c.if-vanishes.false) c.in_ok-power_monomial.ensures
    (zero-made c.args.gens.now.degrees c.args.x.now c.zero-out.result c.generator-i.result c.degree.result
    c.exponent-exponent.result
    c.from.result c.generator-i.ensures c.degree.ensures.value c.from.ensures c.exponent-exponent.ensures
    c.zero-out.ensures)

pub returns : goal.returns
returns c =
    power-term c.args.gens.now c.args.x.now c.zero-out.result c.add_term.new.self
    c.in_ok-power_monomial.field-0
    (omega (arith, c.modulus-p.ensures.value, c.modulus-p.ensures.low))
    (power-named c.args.x.now c.in_ok-power_monomial.field-0 c.generator-i.result c.exponent-exponent.result
    c.generator-i.ensures
    c.exponent-exponent.ensures c.in_ok-power_monomial.ensures)
    (power-fitting c.args.gens.now c.args.x.now c.zero-out.result c.in_ok-power_monomial.field-0
    c.generator-i.result
    c.exponent-exponent.result c.requires.within c.requires.low
    c.generator-i.ensures c.exponent-exponent.ensures
    (c.vanishes.ensures.other c.if-vanishes.false) c.in_ok-power_monomial.ensures
    (zero-made c.args.gens.now.degrees c.args.x.now c.zero-out.result c.generator-i.result c.degree.result
    c.exponent-exponent.result
    c.from.result c.generator-i.ensures c.degree.ensures.value c.from.ensures c.exponent-exponent.ensures
    c.zero-out.ensures))
    (zero-made c.args.gens.now.degrees c.args.x.now c.zero-out.result c.generator-i.result c.degree.result
    c.exponent-exponent.result
    c.from.result c.generator-i.ensures c.degree.ensures.value c.from.ensures c.exponent-exponent.ensures
    c.zero-out.ensures)
    c.in_ok-add_term.ensures.ok
