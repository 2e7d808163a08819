use Rattle.std.proofs.Common.{subst, sym}
use Rattle.graded_polynomials.specs.Polynomials.{Polynomial}
use Rattle.gc_poly.specs.Polynomials.{IsMonomialOf}
use Rattle.gc_poly.proofs.Substituting.{unit-monomial, unit-sum}
use Rattle.gc_poly.proofs.poly.Poly.constant.Goals as goal

pub add_term-requires-clause-monomial : goal.add_term-requires-clause-monomial
add_term-requires-clause-monomial c =
    subst (λ (f : Polynomial). IsMonomialOf c.args.gens.now f.degree c.in_ok-of.field-0)
    (sym c.zero-out.ensures)
    (unit-monomial c.args.gens.now c.in_ok-of.field-0 c.in_ok-of.ensures.trimmed c.in_ok-of.ensures.exponents)

pub returns : goal.returns
returns c = unit-sum c.args.gens.now c.args.c c.in_ok-of.field-0 c.zero-out.result c.add_term.new.self
    c.in_ok-of.ensures.trimmed
    c.in_ok-of.ensures.exponents c.zero-out.ensures c.in_ok-add_term.ensures.ok
