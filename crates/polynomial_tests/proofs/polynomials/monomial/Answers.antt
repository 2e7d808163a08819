use Rattle.std.proofs.Common.{[], arith, sym, subst}
use Rattle.std.proofs.lemmas.Option.{get_or_from_slice_get}
use Rattle.graded_polynomials.specs.Polynomials.{Polynomial}
use Rattle.gc_poly.specs.Polynomials.{IsMonomialOf}
use Rattle.polynomial_tests.proofs.polynomials.monomial.Goals as goal

pub add_term-requires-clause-monomial : goal.add_term-requires-clause-monomial
add_term-requires-clause-monomial c =
    subst (λ (f : Polynomial). IsMonomialOf c.args.gens.now f.degree c.get.result.now) (sym c.zero-f.ensures)
    (subst (IsMonomialOf c.args.gens.now c.args.d)
    (get_or_from_slice_get c.in_ok-list.list c.args.i c.get.result.now [] c.get.ensures)
    (c.in_ok-list.ensures.each c.args.i (omega arith)))
