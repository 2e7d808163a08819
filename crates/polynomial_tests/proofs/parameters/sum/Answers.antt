use Rattle.std.proofs.Common.{◌≡◌, ℕ, List, [], Some, slice_get, sym, subst}
use Rattle.std.proofs.lemmas.Option.{get_or_from_slice_get}
use Rattle.graded_polynomials.specs.Monomials.{IsMonomials}
use Rattle.gc_poly.specs.Generators.{Generators, greatest}
use Rattle.gc_poly.specs.Polynomials.{IsMonomialOf}
use Rattle.param_test.proofs.Judging.{element-within}
use Rattle.polynomial_tests.proofs.parameters.sum.Goals as goal

listed : (g : Generators) (d : ℕ) (ms : List (List ℕ)) (i : ℕ) (m : List ℕ)
    → IsMonomials (greatest g) g.degrees d ms → slice_get ms i ≡ Some m → IsMonomialOf g d m
listed g d ms i m M e = subst (IsMonomialOf g d) (get_or_from_slice_get ms i m [] e)
    (M.each i (element-within ms i m e))

pub add_term-requires-clause-monomial : goal.add_term-requires-clause-monomial
add_term-requires-clause-monomial c =
    subst (λ d. IsMonomialOf c.args.gens.now d c.get.result.now) (sym c.loop-i.invariant.degree)
    (listed c.args.gens.now c.args.degree c.in_ok-list.list _ c.get.result.now c.in_ok-list.ensures
    c.get.ensures)
