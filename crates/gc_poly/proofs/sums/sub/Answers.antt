use Rattle.std.proofs.Common.{◌++◌, ◌-◌, ap}
use Rattle.graded_polynomials.specs.Polynomials.{scaled}
use Rattle.gc_poly.proofs.SumLemmas.{equal-sum, two-multiples}
use Rattle.gc_poly.proofs.sums.sub.Goals as goal

pub returns : goal.returns
returns c = equal-sum c.add_multiple-2.new.out
    (two-multiples c.args.gens.now c.degree.result c.args.a.now.degree
    (c.modulus.result - 1) c.args.a.now.terms c.args.b.now.terms c.zero-difference.result
    c.add_multiple.new.out c.add_multiple-2.new.out
    c.zero-difference.ensures c.degree.ensures.value c.in_ok-add_multiple.ensures
    c.in_ok-add_multiple-2.ensures)
    (ap (λ p. c.args.a.now.terms ++ scaled (p - 1) c.args.b.now.terms) c.modulus.ensures.value)
