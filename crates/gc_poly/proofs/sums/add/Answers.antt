use Rattle.std.proofs.Common.{◌++◌, ap}
use Rattle.gc_poly.proofs.SumLemmas.{scaled-one, equal-sum, two-multiples}
use Rattle.gc_poly.proofs.sums.add.Goals as goal

pub returns : goal.returns
returns c = equal-sum c.add_multiple-2.new.out
    (two-multiples c.args.gens.now c.degree.result c.args.a.now.degree 1 c.args.a.now.terms c.args.b.now.terms
    c.zero-sum.result c.add_multiple.new.out c.add_multiple-2.new.out
    c.zero-sum.ensures c.degree.ensures.value c.in_ok-add_multiple.ensures c.in_ok-add_multiple-2.ensures)
    (ap (λ ts. c.args.a.now.terms ++ ts) (scaled-one c.args.b.now.terms))
