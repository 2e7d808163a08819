use Rattle.std.proofs.Common.{take}
use Rattle.graded_polynomials.specs.Texts.{read_value}
use Rattle.gc_poly.specs.Generators.{greatest}
use Rattle.gc_poly.specs.Polynomials.{IsSumOf}
use Rattle.polynomial_reader.proofs.values.value.Given as goal

abbrev pub invariant-loop-t : goal.invariant-loop-t
invariant-loop-t l = IsSumOf l.gens l.degree
    (read_value (greatest l.gens) l.gens.degrees (take l.t-index l.terms)) l.out
