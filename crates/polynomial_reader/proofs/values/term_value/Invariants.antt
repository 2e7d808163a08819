use Rattle.std.proofs.Common.{[], ◌∷◌, take}
use Rattle.graded_polynomials.specs.Texts.{read_from}
use Rattle.polynomial_texts.specs.Readings.{factors_degree}
use Rattle.gc_poly.specs.Generators.{greatest}
use Rattle.gc_poly.specs.Polynomials.{IsSumOf}
use Rattle.polynomial_reader.proofs.values.term_value.Given as goal

abbrev pub invariant-loop-x : goal.invariant-loop-x
invariant-loop-x l = IsSumOf l.gens (factors_degree l.gens.degrees (take l.x-index l.t.factors))
    (read_from (greatest l.gens) l.gens.degrees (record { scalar = l.t.numeral; monomial = [] } ∷ [])
    (take l.x-index l.t.factors)) l.out
