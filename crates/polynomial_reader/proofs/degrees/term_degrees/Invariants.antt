use Rattle.std.proofs.Common.{◌≡◌, map, take}
use Rattle.polynomial_texts.specs.Readings.{term_degree}
use Rattle.polynomial_reader.proofs.degrees.term_degrees.Given as goal

abbrev pub invariant-loop-t : goal.invariant-loop-t
invariant-loop-t l = l.degrees.items ≡ map (term_degree l.gens.degrees) (take l.t-index l.terms)
