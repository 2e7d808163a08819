use Rattle.std.proofs.Common.{◌≡◌, ◌++◌}
use Rattle.graded_polynomials.specs.AllMonomials.{all_monomials}
use Rattle.gc_poly.specs.Generators.{greatest}
use Rattle.gc_poly.proofs.enumeration.monomials.Given as goal

-- what is in the list and what is to come are all
abbrev pub invariant-loop-m : goal.invariant-loop-m
invariant-loop-m l = l.list ++ l.m-iterator.rest.items ≡ all_monomials (greatest l.gens) l.gens.degrees l.d
