use Rattle.std.proofs.Common.{◌≡◌, ◌+◌, ◌-◌, ◌≤◌, ◌++◌, length, drop}
use Rattle.graded_polynomials.specs.AllMonomials.{all_monomials}
use Rattle.gc_poly.specs.Generators.{greatest}
use Rattle.gc_poly.proofs.Enumerating.{remaining, behind}
use Rattle.gc_poly.proofs.enumeration.+find_monomials.Given as goal

abbrev pub decreases-find_monomials : goal.decreases-find_monomials
decreases-find_monomials l = length l.gens.now.degrees - l.i

-- what is found and what remains are all
abbrev pub invariant-loop-exponent : goal.invariant-loop-exponent
invariant-loop-exponent l = record {
  few : l.exponent ≤ 256;
  chosen : l.chosen.items ≡ l.initial.chosen.items;
  found : l.found.items ++ behind l.initial.chosen.items
      (remaining (λ r. all_monomials (greatest l.gens)
      (drop (l.i + 1) l.gens.degrees) r) l.degree l.rest l.exponent)
      ≡ l.initial.found.items ++ behind l.initial.chosen.items
      (all_monomials (greatest l.gens) (drop l.i l.gens.degrees) l.rest);
}
