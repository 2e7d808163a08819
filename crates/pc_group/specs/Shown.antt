-- The presentation that a struct's fields stand for.
use Rattle.std.specs.Prelude.{◌≤◌, map}
use Rattle.limits.specs.declared.TheConstants.{MOST_GENERATORS}
use Rattle.group_table.specs.Prime.{prime_value}
use Rattle.power_commutator.specs.Presentations.{Presentation as Presented, IsPresentation}
use Rattle.pc_group.specs.Parts.{exponents}
use Rattle.pc_group.specs.declared.presentation.Presentation.TheInside.{Inside}

abbrev pub shown : Inside → Presented
shown p = record {
  prime = prime_value p.prime;
  gens = p.gens;
  powers = exponents p.powers.items;
  commutators = map (λ row. exponents row.items) p.commutators.items;
}

-- the words keep the rules, and there are not too many generators
pub record IsShown (p : Inside) : Type 0 where
  pub few : p.gens ≤ MOST_GENERATORS
  pub valid : IsPresentation (shown p)
