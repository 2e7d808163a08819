-- The tables of standard monomials and of products of a ring, and its candidates.
use Rattle.std.specs.Prelude.{◌+◌, ℕ, zero, suc, List, [], ◌∷◌, ◌++◌}
use Rattle.p_groups.specs.PGroups.{PGroup, largest_residue, prime_of}
use Rattle.graded_polynomials.specs.Texts.{power}
use Rattle.chain_lift.specs.Values.{LiftValue}
use Rattle.ring_completion.specs.Candidates.{AreCandidates}
use Rattle.ring_degree.specs.Tables.{AreTables, AreTablesOf}
use Rattle.ring_degree.specs.declared.table.Table.{Table}
use Rattle.cohomology_degree.specs.Degrees.{classes, degrees_of}
use Rattle.cohomology_degree.specs.Graded.{graded_classes}
use Rattle.cohomology_degree.specs.Rings.{cohomology}

-- the tables of the degrees 0 to n, over the generators and of their classes
pub record HasTables (G : PGroup) (n : ℕ) (lifts : List LiftValue) (tables : List Table) : Type 0 where
  pub shape : AreTables (record { prime = prime_of G; degrees = degrees_of lifts }) tables
  pub are : AreTablesOf (largest_residue G) (graded_classes G) (classes G lifts) n tables

-- ms are the candidates of degree d in the generators, descending
abbrev pub AreCandidatesOf : PGroup → ℕ → List LiftValue → List (List ℕ) → Type 0
AreCandidatesOf G d lifts ms = AreCandidates (largest_residue G) (cohomology G) (classes G lifts) d ms

-- the monomials of so many generators, from number k on
abbrev pub generators_from : ℕ → ℕ → List (List ℕ)
generators_from k zero = []
generators_from k (suc n) = generators_from k n ++ power (k + n) 1 ∷ []
