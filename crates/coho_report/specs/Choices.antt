-- The parameters by the classes of the candidates.
use Rattle.std.specs.Prelude.{◌≡◌, ℕ, Option, Some, List, map, slice_index_or}
use Rattle.p_groups.specs.PGroups.{PGroup, largest_residue, prime_of}
use Rattle.graded_polynomials.specs.Polynomials.{Polynomial}
use Rattle.graded_algebra.specs.Algebras.{Generator}
use Rattle.graded_algebra.specs.Presentations.{IsNormalForm}
use Rattle.graded_algebra.specs.Vectors.{Vector}
use Rattle.presentation_rows.specs.Values.{vector}
use Rattle.param_test.specs.Bounds.{greatest}
use Rattle.param_test.specs.Parameters.{IsFoundIn}
use Rattle.param_test.specs.Tables.{CandidateValue}
use Rattle.ring_present.specs.Rings.{cohomology}
use Rattle.ring_present.specs.Values.{RingValue, generators_of}
use Rattle.coho_report.specs.Candidates.{AreCandidates}
use Rattle.coho_report.specs.Parameters.{at_places}
use Rattle.coho_report.specs.Related.{AreRelated}
use Rattle.coho_report.specs.Restrictors.{IsClass, IsClassOf}
use Rattle.coho_report.specs.Tables.{generators_by, IsTabled}
use Rattle.coho_report.specs.declared.candidates.Candidate.{Candidate}
use Rattle.coho_report.specs.declared.restrictors.Restrictor.{Restrictor}

-- a class of a degree of the ring
pub record IsClassIn (R : RingValue) (c : Candidate) : Type 0 where
  pub group : PGroup
  pub group_is : R.group ≡ Some group
  pub prime_is : R.prime ≡ prime_of group
  pub class : IsClass group R.degree c

-- f is the combination of standard monomials with the class of candidate k
pub record IsFormAt (R : RingValue) (cs : List Candidate) (k : ℕ) (f : Polynomial) : Type 0 where
  pub degree_is : (c : Candidate) → f.degree ≡ (slice_index_or cs k c).degree
  pub form : (G : PGroup) → R.group ≡ Some G → (c : Candidate)
      → IsNormalForm (largest_residue G) (cohomology G) (generators_of (largest_residue G) R.generators)
      f.degree
      (vector (largest_residue G) (slice_index_or cs k c).class.entries) f.terms

-- the parameters, by classes of candidates and what restricts them to the subgroups
pub record IsChosen (G : PGroup) (n : ℕ) (gs : List (Generator (Vector (largest_residue G))))
    (xs : List Restrictor) (parameters : Option (List Polynomial)) : Type 0 where
  pub candidates : List Polynomial
  pub classes : List Candidate
  pub restricted : List CandidateValue
  pub places : Option (List ℕ)
  pub candidates_are : AreCandidates G gs n candidates
  pub classes_are : AreRelated (IsClassOf G n gs) candidates classes
  pub restricted_are : AreRelated (IsTabled xs) classes restricted
  pub found : IsFoundIn (record { prime = prime_of G; subgroups = generators_by xs; candidates = restricted })
      (greatest (map (λ x. x.own.value.rank) xs)) places
  pub parameters_are : parameters ≡ at_places candidates places
