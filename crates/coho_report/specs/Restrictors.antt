-- Candidates by their classes, and what restricts them to a subgroup.
use Rattle.std.specs.Prelude.{◌≡◌, ◌≤◌, ℕ, List, length}
use Rattle.p_groups.specs.PGroups.{PGroup, largest_residue, prime_of}
use Rattle.elementary_subgroups.specs.Bases.{NumberedSubgroup}
use Rattle.graded_polynomials.specs.Polynomials.{Polynomial}
use Rattle.graded_algebra.specs.Algebras.{Generator}
use Rattle.graded_algebra.specs.Presentations.{IsNormalForm}
use Rattle.graded_algebra.specs.Vectors.{Vector}
use Rattle.presentation_rows.specs.Values.{vector}
use Rattle.min_res.specs.Stages.{rank_of}
use Rattle.ring_present.specs.Rings.{cohomology}
use Rattle.ring_present.specs.Values.{generators_of}
use Rattle.coho_report.specs.OwnRings.{IsOwnRing}
use Rattle.coho_report.specs.Subgroups.{IsImage}
use Rattle.coho_report.specs.declared.candidates.Candidate.{Candidate}
use Rattle.coho_report.specs.declared.restrictors.Restrictor.{Restrictor}

-- a class of degree 1 to n of G, by its row
pub record IsClass (G : PGroup) (n : ℕ) (c : Candidate) : Type 0 where
  pub from : 1 ≤ c.degree
  pub to : c.degree ≤ n
  pub prime : c.class.p ≡ prime_of G
  pub length_is : length c.class.entries ≡ rank_of G c.degree

-- c has the class of the polynomial f in the generators gs, which is a combination of standard monomials
pub record IsClassOf (G : PGroup) (n : ℕ) (gs : List (Generator (Vector (largest_residue G))))
    (f : Polynomial) (c : Candidate) : Type 0 where
  pub class : IsClass G n c
  pub degree_is : c.degree ≡ f.degree
  pub form : IsNormalForm (largest_residue G) (cohomology G) gs c.degree
      (vector (largest_residue G) c.class.entries) f.terms

-- the own ring of a subgroup of G through degree n, and the map of resolutions along its embedding, through
-- the same degree
pub record IsRestrictor (G : PGroup) (n : ℕ) (x : Restrictor) : Type 0 where
  pub group_is : x.map.group ≡ G
  pub height : n ≤ x.map.height
  pub own : IsOwnRing G n (length x.map.basis) x.own.value

-- the same of this subgroup
pub record IsRestrictorOf (G : PGroup) (n : ℕ) (s : NumberedSubgroup) (x : Restrictor) : Type 0 where
  pub restrictor : IsRestrictor G n x
  pub basis_is : x.map.basis ≡ s.basis

-- the class of c is one that x restricts
pub record Restricts (x : Restrictor) (c : Candidate) : Type 0 where
  pub restrictor : IsRestrictor x.map.group x.own.value.ring.degree x
  pub class : IsClass x.map.group x.own.value.ring.degree c

-- f is the restriction of the class of c
abbrev pub IsFormOf : Candidate → Restrictor → Polynomial → Type 0
IsFormOf c x f =
    IsImage x.map.group x.map.basis
    (generators_of (largest_residue x.map.group) x.own.value.ring.generators)
    (record { degree = c.degree; class = vector (largest_residue x.map.group) c.class.entries }) f
