-- What a ring keeps.
use Rattle.std.specs.Prelude.{◌≡◌, ◌≤◌, List, [], length, Option, MatchOption}
use Rattle.limits.specs.declared.TheConstants.{GREATEST_DEGREE}
use Rattle.p_groups.specs.PGroups.{PGroup, prime_of}
use Rattle.graded_polynomials.specs.Polynomials.{Polynomial}
use Rattle.gc_poly.specs.Generators.{Generators}
use Rattle.chain_lift.specs.Values.{LiftValue}
use Rattle.cohomology_degree.specs.Rings.{IsPresentation}
use Rattle.cohomology_degree.specs.Degrees.{IsLower, classes, degrees_of}
use Rattle.cohomology_degree.specs.declared.degree.Degree.{Degree}

-- generators, relations and degrees of the ring of G
pub record IsRingOf (G : PGroup) (gens : Generators) (lifts : List LiftValue) (relations : List Polynomial)
    (Ds : List Degree) : Type 0 where
  pub high : length Ds ≤ GREATEST_DEGREE
  pub prime : gens.prime ≡ prime_of G
  pub presentation : IsPresentation G (length Ds) (classes G lifts) relations
  pub lower : IsLower G lifts Ds

-- the ring through degree 0
pub record IsEmpty (lifts : List LiftValue) (relations : List Polynomial) (Ds : List Degree) : Type 0 where
  pub no_generators : lifts ≡ []
  pub no_relations : relations ≡ []
  pub no_degrees : Ds ≡ []

pub record IsRingStore (group : Option PGroup) (gens : Generators) (lifts : List LiftValue)
    (relations : List Polynomial) (Ds : List Degree) : Type 0 where
  pub degrees_of_gens : gens.degrees ≡ degrees_of lifts
  pub through : MatchOption group (IsEmpty lifts relations Ds) (λ G. IsRingOf G gens lifts relations Ds)
