-- What is known of a ring: nothing of a group through degree 0, and from then on generators and relations.
use Rattle.std.specs.Prelude.{◌≡◌, ◌≤◌, [], length, MatchOption}
use Rattle.limits.specs.declared.TheConstants.{GREATEST_DEGREE}
use Rattle.p_groups.specs.PGroups.{PGroup, largest_residue, prime_of}
use Rattle.cohomology_degree.specs.Rings.{IsPresentation}
use Rattle.ring_present.specs.Values.{RingValue, generators_of}

-- the ring through degree 0
pub record IsStart (R : RingValue) : Type 0 where
  pub degree_is : R.degree ≡ 0
  pub no_generators : R.generators ≡ []
  pub no_relations : R.relations ≡ []
  pub no_standard : R.standard ≡ []

-- the ring of G through its degree, with a list of standard monomials for each degree
pub record IsThrough (G : PGroup) (R : RingValue) : Type 0 where
  pub prime_is : R.prime ≡ prime_of G
  pub high : R.degree ≤ GREATEST_DEGREE
  pub presentation : IsPresentation G R.degree (generators_of (largest_residue G) R.generators) R.relations
  pub standard_count : length R.standard ≡ R.degree

abbrev pub IsKnown : RingValue → Type 0
IsKnown R = MatchOption R.group (IsStart R) (λ G. IsThrough G R)
