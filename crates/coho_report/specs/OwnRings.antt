-- The resolution and the ring of the elementary abelian group of a rank.
use Rattle.std.specs.Prelude.{◌≡◌, ℕ, Some}
use Rattle.p_groups.specs.PGroups.{PGroup, largest_residue, prime_of}
use Rattle.chain_lift.specs.Embeddings.{elementary}
use Rattle.ring_present.specs.Rings.{IsPresentation}
use Rattle.ring_present.specs.Values.{RingValue, generators_of}
use Rattle.coho_report.specs.Limits.{HasSmallStages}
use Rattle.coho_report.specs.declared.own_rings.OwnRing.{OwnRing}

-- the ring of G has the generators and relations of degrees 1 to n
pub record IsRingThrough (G : PGroup) (n : ℕ) (R : RingValue) : Type 0 where
  pub prime_is : R.prime ≡ prime_of G
  pub group_is : R.group ≡ Some G
  pub degree_is : R.degree ≡ n
  pub presentation : IsPresentation G n (generators_of (largest_residue G) R.generators) R.relations

-- the stages of degrees 0 to n, and the ring through degree n, of the elementary abelian group of this rank
pub record IsOwnRing (G : PGroup) (n rank : ℕ) (o : OwnRing) : Type 0 where
  pub rank_is : o.rank ≡ rank
  pub group_is : o.resolution.group ≡ elementary G rank
  pub last_is : o.resolution.last ≡ n
  pub ring_is : IsRingThrough (elementary G rank) n o.ring

-- the same of its own rank, and none of the stages is too large
pub record IsKnownRing (G : PGroup) (n limit : ℕ) (o : OwnRing) : Type 0 where
  pub own : IsOwnRing G n o.rank o
  pub small : HasSmallStages (elementary G o.rank) n limit
