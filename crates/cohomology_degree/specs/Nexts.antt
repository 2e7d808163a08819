-- What the next degree adds to a ring.
use Rattle.std.specs.Prelude.{◌≡◌, ℕ, suc, ◌^◌, ◌≤◌, List, ◌++◌, length, All}
use Rattle.p_groups.specs.PGroups.{PGroup, prime_of}
use Rattle.graded_polynomials.specs.Polynomials.{Polynomial}
use Rattle.chain_lift.specs.Values.{LiftValue}
use Rattle.cohomology_degree.specs.Rings.{IsPresentation}
use Rattle.cohomology_degree.specs.Degrees.{IsDegree, classes, degrees_of}
use Rattle.cohomology_degree.specs.declared.next.Next.{Next}

-- a lift of a class of degree d
pub record IsLiftOf (G : PGroup) (d : ℕ) (l : LiftValue) : Type 0 where
  pub group_is : l.group ≡ G
  pub degree_is : l.degree ≡ d

-- the new generators and relations with the old ones are those through degree n + 1
pub record IsNext (G : PGroup) (lifts : List LiftValue) (relations : List Polynomial) (n : ℕ)
    (x : Next) : Type 0 where
  pub gens_are : x.gens ≡ record { prime = prime_of G; degrees = degrees_of (lifts ++ x.lifts.items) }
  pub lifts_are : All (IsLiftOf G (suc n)) x.lifts.items
  pub few : length x.lifts.items ≤ 2 ^ 27
  pub presentation : IsPresentation G (suc n) (classes G (lifts ++ x.lifts.items))
      (relations ++ x.relations.items)
  pub degree_is : IsDegree G (suc n) (lifts ++ x.lifts.items) x.degree
