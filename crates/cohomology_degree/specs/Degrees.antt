-- What a ring keeps of its generators and of each degree.
use Rattle.std.specs.Prelude.{◌≡◌, ℕ, suc, ◌*◌, ◌^◌, ◌<◌, ◌≤◌, List, All, map, length, slice_index_or}
use Rattle.linear_algebra.specs.Kernels.{IsKernelOf}
use Rattle.linear_algebra.specs.Choices.{ArePreimages}
use Rattle.p_groups.specs.PGroups.{PGroup, largest_residue}
use Rattle.graded_polynomials.specs.Polynomials.{Polynomial}
use Rattle.graded_algebra.specs.Algebras.{Generator, degrees}
use Rattle.graded_algebra.specs.Presentations.{IsStandard}
use Rattle.graded_algebra.specs.Vectors.{Vector}
use Rattle.presentation_rows.specs.Values.{AreValues, AreUnitRows}
use Rattle.min_res.specs.Stages.{rank_of}
use Rattle.chain_lift.specs.Values.{LiftValue}
use Rattle.cohomology_degree.specs.Rings.{cohomology}
use Rattle.cohomology_degree.specs.Values.{GeneratorValue, generators_of}
use Rattle.ring_completion.specs.Candidates.{AreSome, AreLeft, IsQuotient}
use Rattle.cohomology_degree.specs.Standard.{AreStandard, without_pivots}
use Rattle.cohomology_degree.specs.declared.degree.Valued.{Valued}
use Rattle.cohomology_degree.specs.declared.degree.Degree.{Degree}

-- the generators whose classes are lifted
abbrev pub lifted : List LiftValue → List GeneratorValue
lifted lifts = map (λ l. record { degree = l.degree; class = l.class }) lifts

-- the degrees of the classes
abbrev pub degrees_of : List LiftValue → List ℕ
degrees_of lifts = map (λ l. l.degree) lifts

-- the lift of a new generator
abbrev pub new_lift : PGroup → ℕ → List ℕ → LiftValue
new_lift G d class = record { group = G; degree = d; class = class; height = 0 }

-- what stays of a lift that is extended
abbrev pub kept : LiftValue → LiftValue
kept l = record l { height = 0 }

-- a lift of a class of degree 1 to n
pub record IsLiftBelow (G : PGroup) (n : ℕ) (l : LiftValue) : Type 0 where
  pub group_is : l.group ≡ G
  pub from_one : 1 ≤ l.degree
  pub to_n : l.degree ≤ n

module _ (G : PGroup) where
  abbrev pub classes : List LiftValue → List (Generator (Vector (largest_residue G)))
  classes lifts = generators_of (largest_residue G) (lifted lifts)

  -- monomials of degree d in the generators, in descending order, with their values
  pub record AreValued (d : ℕ) (lifts : List LiftValue) (v : Valued) : Type 0 where
    pub prime : v.values.p ≡ suc (largest_residue G)
    pub width : v.values.width ≡ rank_of G d
    pub some : AreSome (largest_residue G) (degrees (classes lifts)) d v.monomials
    pub values : AreValues (largest_residue G) (cohomology G) (classes lifts) v.monomials v.values.rows

  -- those that lead in no consequence of the relations rs
  pub record AreLeftOf (rs : List Polynomial) (d : ℕ) (lifts : List LiftValue) (v : Valued) : Type 0 where
    pub valued : AreValued d lifts v
    pub left : AreLeft (largest_residue G) (cohomology G) (classes lifts) rs d v.monomials

  -- each quotient of m by a generator is standard
  abbrev pub HasStandardQuotients : List LiftValue → List ℕ → Type 0
  HasStandardQuotients lifts m =
      (i e : ℕ) (n : List ℕ) → IsQuotient (largest_residue G) (degrees (classes lifts)) i e n m
      → IsStandard (largest_residue G) (cohomology G) (classes lifts) e n

  -- what is kept of degree d: of the monomials that are left the kernel of the values tells the standard
  -- ones, and the preimages of the dual basis over them are 0 at its pivots
  pub record IsDegree (d : ℕ) (lifts : List LiftValue) (D : Degree) : Type 0 where
    pub left : AreValued d lifts D.left
    pub kernel : List (List ℕ)
    pub kernel_is : IsKernelOf (suc (largest_residue G)) D.left.values.rows kernel
    pub standard : AreValued d lifts D.standard
    pub others : D.standard.monomials ≡ without_pivots kernel 0 D.left.monomials
    pub all : AreStandard (largest_residue G) (cohomology G) (classes lifts) d D.standard.monomials
    pub preimages_prime : D.preimages.p ≡ suc (largest_residue G)
    pub preimages_width : D.preimages.width ≡ length D.left.monomials
    pub basis : List (List ℕ)
    pub basis_is : AreUnitRows (rank_of G d) basis
    pub preimages : ArePreimages (suc (largest_residue G)) D.left.values.rows kernel basis D.preimages.rows

  -- the degrees 1 to n
  pub record AreDegrees (n : ℕ) (lifts : List LiftValue) (Ds : List Degree) : Type 0 where
    pub count : length Ds ≡ n
    pub each : (e : ℕ) (D : Degree) → e < n → IsDegree (suc e) lifts (slice_index_or Ds e D)

-- the lifts of the generators of degrees 1 to n, and these degrees, where n is their number; a degree has at
-- most 2^27 generators
pub record IsLower (G : PGroup) (lifts : List LiftValue) (Ds : List Degree) : Type 0 where
  pub few : length lifts ≤ length Ds * 2 ^ 27
  pub lifts_are : All (IsLiftBelow G (length Ds)) lifts
  pub degrees_are : AreDegrees G (length Ds) lifts Ds
