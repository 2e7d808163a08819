-- The value of the cocycle of a basis class at group elements, or why there is none.
use Rattle.std.specs.Prelude.{◌≡◌, ℕ, ◌-◌, ◌<◌, ◌≤◌, List, length}
use Rattle.linear_algebra.specs.Kernels.{unit_row}
use Rattle.p_groups.specs.PGroups.{PGroup}
use Rattle.min_res.specs.Stages.{rank_of}
use Rattle.bar_eval.specs.ClassMap.{value_at, IsLinear, GivesCocycles, IsInjective, EachHasOneClass}
use Rattle.coho_steps.specs.Refusals.{class_refused}
use Rattle.coho_steps.specs.Steps.{Refusal}

module _ (G : PGroup) where
  -- basis class k of degree d, counted from 1
  abbrev pub basis_class : ℕ → ℕ → List ℕ
  basis_class d k = unit_row (rank_of G d) (k - 1)

  -- degree d has as many classes as the number k
  abbrev pub HasClass : ℕ → ℕ → Type 0
  HasClass d k = k ≤ rank_of G d

  -- it has fewer, and the refusal tells how many
  abbrev pub IsClassRefusal : ℕ → ℕ → Refusal → Type 0
  IsClassRefusal d k refusal = (rank_of G d < k) × (refusal ≡ class_refused d (rank_of G d))

  -- v is the value of the cocycle of basis class k at the elements, as many as its degree
  abbrev pub IsValue : ℕ → List ℕ → ℕ → Type 0
  IsValue k es v = v ≡ value_at G (basis_class (length es) k) es

  -- the classes of degree d are the cocycles of the bar complex up to coboundaries: the class map is
  -- linear and
  -- gives cocycles, a coboundary only for the class 0, and each cocycle up to a coboundary exactly once
  pub record AreCocycleClasses (d : ℕ) : Type 0 where
    pub linear : IsLinear G d
    pub cocycles : GivesCocycles G d
    pub injective : IsInjective G d
    pub one_class : EachHasOneClass G d
