-- Values of cocycles at elements with given numbers, and what the class map does, which sends each class of
-- one degree to its cocycle (Brown, "Cohomology of Groups", I.7 and III.1).
use Rattle.std.specs.Prelude.{◌≡◌, ℕ, ◌*◌, List, length, map}
use Rattle.group_modules.specs.Field.{Below, plus, residue}
use Rattle.linear_algebra.specs.Rows.{add_multiple, entry}
use Rattle.p_groups.specs.PGroups.{PGroup, largest_residue, order_of, prime_of}
use Rattle.chain_lift.specs.Embeddings.{element_of}
use Rattle.group_cocycles.specs.Cocycles.{GroupCochain, IsClass, IsClassOf, IsCoboundary, IsCocycle}
use Rattle.group_cocycles.specs.Cocycles.{cocycle_of}

module _ (G : PGroup) where
  -- the value of the cocycle of the class c at the elements with the numbers xs, as many as its degree
  abbrev pub value_at : List ℕ → List ℕ → ℕ
  value_at c xs = (cocycle_of G (length xs) c (map (element_of G) xs)).0

  module _ (d : ℕ) where
    -- the cocycle of x + k y is the sum of that of x and k times that of y
    abbrev pub IsLinear : Type 0
    IsLinear = (k : ℕ) (x y : List ℕ) → IsClass G d x → IsClass G d y → (gs : List (Below (order_of G)))
        → cocycle_of G d (add_multiple (prime_of G) k x y) gs
        ≡ plus (largest_residue G) (cocycle_of G d x gs)
        (residue (largest_residue G) (k * (cocycle_of G d y gs).0))

    -- the cocycle of each class is a cocycle
    abbrev pub GivesCocycles : Type 0
    GivesCocycles = (x : List ℕ) → IsClass G d x → IsCocycle G d (cocycle_of G d x)

    -- it is a coboundary only for the class 0
    abbrev pub IsInjective : Type 0
    IsInjective = (x : List ℕ) → IsClass G d x → IsCoboundary G d (cocycle_of G d x) → (i : ℕ) → entry x i ≡ 0

    -- each cocycle has a class: one alone has a cocycle that differs from it by a coboundary
    abbrev pub EachHasOneClass : Type 0
    EachHasOneClass = (u : GroupCochain G) → IsCocycle G d u → (x : List ℕ) × IsClassOf G d u x
