-- The six checks of the parts of a stage that comes from outside, a row at a time, and the first that fails.
use Rattle.std.specs.Prelude.{◌≡◌, ◌≢◌, ℕ, ◌<◌, List, length, slice_index}
use Rattle.group_modules.specs.Field.{Below, residue}
use Rattle.group_modules.specs.Tables.{block-sum}
use Rattle.linear_algebra.specs.Rows.{entry, row, pivot}
use Rattle.fp_rows.specs.ReducedRows.{IsReducedRow}
use Rattle.p_groups.specs.PGroups.{PGroup, largest_residue, group}
use Rattle.group_algebra.specs.Coordinates.{free_module, layer_coordinates, table_of}
use Rattle.resolution_stages.specs.Checks.{StageParts, HasShape, HasCount, PassesChecks, del}
use Rattle.min_res.specs.Stages.{stage_rows, rank_of}
use Rattle.min_res.specs.declared.check.Check.{Check}
use Rattle.min_res.specs.declared.check.Check.TheVariants as check
use Rattle.min_res.specs.declared.adopt_fault.AdoptFault.{AdoptFault}
use Rattle.min_res.specs.declared.adopt_fault.AdoptFault.TheVariants.{False, Memory}

-- the numbers of the checks in their order
abbrev pub number_of : Check → ℕ
number_of check.ReducedKernel = 1
number_of check.KernelToZero = 2
number_of check.SectionsToRows = 3
number_of check.ZeroAtPivots = 4
number_of check.MinimalKernel = 5
number_of check.LaterPositions = 6

-- the sum of block i of the table of a row of m blocks is 0
abbrev pub HasSumZero : (G : PGroup) (m : ℕ) → List ℕ → Below m → Type 0
HasSumZero G m x i =
    block-sum (largest_residue G) (group G) m (table_of G m x) i ≡ residue (largest_residue G) 0

-- Q are parts that may follow the stage of degree d
module _ (G : PGroup) (d : ℕ) (Q : StageParts) where
  -- the reduced echelon list of K_d
  abbrev pub list_before : List (List ℕ)
  list_before = (stage_rows G).kernel d

  -- Q has the sizes of the parts of the stage of degree d + 1
  abbrev pub MayFollow : Type 0
  MayFollow =
      HasShape (largest_residue G) (group G) (layer_coordinates G) (rank_of G d) list_before Q
      × HasCount (largest_residue G) (group G) (layer_coordinates G) (rank_of G d) list_before Q

  -- Q passes the six checks
  abbrev pub Passes : Type 0
  Passes = PassesChecks (largest_residue G) (group G) (layer_coordinates G) (rank_of G d) list_before Q

  -- the boundary that takes the basis of the new free module to the chosen rows
  abbrev pub new_boundary : (free_module G (length Q.positions)).of → (free_module G (rank_of G d)).of
  new_boundary u = del (largest_residue G) (group G) (layer_coordinates G) (rank_of G d) list_before Q u

  -- the value of that boundary at the table of a row
  abbrev pub boundary_at : List ℕ → (free_module G (rank_of G d)).of
  boundary_at x = new_boundary (table_of G (length Q.positions) x)

  -- how many rows a check is made at
  abbrev pub row_count : Check → ℕ
  row_count check.ReducedKernel = length Q.kernel
  row_count check.KernelToZero = length Q.kernel
  row_count check.SectionsToRows = length list_before
  row_count check.ZeroAtPivots = length list_before
  row_count check.MinimalKernel = length Q.kernel
  row_count check.LaterPositions = length list_before

  -- a check holds at row k
  abbrev pub HoldsAt : Check → ℕ → Type 0
  HoldsAt check.ReducedKernel k = IsReducedRow Q.kernel k
  HoldsAt check.KernelToZero k = boundary_at (row Q.kernel k) ≡ (λ i g. residue (largest_residue G) 0)
  HoldsAt check.SectionsToRows k =
      boundary_at (row Q.sections k) ≡ table_of G (rank_of G d) (row list_before k)
  HoldsAt check.ZeroAtPivots k =
      (i : ℕ) → i < length Q.kernel → entry (row Q.sections k) (pivot (row Q.kernel i)) ≡ 0
  HoldsAt check.MinimalKernel k =
      (i : Below (length Q.positions)) → HasSumZero G (length Q.positions) (row Q.kernel k) i
  HoldsAt check.LaterPositions k =
      ((i : Below (length Q.positions)) → slice_index Q.positions i.0 ≢ k)
      → (i : Below (length Q.positions)) → k < slice_index Q.positions i.0
      → HasSumZero G (length Q.positions) (row Q.sections k) i

  -- each check holds at each of its rows
  abbrev pub AllHold : Type 0
  AllHold = (c : Check) (k : ℕ) → k < row_count c → HoldsAt c k

  -- it fails at row k, it holds at the rows before, and the checks before hold at all their rows
  pub record IsFirstFailure (c : Check) (k : ℕ) : Type 0 where
    pub inside : k < row_count c
    pub checks_before : (b : Check) → number_of b < number_of c → (i : ℕ) → i < row_count b → HoldsAt b i
    pub rows_before : (i : ℕ) → i < k → HoldsAt c i
    pub fails : ¬ (HoldsAt c k)

  -- the fault names the first failure; or memory was wanting
  abbrev pub IsNotAdopted : AdoptFault → Type 0
  IsNotAdopted (False number k) = (c : Check) × (number ≡ number_of c) × IsFirstFailure c k
  IsNotAdopted Memory = Unit {0}
