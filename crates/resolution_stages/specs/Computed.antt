-- The matrix of a linear map, and the parts of a stage as elimination finds them from the matrix of the
-- boundary.
use Rattle.std.specs.Prelude.{◌≡◌, ℕ, suc, List, length, ◌<◌}
use Rattle.group_modules.specs.Module.{Monoid, Module}
use Rattle.group_modules.specs.Tables.{Group, Table}
use Rattle.linear_algebra.specs.Rows.{row, AreInSpan}
use Rattle.linear_algebra.specs.Choices.{IsGreedy, IsPreimage}
use Rattle.linear_algebra.specs.Kernels.{unit_row, IsKernelOf}
use Rattle.radical_layers.specs.Coordinates.{RowForm, Coordinates}
use Rattle.radical_layers.specs.Moves.{moves}
use Rattle.resolution_stages.specs.Checks.{StageParts, IsNextStage, del}

-- row j is the row of the value of f at the table of the unit row j
pub record IsMatrixOf {q width' width : ℕ} {G : Monoid} {M' M : Module (suc q) G} (K' : RowForm width' M')
    (K : RowForm width M) (f : M'.of → M.of) (rows : List (List ℕ)) : Type 0 where
  pub count : length rows ≡ width'
  pub each : (j : ℕ) → j < width' → row rows j ≡ K.row (f (K'.table (unit_row width' j)))

-- greedy positions, the kernel of the matrix of the boundary, and preimages of the rows of E
pub record IsComputed {n : ℕ} (q : ℕ) (Γ : Group n) (K : Coordinates q Γ) (b : ℕ) (E : List (List ℕ))
    (Q : StageParts) (matrix : List (List ℕ)) : Type 0 where
  pub positions_are : IsGreedy (suc q) E (moves Γ (Table q Γ b) (K b) E) Q.positions
  pub matrix_is : IsMatrixOf (K (length Q.positions)) (K b) (λ u. del q Γ K b E Q u) matrix
  pub kernel_is : IsKernelOf (suc q) matrix Q.kernel
  pub section_count : length Q.sections ≡ length E
  pub sections_are : (k : ℕ) → k < length E → IsPreimage (suc q) matrix Q.kernel (row E k) (row Q.sections k)

-- the parts that elimination finds are the next stage; the preimages exist, since each row of E is in the
-- span of the matrix
pub record ComputedClaims {n : ℕ} (q : ℕ) (Γ : Group n) (K : Coordinates q Γ) (b : ℕ) (E : List (List ℕ))
    (Q : StageParts) (matrix : List (List ℕ)) : Type 0 where
  pub targets : IsGreedy (suc q) E (moves Γ (Table q Γ b) (K b) E) Q.positions
      → IsMatrixOf (K (length Q.positions)) (K b) (λ u. del q Γ K b E Q u) matrix → AreInSpan (suc q) matrix E
  pub next : IsComputed q Γ K b E Q matrix → IsNextStage q Γ K b E Q
