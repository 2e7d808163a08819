-- Stages of a group by rows: ranks, kernels, the rows of the boundaries, and sections.
use Rattle.std.specs.Prelude.{◌≡◌, ℕ, zero, suc, List, length, ◌*◌, ◌<◌}
use Rattle.group_modules.specs.Field.{residue}
use Rattle.group_modules.specs.Tables.{Group, Table, block-sum}
use Rattle.group_modules.specs.Resolutions.{rank, map-of}
use Rattle.linear_algebra.specs.Rows.{entry, row, pivot, IsRow}
use Rattle.linear_algebra.specs.Choices.{rows_at, IsGreedy}
use Rattle.radical_layers.specs.Coordinates.{Coordinates}
use Rattle.radical_layers.specs.Moves.{moves, IsEchelonFor}

-- ranks from degree 1 on; and for each degree d the kernel K_d by its reduced echelon list,
-- the positions in it of the rows of the boundary of degree d + 1, and the section of that boundary
pub record StageRows : Type 0 where
  pub ranks : ℕ → ℕ
  pub kernel : ℕ → List (List ℕ)
  pub positions : ℕ → List ℕ
  pub section : ℕ → List ℕ → List ℕ

-- the rows of the boundary of degree d + 1
abbrev pub images : StageRows → ℕ → List (List ℕ)
images S d = rows_at (S.kernel d) (S.positions d)

module _ {n : ℕ} (q : ℕ) (Γ : Group n) (K : Coordinates q Γ) where
  module _ (S : StageRows) where
    -- the boundary of degree d + 1, on tables: basis element i goes to row i
    abbrev pub boundary : (d : ℕ) → (Table q Γ (rank q Γ S.ranks (suc d))).of
        → (Table q Γ (rank q Γ S.ranks d)).of
    boundary = map-of q Γ S.ranks (λ d i. (K (rank q Γ S.ranks d)).table (row (images S d) i.0))

    -- v is in K_d: its sum is 0 for d = 0, and its boundary is 0 for d > 0
    abbrev pub InKernel : (d : ℕ) → (Table q Γ (rank q Γ S.ranks d)).of → Type 0
    InKernel zero v = block-sum q Γ 1 v (residue 0 0) ≡ residue q 0
    InKernel (suc d) v = boundary d v ≡ (λ i g. residue q 0)

    abbrev pub RowInKernel : ℕ → List ℕ → Type 0
    RowInKernel d x = IsRow (suc q) (n * rank q Γ S.ranks d) x × InKernel d ((K (rank q Γ S.ranks d)).table x)

    -- u is the value of the section at x: its boundary is x, and it is 0 at each pivot of the kernel
    pub record IsSectionAt (d : ℕ) (x u : List ℕ) : Type 0 where
      pub is_row : IsRow (suc q) (n * rank q Γ S.ranks (suc d)) u
      pub boundary_is : boundary d ((K (rank q Γ S.ranks (suc d))).table u) ≡ (K (rank q Γ S.ranks d)).table x
      pub zero_at_pivots : (i : ℕ) → i < length (S.kernel (suc d))
          → entry u (pivot (row (S.kernel (suc d)) i)) ≡ 0

    -- the stages of the group
    pub record AreStages : Type 0 where
      pub kernel_is : (d : ℕ) → IsEchelonFor (suc q) (n * rank q Γ S.ranks d) (RowInKernel d) (S.kernel d)
      pub rows_are : (d : ℕ) → IsGreedy (suc q) (S.kernel d)
          (moves Γ (Table q Γ (rank q Γ S.ranks d)) (K (rank q Γ S.ranks d)) (S.kernel d)) (S.positions d)
      pub rank_is : (d : ℕ) → S.ranks d ≡ length (S.positions d)
      pub section_is : (d : ℕ) (x : List ℕ) → RowInKernel d x → IsSectionAt d x (S.section d x)
