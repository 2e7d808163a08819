-- The parts of a stored stage, and the checks by which they are the next stage.
use Rattle.std.specs.Prelude.{◌≡◌, ◌≢◌, ℕ, suc, List, length, get_or, ◌+◌, ◌*◌, ◌<◌}
use Rattle.group_modules.specs.Module.{lin}
use Rattle.group_modules.specs.Field.{Below, residue}
use Rattle.group_modules.specs.Tables.{Group, Table, terms, block-sum}
use Rattle.augmentation_ideal.specs.Radical.{IsSubmodule}
use Rattle.linear_algebra.specs.Rows.{entry, row, pivot, IsMatrix, IsEchelon, IsInSpan}
use Rattle.linear_algebra.specs.Choices.{rows_at, IsGreedy}
use Rattle.radical_layers.specs.Coordinates.{Coordinates}
use Rattle.radical_layers.specs.Moves.{moves, IsEchelonFor}
use Rattle.radical_layers.specs.Layers.{RowIn}

-- positions of the boundary's rows, the rows of the kernel, and the section of each row of the echelon list
-- before
pub record StageParts : Type 0 where
  pub positions : List ℕ
  pub kernel : List (List ℕ)
  pub sections : List (List ℕ)

-- E is the reduced echelon list of a submodule
pub record IsSubmoduleList {n : ℕ} (q : ℕ) (Γ : Group n) (K : Coordinates q Γ) (b : ℕ)
    (E : List (List ℕ)) : Type 0 where
  pub matrix : IsMatrix (suc q) (n * b) E
  pub echelon : IsEchelon E
  pub submodule : IsSubmodule (Table q Γ b) (λ v. IsInSpan (suc q) E (entry ((K b).row v)))

-- E is the echelon list of the kernel of the stage before, of rank b
module _ {n : ℕ} (q : ℕ) (Γ : Group n) (K : Coordinates q Γ) (b : ℕ) (E : List (List ℕ))
    (Q : StageParts) where
  abbrev pub m : ℕ
  m = length Q.positions

  abbrev pub chosen_row : Below m → (Table q Γ b).of
  chosen_row i = (K b).table (row (rows_at E Q.positions) i.0)

  -- the boundary
  abbrev pub del : (Table q Γ m).of → (Table q Γ b).of
  del u = lin (Table q Γ b) chosen_row (terms q Γ m u)

  -- the table of a row of the new free module
  abbrev pub new_table : List ℕ → (Table q Γ m).of
  new_table x = (K m).table x

  pub record HasShape : Type 0 where
    pub ascending : (i j : ℕ) → i < j → j < m → get_or Q.positions i 0 < get_or Q.positions j 0
    pub inside : (i : ℕ) → i < m → get_or Q.positions i 0 < length E
    pub kernel_rows : IsMatrix (suc q) (n * m) Q.kernel
    pub section_rows : IsMatrix (suc q) (n * m) Q.sections
    pub section_count : length Q.sections ≡ length E

  -- the kernel has as many rows as the new free module has places, less the rows of E
  abbrev pub HasCount : Type 0
  HasCount = length Q.kernel + length E ≡ n * m

  -- the six checks
  pub record PassesChecks : Type 0 where
    pub echelon : IsEchelon Q.kernel
    pub kernel_to_zero : (k : ℕ) → k < length Q.kernel
        → del (new_table (row Q.kernel k)) ≡ (λ i g. residue q 0)
    pub sections_to_rows : (k : ℕ) → k < length E → del (new_table (row Q.sections k)) ≡ (K b).table (row E k)
    pub zero_at_pivots : (k i : ℕ) → k < length E → i < length Q.kernel
        → entry (row Q.sections k) (pivot (row Q.kernel i)) ≡ 0
    pub kernel_minimal : (k : ℕ) → k < length Q.kernel → (i : Below m)
        → block-sum q Γ m (new_table (row Q.kernel k)) i ≡ residue q 0
    pub sections_before : (k : ℕ) → k < length E → ((i : Below m) → get_or Q.positions i.0 0 ≢ k)
        → (i : Below m) → k < get_or Q.positions i.0 0
        → block-sum q Γ m (new_table (row Q.sections k)) i ≡ residue q 0

  -- the parts are those of the next stage
  pub record IsNextStage : Type 0 where
    pub rows_are : IsGreedy (suc q) E (moves Γ (Table q Γ b) (K b) E) Q.positions
    pub kernel_is : IsEchelonFor (suc q) (n * m) (RowIn (K m) (λ u. del u ≡ (λ i g. residue q 0))) Q.kernel
    pub section_count : length Q.sections ≡ length E
    pub section_rows : IsMatrix (suc q) (n * m) Q.sections
    pub sections_to_rows : (k : ℕ) → k < length E → del (new_table (row Q.sections k)) ≡ (K b).table (row E k)
    pub zero_at_pivots : (k i : ℕ) → k < length E → i < length Q.kernel
        → entry (row Q.sections k) (pivot (row Q.kernel i)) ≡ 0
