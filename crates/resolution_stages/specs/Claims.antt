-- What holds of the stages of a group of p^e elements.
use Rattle.std.specs.Prelude.{◌≡◌, ℕ, suc, ◌≤◌}
use Rattle.group_modules.specs.Module.{lin}
use Rattle.group_modules.specs.Field.{Below, residue}
use Rattle.group_modules.specs.Tables.{Group, Table, terms, block-sum}
use Rattle.group_modules.specs.Resolutions.{rank}
use Rattle.linear_algebra.specs.Rows.{row}
use Rattle.radical_layers.specs.Coordinates.{Coordinates}
use Rattle.resolution_stages.specs.Definitions.{StageRows, images, boundary, InKernel}

module _ {n : ℕ} (q : ℕ) (Γ : Group n) (K : Coordinates q Γ) (S : StageRows) where
  -- the rank of P_d, and its tables
  abbrev pub r : ℕ → ℕ
  r d = rank q Γ S.ranks d

  abbrev pub P : ℕ → Type 0
  P d = (Table q Γ (r d)).of

  -- row i of the boundary of degree d + 1, and the section of this boundary, on tables
  abbrev pub row_table : (d : ℕ) → Below (r (suc d)) → P d
  row_table d i = (K (r d)).table (row (images S d) i.0)

  abbrev pub section_table : (d : ℕ) → P d → P (suc d)
  section_table d v = (K (r (suc d))).table (S.section d ((K (r d)).row v))

  -- the laws of a resolution
  pub record ResolutionClaims : Type 0 where
    pub section_zero : (d : ℕ) → section_table d (λ i g. residue q 0) ≡ (λ i g. residue q 0)
    pub minimal : (d : ℕ) (i : Below (r (suc d))) (j : Below (r d))
        → block-sum q Γ (r d) (row_table d i) j ≡ residue q 0
    pub complex : (d : ℕ) (i : Below (r (suc (suc d))))
        → boundary q Γ K S d (row_table (suc d) i) ≡ (λ i g. residue q 0)
    pub exact : (d : ℕ) (v : P d) → InKernel q Γ K S d v → boundary q Γ K S d (section_table d v) ≡ v

  -- the rows of each boundary generate the kernel before, and no fewer vectors do
  pub record MinimalityClaims : Type 0 where
    pub generate : (d : ℕ) (v : P d) → InKernel q Γ K S d v → (u : P (suc d)) × (boundary q Γ K S d u ≡ v)
    pub fewest : (d l : ℕ) (s : Below l → P d) → ((i : Below l) → InKernel q Γ K S d (s i))
        → ((v : P d) → InKernel q Γ K S d v → (u : (Table q Γ l).of)
        × (lin (Table q Γ (r d)) s (terms q Γ l u) ≡ v)) → r (suc d) ≤ l
