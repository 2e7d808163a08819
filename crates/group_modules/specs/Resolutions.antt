-- Minimal resolutions by the rows of their boundaries and by sections.
use Rattle.std.specs.Prelude.{◌≡◌, ℕ, zero, suc}
use Rattle.group_modules.specs.Module.{lin}
use Rattle.group_modules.specs.Field.{Below, residue}
use Rattle.group_modules.specs.Tables.{Group, Table, terms, block-sum}

module _ {n : ℕ} (q : ℕ) (Γ : Group n) where
  abbrev pub rank : (ℕ → ℕ) → ℕ → ℕ
  rank r zero = 1
  rank r (suc d) = r d

  -- the linear map that sends basis element i to row i
  abbrev pub map-of : (r : ℕ → ℕ) → ((d : ℕ) → Below (rank r (suc d)) → (Table q Γ (rank r d)).of) → (d : ℕ)
      → (Table q Γ (rank r (suc d))).of → (Table q Γ (rank r d)).of
  map-of r row d v = lin (Table q Γ (rank r d)) (row d) (terms q Γ (rank r (suc d)) v)

  -- ranks from degree 1 on, the rows of each boundary, and a section of each
  pub record Resolution : Type 0 where
    pub ranks : ℕ → ℕ
    pub row : (d : ℕ) → Below (rank ranks (suc d)) → (Table q Γ (rank ranks d)).of
    pub section : (d : ℕ) → (Table q Γ (rank ranks d)).of → (Table q Γ (rank ranks (suc d))).of
    pub section-nil : (d : ℕ) → section d (λ i g. residue q 0) ≡ (λ i g. residue q 0)
    -- minimal: each block of each row has sum 0
    pub minimal : (d : ℕ) (i : Below (rank ranks (suc d))) (j : Below (rank ranks d))
        → block-sum q Γ (rank ranks d) (row d i) j ≡ residue q 0
    pub complex : (d : ℕ) (i : Below (rank ranks (suc (suc d))))
        → map-of ranks row d (row (suc d) i) ≡ (λ i g. residue q 0)
    pub exact-zero : (v : (Table q Γ 1).of) → block-sum q Γ 1 v (residue 0 0) ≡ residue q 0
        → map-of ranks row 0 (section 0 v) ≡ v
    pub exact-suc : (d : ℕ) (v : (Table q Γ (rank ranks (suc d))).of)
        → map-of ranks row d v ≡ (λ i g. residue q 0)
        → map-of ranks row (suc d) (section (suc d) v) ≡ v
