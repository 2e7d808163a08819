-- Rows that generate a submodule, and none of which can be left out.
use Rattle.std.specs.Prelude.{◌≡◌, ℕ, suc}
use Rattle.group_modules.specs.Module.{Monoid, Module, sub, times, lin}
use Rattle.group_modules.specs.Field.{Below, residue}
use Rattle.group_modules.specs.Tables.{Group, monoid, Table, terms}
use Rattle.group_modules.specs.Sums.{total, below}
use Rattle.augmentation_ideal.specs.Radical.{Moved}

-- the combination of the rows with the coefficients c
abbrev pub combine : {q : ℕ} {G : Monoid} (M : Module (suc q) G) (m : ℕ) → (Below m → M.of)
    → (Below m → Below (suc q)) → M.of
combine M m row c = total M (below m) (λ i. times M.add M.zero (c i).0 (row i))

-- the rows lie in K, and are a basis of K modulo the span of all (g - 1) v with v in K
pub record IsBasisModuloMoved {q : ℕ} {G : Monoid} (M : Module (suc q) G) (K : M.of
    → Type 0) (m : ℕ) (row : Below m → M.of) : Type 0 where
  pub members : (i : Below m) → K (row i)
  pub spanning : (v : M.of) → K v → (c : Below m → Below (suc q)) × Moved M K (sub M v (combine M m row c))
  pub independent : (c : Below m → Below (suc q)) → Moved M K (combine M m row c) → (i : Below m)
      → c i ≡ residue q 0

-- each member of K is the value of a member of kG^m under the map that takes basis element i to row i
abbrev pub Generate : {n : ℕ} (q : ℕ) (Γ : Group n) (M : Module (suc q) (monoid Γ)) (K : M.of
    → Type 0) (m : ℕ) → (Below m → M.of) → Type 0
Generate q Γ M K m row = (v : M.of) → K v → (u : (Table q Γ m).of) × (lin M row (terms q Γ m u) ≡ v)
