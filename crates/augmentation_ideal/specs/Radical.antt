-- The radical of a module over the group algebra.
use Rattle.std.specs.Prelude.{ℕ, zero, suc}
use Rattle.group_modules.specs.Module.{Monoid, Module, sub}

-- the span of all (g - 1) v with v in K
pub data Moved {p : ℕ} {G : Monoid} (M : Module p G) (K : M.of → Type 0) : M.of → Type 0 where
  none : Moved M K M.zero
  both : {x y : M.of} → Moved M K x → Moved M K y → Moved M K (M.add x y)
  moved : (g : G.elem) (v : M.of) → K v → Moved M K (sub M (M.act g v) v)

-- J^i M: all of M for i = 0, and then the span of all (g - 1) v with v in the one before
abbrev pub Radical : {p : ℕ} {G : Monoid} (M : Module p G) → ℕ → M.of → Type 0
Radical M zero v = Unit {0}
Radical M (suc i) v = Moved M (Radical M i) v

-- K is closed under sums and the action
pub record IsSubmodule {p : ℕ} {G : Monoid} (M : Module p G) (K : M.of → Type 0) : Type 0 where
  pub zero-in : K M.zero
  pub add-in : (x y : M.of) → K x → K y → K (M.add x y)
  pub act-in : (g : G.elem) (x : M.of) → K x → K (M.act g x)
