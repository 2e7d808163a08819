-- Sums over lists and over all numbers below a bound.
use Rattle.std.specs.Prelude.{ℕ, suc, List, [], ◌∷◌}
use Rattle.group_modules.specs.Module.{Monoid, Module}
use Rattle.linear_algebra.specs.Residues.{Below}
use Rattle.group_modules.specs.Operations as operations

abbrev pub up : {n : ℕ} → Below n → Below (suc n)
up i = operations.up i

-- the numbers below n
abbrev pub below : (n : ℕ) → List (Below n)
below n = operations.below n

-- the sum of f over a list
abbrev pub total : {p : ℕ} {G : Monoid} (M : Module p G) → {A : Type 0} → List A → (A → M.of) → M.of
total M [] f = M.zero
total M (x ∷ xs) f = M.add (f x) (total M xs f)
