-- The operations of a module, formal sums over a group algebra, and the list of the numbers below n.
use Rattle.std.specs.Prelude.{ℕ, zero, suc, List, [], ◌∷◌, map}
use native.Mathlib.Nat.{lt-suc_self, le-suc, le_trans}
pub use Rattle.linear_algebra.specs.Residues.{Below, residue, times}

-- the operations of a module on which the members of E act
pub record Ops (E : Type 0) : Type 1 where
  pub of : Type 0
  pub zero : of
  pub add : of → of → of
  pub act : E → of → of

-- one term `c g x` of a formal sum
pub record Term (E X : Type 0) : Type 0 where
  pub coef : ℕ
  pub elem : E
  pub base : X

-- the linear extension of f to a formal sum: the sum of all `c g f(x)`
abbrev pub linear : {E : Type 0} (M : Ops E) {X : Type 0} → (X → M.of) → List (Term E X) → M.of
linear M f [] = M.zero
linear M f (t ∷ ts) = M.add (times M.add M.zero t.coef (M.act t.elem (f t.base))) (linear M f ts)

-- the list of all numbers below n
abbrev pub up : {n : ℕ} → Below n → Below (suc n)
up {n} i = (i.0, le_trans i.1 (le-suc n))

abbrev pub below : (n : ℕ) → List (Below n)
below zero = []
below (suc n) = (n, lt-suc_self n) ∷ map (λ i. up i) (below n)
