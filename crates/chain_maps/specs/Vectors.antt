-- Classes as vectors: numbers modulo p = q + 1, 0 from the rank of the degree on.
use Rattle.std.specs.Prelude.{ℕ, zero, suc, cond, eqb, List, [], ◌∷◌}
use native.Mathlib.Nat.{lt-suc_self}
use Rattle.group_modules.specs.Field.{Below, residue}
use Rattle.group_modules.specs.Sums.{up}
pub use Rattle.linear_algebra.specs.Residues.{Vector, vector}

-- the first b entries
abbrev pub entries : {q : ℕ} → ℕ → Vector q → List ℕ
entries zero v = []
entries (suc b) v = (v 0).0 ∷ entries b (λ i. v (suc i))

-- the values of a function on the numbers below b, and 0 from b on
abbrev pub extended : {q : ℕ} (b : ℕ) → (Below b → Below (suc q)) → Vector q
extended {q} zero c k = residue q 0
extended (suc b) c k = cond (eqb k b) (c (b, lt-suc_self b)) (extended b (λ i. c (up i)) k)
