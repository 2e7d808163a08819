-- The numbers below n, numbers modulo p = q + 1, and vectors of them.
use Rattle.std.specs.Prelude.{ℕ, zero, suc, ◌+◌, ◌*◌, ◌<◌, ◌%◌, List}
use Rattle.std.proofs.Math.Nat.{mod-lt}
use native.Mathlib.Nat.{zero-lt-suc}
use Rattle.linear_algebra.specs.Rows.{entry}

-- the numbers below n
abbrev pub Below : ℕ → Type 0
Below n = (k : ℕ) × k < n

-- n modulo p = q + 1
abbrev pub residue : (q : ℕ) → ℕ → Below (suc q)
residue q n = (n % suc q, mod-lt n (zero-lt-suc q))

-- the sum, and the negative
abbrev pub plus : (q : ℕ) → Below (suc q) → Below (suc q) → Below (suc q)
plus q a b = residue q (a.0 + b.0)

abbrev pub minus : (q : ℕ) → Below (suc q) → Below (suc q)
minus q a = residue q (q * a.0)

-- n copies of x, added
abbrev pub times : {A : Type 0} → (A → A → A) → A → ℕ → A → A
times add o zero x = o
times add o (suc n) x = add x (times add o n x)

-- vectors with an entry for each number: a class is one, with the entry 0 from the rank of its degree on
abbrev pub Vector : ℕ → Type 0
Vector q = ℕ → Below (suc q)

-- the vector with the entries of a row modulo p, and 0 past its end
abbrev pub vector : (q : ℕ) → List ℕ → Vector q
vector q r i = residue q (entry r i)
