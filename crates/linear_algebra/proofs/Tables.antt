-- The list of the first values of a function.
use Rattle.std.proofs.Common.{◌≡◌, ℕ, zero, suc, ◌<◌, List, [], ◌∷◌, length, arith, ap, refl}
use Rattle.linear_algebra.specs.Rows.{entry}

-- f 0, f 1, .., f (n - 1)
abbrev pub table : ℕ → (ℕ → ℕ) → List ℕ
table zero f = []
table (suc n) f = f 0 ∷ table n (λ i. f (suc i))

pub length-table : (n : ℕ) (f : ℕ → ℕ) → length (table n f) ≡ n
length-table zero f = refl
length-table (suc n) f = ap suc (length-table n (λ i. f (suc i)))

pub entry-table : (n : ℕ) (f : ℕ → ℕ) (i : ℕ) → i < n → entry (table n f) i ≡ f i
entry-table zero f i l = absurd (omega (arith, l))
entry-table (suc n) f zero l = refl
entry-table (suc n) f (suc i) l = entry-table n (λ i. f (suc i)) i (omega (arith, l))
