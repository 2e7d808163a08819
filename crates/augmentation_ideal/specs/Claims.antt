-- What holds of the free modules over the group algebra of a group of p^e elements, p a prime.
use Rattle.std.specs.Prelude.{◌≡◌, ℕ, suc, ◌≤◌, ◌^◌, Bool, true}
use Rattle.group_modules.specs.Module.{Module, lin}
use Rattle.group_modules.specs.Field.{Below, residue}
use Rattle.group_modules.specs.Tables.{Group, monoid, Table, terms, block-sum}
use Rattle.augmentation_ideal.specs.Primes.{IsPrime}
use Rattle.augmentation_ideal.specs.Radical.{Moved, Radical, IsSubmodule}
use Rattle.augmentation_ideal.specs.Generators.{Generate}

-- n is a power of the prime q + 1
pub record IsPrimePower (q n : ℕ) : Type 0 where
  pub prime : IsPrime (suc q)
  pub exponent : ℕ
  pub power : n ≡ suc q ^ exponent

-- the set of what passes a test
abbrev pub Passing : {A : Type 0} → (A → Bool) → A → Type 0
Passing test x = test x ≡ true

module _ {n : ℕ} (q : ℕ) (Γ : Group n) (b : ℕ) where
  abbrev T : Module (suc q) (monoid Γ)
  T = Table q Γ b

  -- J^N is 0 for some N; where J^i lies in J^(i+1) it is 0; and so for every set in place of J^i
  pub record RadicalClaims : Type 0 where
    pub nilpotent : (N : ℕ) × ((v : T.of) → Radical T N v → v ≡ T.zero)
    pub proper : (i : ℕ) → ((v : T.of) → Radical T i v → Radical T (suc i) v) → (v : T.of) → Radical T i v
        → v ≡ T.zero
    pub proper-of : (K : T.of → Bool) → ((v : T.of) → Passing K v → Moved T (Passing K) v) → (v : T.of)
        → Passing K v → v ≡ T.zero

  -- Nakayama's lemma: K lies in a submodule L where it lies in L plus the span of all (g - 1) v with v in K
  abbrev pub NakayamaClaim : Type 0
  NakayamaClaim = (K L : T.of → Bool) → IsSubmodule T (Passing L)
      → ((v : T.of) → Passing K v → (x y : T.of) × Passing L x × Moved T (Passing K) y × (v ≡ T.add x y))
      → (v : T.of) → Passing K v → Passing L v

  -- rows of a submodule K that are a basis of it modulo the span of all (g - 1) v generate it,
  -- no fewer rows do, and what they take to 0 has blocks of sum 0
  pub record GeneratorClaims (K : T.of → Bool) (m : ℕ) (row : Below m → T.of) : Type 0 where
    pub generate : Generate q Γ T (Passing K) m row
    pub fewest : (l : ℕ) (s : Below l → T.of) → ((i : Below l) → Passing K (s i))
        → Generate q Γ T (Passing K) l s → m ≤ l
    pub kernel : (u : (Table q Γ m).of) → lin T row (terms q Γ m u) ≡ T.zero → (i : Below m)
        → block-sum q Γ m u i ≡ residue q 0
