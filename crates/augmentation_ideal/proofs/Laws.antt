-- The laws at the free modules.
use Rattle.std.specs.Prelude.{ℕ, suc, Bool}
use Rattle.group_modules.specs.Field.{Below}
use Rattle.group_modules.specs.Tables.{Group, Table}
use Rattle.augmentation_ideal.specs.Radical.{Radical, IsSubmodule}
use Rattle.augmentation_ideal.specs.Generators.{IsBasisModuloMoved}
use Rattle.augmentation_ideal.specs.Claims.{IsPrimePower, Passing, RadicalClaims, NakayamaClaim}
use Rattle.augmentation_ideal.specs.Claims.{GeneratorClaims}
use Rattle.augmentation_ideal.proofs.Finite.{Finite, finite-function, finite-below}
use Rattle.augmentation_ideal.proofs.Nakayama as N
use Rattle.augmentation_ideal.proofs.Generators as R

module _ {n : ℕ} (q : ℕ) (Γ : Group n) where
  -- the members of a free module are finitely many
  abbrev pub finite-table : (b : ℕ) → Finite (Table q Γ b).of
  finite-table b = finite-function (finite-function (finite-below (suc q)) n) b

  pub radical-claims : IsPrimePower q n → (b : ℕ) → RadicalClaims q Γ b
  radical-claims P b = record {
    nilpotent = N.nilpotent q P.exponent Γ P.prime P.power (Table q Γ b) (finite-table b);
    proper = λ i f. N.moved-zero q P.exponent Γ P.prime P.power (Table q Γ b) (finite-table b)
        (Radical (Table q Γ b) i) f;
    proper-of = λ K. N.moved-zero q P.exponent Γ P.prime P.power (Table q Γ b) (finite-table b) (Passing K);
  }

  pub nakayama-claim : IsPrimePower q n → (b : ℕ) → NakayamaClaim q Γ b
  nakayama-claim P b K L = N.nakayama q P.exponent Γ P.prime P.power (Table q Γ b) (finite-table b)
      (Passing K) (Passing L)

  pub generator-claims : IsPrimePower q n
      → (b : ℕ) (K : (Table q Γ b).of → Bool) (m : ℕ) (row : Below m → (Table q Γ b).of)
      → IsSubmodule (Table q Γ b) (Passing K) → IsBasisModuloMoved (Table q Γ b) (Passing K) m row
      → GeneratorClaims q Γ b K m row
  generator-claims P b K m row U B = record {
    generate = R.generate q Γ (Table q Γ b) (Passing K) m row B P.exponent P.prime P.power (finite-table b);
    fewest = R.fewest q Γ (Table q Γ b) (Passing K) m row B P.prime.above-one U;
    kernel = R.kernel-minimal q Γ (Table q Γ b) (Passing K) m row B;
  }
