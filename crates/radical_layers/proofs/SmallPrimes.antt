-- A number modulo which there are inverses is a prime.
use Rattle.std.proofs.Common.{◌≡◌, ℕ, ◌*◌, ◌%◌, ◌⊎◌, inl, inr, arith, sym, ◌∙◌}
use Rattle.std.proofs.lemmas.Bool.{cases_eq}
use Rattle.linear_algebra.specs.Modular.{IsCongruent, IsFieldModulo}
use Rattle.linear_algebra.proofs.Congruences.{congruent_trans, congruent_eq, congruent_sym}
use Rattle.linear_algebra.proofs.Congruences.{congruent_mul_left, congruent_mul_right}
use Rattle.std.proofs.Math.Nat.{zero-mod}
use Rattle.augmentation_ideal.specs.Primes.{IsPrime}

pub prime-of-field : {p : ℕ} → IsFieldModulo p → IsPrime p
prime-of-field {p} F = record {
  above-one = F.above_one;
  no-zero-divisors = λ a b e. go a b e (cases_eq (a % p) 0);
}
  where
    go : (a b : ℕ) → (a * b) % p ≡ 0 → (a % p ≡ 0) ⊎ (a % p ≡ 0 → ⊥) → (a % p ≡ 0) ⊎ (b % p ≡ 0)
    go a b e (inl z) = inl z
    go a b e (inr d) = inr (at (F.inverse a d))
      where
        -- b is (a c) b, which is c (a b)
        at : (c : ℕ) × IsCongruent p (a * c) 1 → b % p ≡ 0
        at (c, k) = let zero : IsCongruent p (a * b) 0 = record { same_remainder = e ∙ sym (zero-mod p) } in
            let same : IsCongruent p b 0 =
            congruent_trans (congruent_eq (let z : b ≡ 1 * b = omega arith in z))
            (congruent_trans (congruent_mul_right b (congruent_sym k))
            (congruent_trans (congruent_eq (let z : a * c * b ≡ c * (a * b) = omega arith in z))
            (congruent_trans (congruent_mul_left c zero)
            (congruent_eq (let z : c * 0 ≡ 0 = omega arith in z))))) in
            same.same_remainder ∙ zero-mod p
