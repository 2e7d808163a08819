-- The four primes.
use Rattle.std.proofs.Common.{◌≡◌, ℕ, ◌+◌, ◌-◌, ◌*◌, ◌%◌, ◌<◌, inl, inr, arith, ap, refl}
use Rattle.group_table.specs.Prime.{prime_value}
use Rattle.group_table.specs.declared.Prime.{Prime}
use Rattle.group_table.specs.declared.Prime.TheVariants.{P2, P3, P5, P7}
use Rattle.linear_algebra.specs.Modular.{IsFieldModulo}
use Rattle.linear_algebra.proofs.Congruences.{to_congruent}
use Rattle.linear_algebra.proofs.Fields.{field_of_prime}

pub prime_above_one : (p : Prime) → 1 < prime_value p
prime_above_one P2 = omega arith
prime_above_one P3 = omega arith
prime_above_one P5 = omega arith
prime_above_one P7 = omega arith

-- the numbers modulo a prime are a field
pub prime_field : (p : Prime) → IsFieldModulo (prime_value p)
prime_field P2 = field_of_prime 2 (inl refl)
prime_field P3 = field_of_prime 3 (inr (inl refl))
prime_field P5 = field_of_prime 5 (inr (inr (inl refl)))
prime_field P7 = field_of_prime 7 (inr (inr (inr refl)))

pub other_prime : (p : Prime) → (p ≡ P2 → ⊥) → prime_value p ≡ 2 → ⊥
other_prime P2 n e = n refl
other_prime P3 n e = omega arith
other_prime P5 n e = omega arith
other_prime P7 n e = omega arith

-- to subtract is to add p - 1 times
pub minus_once : (p x y : ℕ) → y < p → (x + (p - y)) % p ≡ (x + (p - 1) * y) % p
minus_once p x y l = (to_congruent y 1
    (let e : (p - 1) * y + y ≡ p * y = (let d : (1 + (p - 1)) * y ≡ p * y = ap (λ z. z * y) (omega arith) in
    omega (arith, d)) in
    omega (arith, e, l))).same_remainder
