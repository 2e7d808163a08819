-- The numbers modulo 2, 3, 5 and 7 are fields: the inverse of a is a to the power p - 2.
use Rattle.std.proofs.Common.{◌≡◌, ◌≢◌, ℕ, zero, suc, ◌*◌, ◌%◌, ◌^◌, ◌<◌, inl, inr, arith, sym, ◌∙◌, refl}
use Rattle.std.proofs.Common.{lit<}
use Rattle.std.proofs.Math.Nat.{mod-lt, mod-eq_of_lt}
use Rattle.linear_algebra.specs.Modular.{IsFieldModulo, IsSmallPrime}
use Rattle.linear_algebra.proofs.Congruences.{congruent_trans, congruent_mul_right, congruent_sym}
use Rattle.linear_algebra.proofs.Congruences.{congruent_mod}

unit_power_2 : (r : ℕ) → r < 2 → r ≢ 0 → r * r ^ 0 % 2 ≡ 1
unit_power_2 zero l n = absurd (n refl)
unit_power_2 (suc zero) l n = refl
unit_power_2 (suc (suc r)) l n = absurd (omega arith)

unit_power_3 : (r : ℕ) → r < 3 → r ≢ 0 → r * r ^ 1 % 3 ≡ 1
unit_power_3 zero l n = absurd (n refl)
unit_power_3 (suc zero) l n = refl
unit_power_3 (suc (suc zero)) l n = refl
unit_power_3 (suc (suc (suc r))) l n = absurd (omega arith)

unit_power_5 : (r : ℕ) → r < 5 → r ≢ 0 → r * r ^ 3 % 5 ≡ 1
unit_power_5 zero l n = absurd (n refl)
unit_power_5 (suc zero) l n = refl
unit_power_5 (suc (suc zero)) l n = refl
unit_power_5 (suc (suc (suc zero))) l n = refl
unit_power_5 (suc (suc (suc (suc zero)))) l n = refl
unit_power_5 (suc (suc (suc (suc (suc r))))) l n = absurd (omega arith)

unit_power_7 : (r : ℕ) → r < 7 → r ≢ 0 → r * r ^ 5 % 7 ≡ 1
unit_power_7 zero l n = absurd (n refl)
unit_power_7 (suc zero) l n = refl
unit_power_7 (suc (suc zero)) l n = refl
unit_power_7 (suc (suc (suc zero))) l n = refl
unit_power_7 (suc (suc (suc (suc zero)))) l n = refl
unit_power_7 (suc (suc (suc (suc (suc zero))))) l n = refl
unit_power_7 (suc (suc (suc (suc (suc (suc zero)))))) l n = refl
unit_power_7 (suc (suc (suc (suc (suc (suc (suc r))))))) l n = absurd (omega arith)

-- a power of the remainder that is the inverse of each remainder but 0
field : (p k : ℕ) → 1 < p → ((r : ℕ) → r < p → r ≢ 0 → r * r ^ k % p ≡ 1) → IsFieldModulo p
field p k l h = record {
  above_one = l;
  inverse = λ a n. (
    (a % p) ^ k,
    congruent_trans (congruent_sym (congruent_mul_right ((a % p) ^ k) (congruent_mod a)))
        (record { same_remainder = h (a % p) (mod-lt a (omega arith)) n ∙ sym (mod-eq_of_lt l) }),
  );
}

pub field_of_prime : (p : ℕ) → IsSmallPrime p → IsFieldModulo p
field_of_prime p (inl e) = rw e (field 2 0 (lit< tt) unit_power_2)
field_of_prime p (inr (inl e)) = rw e (field 3 1 (lit< tt) unit_power_3)
field_of_prime p (inr (inr (inl e))) = rw e (field 5 3 (lit< tt) unit_power_5)
field_of_prime p (inr (inr (inr e))) = rw e (field 7 5 (lit< tt) unit_power_7)
