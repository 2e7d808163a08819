use Rattle.std.proofs.Common.{◌≡◌, ◌≢◌, ℕ, ◌+◌, ◌*◌, ◌-◌, ◌%◌, ◌/◌, ◌<◌, arith, ap, sym, ◌∙◌, refl}
use Rattle.std.proofs.Math.Nat.{add-mul-mod_self_right, mod-eq_of_lt, mod-mod, div-add-mod'}
use Rattle.linear_algebra.specs.Modular.{IsCongruent, IsFieldModulo}

-- a congruence as an equation of numbers, each way
pub from_congruent : {p a b : ℕ} → IsCongruent p a b → a + b / p * p ≡ b + a / p * p
from_congruent {p} {a} {b} h = omega (arith, div-add-mod' a p, div-add-mod' b p, h.same_remainder)

pub to_congruent : {p a b : ℕ} (k l : ℕ) → a + k * p ≡ b + l * p → IsCongruent p a b
to_congruent {p} {a} {b} k l e = record {
  same_remainder = sym (add-mul-mod_self_right a k p) ∙ ap (λ x. x % p) e ∙ add-mul-mod_self_right b l p;
}

pub congruent_refl : {p : ℕ} (a : ℕ) → IsCongruent p a a
congruent_refl a = record { same_remainder = refl }

pub congruent_eq : {p a b : ℕ} → a ≡ b → IsCongruent p a b
congruent_eq {p} e = record { same_remainder = ap (λ x. x % p) e }

pub congruent_sym : {p a b : ℕ} → IsCongruent p a b → IsCongruent p b a
congruent_sym h = record { same_remainder = sym h.same_remainder }

pub congruent_trans : {p a b c : ℕ} → IsCongruent p a b → IsCongruent p b c → IsCongruent p a c
congruent_trans h k = record { same_remainder = h.same_remainder ∙ k.same_remainder }

pub congruent_add : {p a b c d : ℕ} → IsCongruent p a b → IsCongruent p c d → IsCongruent p (a + c) (b + d)
congruent_add {p} {a} {b} {c} {d} h k =
    to_congruent (b / p + d / p) (a / p + c / p) (omega (arith, from_congruent h, from_congruent k))

pub congruent_mul_left : {p a b : ℕ} (c : ℕ) → IsCongruent p a b → IsCongruent p (c * a) (c * b)
congruent_mul_left {p} {a} {b} c h =
    to_congruent (c * (b / p)) (c * (a / p)) (omega (arith, ap (λ x. c * x) (from_congruent h)))

pub congruent_mul_right : {p a b : ℕ} (c : ℕ) → IsCongruent p a b → IsCongruent p (a * c) (b * c)
congruent_mul_right {p} {a} {b} c h =
    to_congruent (c * (b / p)) (c * (a / p)) (omega (arith, ap (λ x. c * x) (from_congruent h)))

pub congruent_mul : {p a b c d : ℕ} → IsCongruent p a b → IsCongruent p c d → IsCongruent p (a * c) (b * d)
congruent_mul {p} {a} {b} {c} {d} h k = congruent_trans (congruent_mul_right c h) (congruent_mul_left b k)

-- the same summand goes from both sides
pub congruent_cancel : {p a b : ℕ} (c : ℕ) → IsCongruent p (a + c) (b + c) → IsCongruent p a b
congruent_cancel {p} {a} {b} c h =
    to_congruent ((b + c) / p) ((a + c) / p) (omega (arith, from_congruent h))

pub congruent_mod : {p : ℕ} (a : ℕ) → IsCongruent p (a % p) a
congruent_mod {p} a = record { same_remainder = mod-mod a p }

-- below p congruent numbers are equal
pub same_below : {p a b : ℕ} → IsCongruent p a b → a < p → b < p → a ≡ b
same_below h k l = sym (mod-eq_of_lt k) ∙ h.same_remainder ∙ mod-eq_of_lt l

-- c * a + (p - 1) * (c * a) is 0: p - 1 stands for -1
pub congruent_minus : {p : ℕ} (a : ℕ) → 1 < p → IsCongruent p (a + (p - 1) * a) 0
congruent_minus {p} a h = to_congruent 0 a
    (let e : (1 + (p - 1)) * a ≡ p * a = ap (λ x. x * a) (omega arith) in omega (arith, e))

-- a field has no zero divisors
pub no_zero_divisors : {p : ℕ} → IsFieldModulo p → (a b : ℕ) → IsCongruent p (a * b) 0 → a % p ≢ 0
    → IsCongruent p b 0
no_zero_divisors {p} f a b h n = let i = f.inverse a n in
    congruent_trans (congruent_eq (omega arith))
    (congruent_trans (congruent_sym (congruent_mul_right b i.1))
    (congruent_trans (congruent_eq (omega arith))
    (congruent_trans (congruent_mul_left i.0 h) (congruent_eq (omega arith)))))
