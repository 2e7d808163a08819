-- Powers of an element whose p-th power is 0.
use Rattle.std.proofs.Common.{◌≡◌, ℕ, zero, suc, ◌<◌, ◌+◌, ◌*◌, ◌/◌, ◌%◌, refl, ap, sym, ◌∙◌, arith}
use Rattle.std.proofs.Math.Nat.{div-add-mod'}
use Rattle.group_table.specs.Tables.{GroupTable, order, product, power}
use Rattle.group_table.specs.declared.Prime.{Prime}
use Rattle.group_table.specs.declared.Prime.TheVariants.{P2, P3, P5, P7}
use Rattle.group_table.specs.Prime.{prime_value}
use Rattle.elementary_subgroups.specs.Cliques.{IsTorsion}
use Rattle.elementary_subgroups.proofs.GroupLaws.{HasGroupLaw, power_below, power_of_unit}

pub power_add : {G : GroupTable} → HasGroupLaw G → (a i j : ℕ) → a < order G → power G a (i + j) ≡ product G
    (power G a i) (power G a j)
power_add {G} L a i zero h = ap (power G a) (plus i) ∙ sym (L.law.mul-one (power G a i) (power_below L a i h))
  where
    plus : (i : ℕ) → i + 0 ≡ i
    plus i = omega arith
power_add {G} L a i (suc j) h =
    ap (power G a) (plus i j) ∙ ap (λ w. product G w a) (power_add L a i j h)
    ∙ L.law.mul-assoc (power G a i) (power G a j) a (power_below L a i h) (power_below L a j h) h
  where
    plus : (i j : ℕ) → i + suc j ≡ suc (i + j)
    plus i j = omega arith

pub power_mul : {G : GroupTable} → HasGroupLaw G → (a i j : ℕ) → a < order G → power G a (i * j) ≡ power G
    (power G a i) j
power_mul {G} L a i zero h = ap (power G a) (times i)
  where
    times : (i : ℕ) → i * 0 ≡ 0
    times i = omega arith
power_mul {G} L a i (suc j) h = ap (power G a) (times i j) ∙ power_add L a (i * j) i h
    ∙ ap (λ w. product G w (power G a i)) (power_mul L a i j h)
  where
    times : (i j : ℕ) → i * suc j ≡ i * j + i
    times i j = omega arith

-- exponents count modulo p
pub power_mod : {G : GroupTable} → HasGroupLaw G → (a n : ℕ) → IsTorsion G a → power G a (n % G.p)
    ≡ power G a n
power_mod {G} L a n t =
    let q = n / G.p in
    let r = n % G.p in
    let e : q * G.p + r ≡ n = div-add-mod' n G.p in
    let zero_part : power G a (q * G.p) ≡ 0 = ap (power G a) (swap q G.p) ∙ power_mul L a G.p q t.element
    ∙ ap (λ w. power G w q) t.power_is ∙ power_of_unit L q in
    sym (L.law.one-mul (power G a r) (power_below L a r t.element)) ∙ ap (λ w. product G w (power G a r))
    (sym zero_part) ∙ sym (power_add L a (q * G.p) r t.element) ∙ ap (power G a) e
  where
    swap : (a b : ℕ) → a * b ≡ b * a
    swap a b = omega arith

-- each number from 1 to p - 1 has an inverse modulo p
pub unit_modulo : (q : Prime) (d : ℕ) → 0 < d → d < prime_value q → (t : ℕ) × (m : ℕ) ×
    (d * t ≡ 1 + prime_value q * m)
unit_modulo q zero a b = absurd (let c : 0 < 0 = a in omega arith)
unit_modulo P2 (suc zero) a b = (1, 0, refl)
unit_modulo P2 (suc (suc d)) a b = absurd (let c : suc (suc d) < 2 = b in omega arith)
unit_modulo P3 (suc zero) a b = (1, 0, refl)
unit_modulo P3 (suc (suc zero)) a b = (2, 1, refl)
unit_modulo P3 (suc (suc (suc d))) a b = absurd (let c : suc (suc (suc d)) < 3 = b in omega arith)
unit_modulo P5 (suc zero) a b = (1, 0, refl)
unit_modulo P5 (suc (suc zero)) a b = (3, 1, refl)
unit_modulo P5 (suc (suc (suc zero))) a b = (2, 1, refl)
unit_modulo P5 (suc (suc (suc (suc zero)))) a b = (4, 3, refl)
unit_modulo P5 (suc (suc (suc (suc (suc d))))) a b = absurd (let c : suc (suc (suc (suc (suc d)))) < 5 =
    b in omega arith)
unit_modulo P7 (suc zero) a b = (1, 0, refl)
unit_modulo P7 (suc (suc zero)) a b = (4, 1, refl)
unit_modulo P7 (suc (suc (suc zero))) a b = (5, 2, refl)
unit_modulo P7 (suc (suc (suc (suc zero)))) a b = (2, 1, refl)
unit_modulo P7 (suc (suc (suc (suc (suc zero))))) a b = (3, 2, refl)
unit_modulo P7 (suc (suc (suc (suc (suc (suc zero)))))) a b = (6, 5, refl)
unit_modulo P7 (suc (suc (suc (suc (suc (suc (suc d))))))) a b = absurd
    (let c : suc (suc (suc (suc (suc (suc (suc d)))))) < 7 = b in omega arith)

pub above_one : (q : Prime) → 1 < prime_value q
above_one P2 = omega arith
above_one P3 = omega arith
above_one P5 = omega arith
above_one P7 = omega arith
