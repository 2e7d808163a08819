-- Laws of the numbers below n and of the integers modulo p = q + 1.
use Rattle.std.specs.Prelude.{◌≡◌, ℕ, zero, suc, refl, ◌+◌, ◌*◌, ◌%◌}
use Rattle.std.proofs.Common.{sym, ◌∙◌, ap, arith, add_assoc, add_comm}
use Rattle.std.proofs.Math.Nat.{mod-eq_of_lt, add-mod-mod, mod-add-mod, mul-mod_right, zero-mod}
use mathlib.Core.HLevel.{Σ_prop_path, Σ_set, prop→set}
use native.Mathlib.Bridge.{le_prop}
use native.Mathlib.Nat.{ℕ_set}
use Rattle.linear_algebra.specs.Residues as residues
use Rattle.linear_algebra.specs.Residues.{Below, times}

pub below-path : {n : ℕ} (a b : Below n) → a.0 ≡ b.0 → a ≡ b
below-path {n} a b e = Σ_prop_path (λ (k : ℕ). le_prop {n = suc k} {m = n}) {u = a} {v = b} e

pub below-set : (n : ℕ) → IsSet (Below n)
below-set n = Σ_set ℕ_set (λ k. prop→set (le_prop {n = suc k} {m = n}))

module _ (q : ℕ) where
  abbrev residue : ℕ → Below (suc q)
  residue n = residues.residue q n

  abbrev plus : Below (suc q) → Below (suc q) → Below (suc q)
  plus a b = residues.plus q a b

  pub residue-self : (a : Below (suc q)) → residue a.0 ≡ a
  residue-self a = below-path (residue a.0) a (mod-eq_of_lt a.1)

  pub plus-residue : (m n : ℕ) → plus (residue m) (residue n) ≡ residue (m + n)
  plus-residue m n = below-path (plus (residue m) (residue n)) (residue (m + n))
      (add-mod-mod (m % suc q) n (suc q) ∙ mod-add-mod m (suc q) n)

  pub times-residue : (n : ℕ) (a : Below (suc q)) → times plus (residue 0) n a ≡ residue (n * a.0)
  times-residue zero a = ap residue (omega arith)
  times-residue (suc n) a =
      ap (plus a) (times-residue n a) ∙ ap (λ b. plus b (residue (n * a.0))) (sym (residue-self a))
      ∙ plus-residue a.0 (n * a.0) ∙ ap residue (omega arith)

  pub times-one : (c : ℕ) → times plus (residue 0) c (residue 1) ≡ residue c
  times-one zero = refl
  times-one (suc c) = ap (plus (residue 1)) (times-one c) ∙ plus-residue 1 c ∙ ap residue (omega arith)

  pub plus-assoc : (a b c : Below (suc q)) → plus (plus a b) c ≡ plus a (plus b c)
  plus-assoc a b c =
      below-path _ _
      (mod-add-mod (a.0 + b.0) (suc q) c.0 ∙ ap (λ n. n % suc q) (add_assoc a.0 b.0 c.0)
      ∙ sym (add-mod-mod a.0 (b.0 + c.0) (suc q)))

  pub plus-comm : (a b : Below (suc q)) → plus a b ≡ plus b a
  plus-comm a b = ap residue (add_comm a.0 b.0)

  pub plus-zero : (a : Below (suc q)) → plus a (residue 0) ≡ a
  plus-zero a =
      ap (λ b. plus b (residue 0)) (sym (residue-self a)) ∙ plus-residue a.0 0 ∙ ap residue (omega arith)
      ∙ residue-self a

  pub plus-minus : (a : Below (suc q)) → plus a (residues.minus q a) ≡ residue 0
  plus-minus a =
      ap (λ b. plus b (residue (q * a.0))) (sym (residue-self a)) ∙ plus-residue a.0 (q * a.0)
      ∙ below-path _ _
      (ap (λ n. n % suc q) (let e : a.0 + q * a.0 ≡ suc q * a.0 = omega arith in e)
      ∙ mul-mod_right (suc q) a.0 ∙ sym (zero-mod (suc q)))

  -- p times a is 0
  pub times-p : (a : Below (suc q)) → times plus (residue 0) (suc q) a ≡ residue 0
  times-p a = times-residue (suc q) a ∙ below-path _ _ (mul-mod_right (suc q) a.0 ∙ sym (zero-mod (suc q)))
