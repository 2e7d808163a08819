-- Sums and multiples of vectors, and what is additive in them.
use Rattle.std.proofs.Common.{◌≡◌, ℕ, zero, suc, ◌+◌, ◌*◌, ◌%◌, ◌/◌, arith, ap, sym, ◌∙◌, refl}
use Rattle.std.proofs.Math.Nat.{div-add-mod}
use Rattle.linear_algebra.specs.Modular.{IsCongruent}
use Rattle.graded_algebra.specs.Algebras.{Algebra, times, IsSpace, IsGradedCommutative}

module _ (q : ℕ) (V : Type 0) (A : Algebra V) (S : IsSpace q V A) where
  pub zero-add : (x : V) → A.add A.zero x ≡ x
  zero-add x = S.add-comm A.zero x ∙ S.add-zero x

  -- (a + b) + (c + d) = (a + c) + (b + d)
  pub exchange : (a b c d : V) → A.add (A.add a b) (A.add c d) ≡ A.add (A.add a c) (A.add b d)
  exchange a b c d =
      S.add-assoc a b (A.add c d)
      ∙ ap (A.add a) (sym (S.add-assoc b c d) ∙ ap (λ x. A.add x d) (S.add-comm b c) ∙ S.add-assoc c b d)
      ∙ sym (S.add-assoc a c (A.add b d))

  pub times-one : (x : V) → times A 1 x ≡ x
  times-one x = S.add-zero x

  pub times-add : (n : ℕ) (x y : V) → times A n (A.add x y) ≡ A.add (times A n x) (times A n y)
  times-add zero x y = sym (S.add-zero A.zero)
  times-add (suc n) x y = ap (A.add (A.add x y)) (times-add n x y) ∙ exchange x y (times A n x) (times A n y)

  pub times-zero : (n : ℕ) → times A n A.zero ≡ A.zero
  times-zero zero = refl
  times-zero (suc n) = ap (A.add A.zero) (times-zero n) ∙ S.add-zero A.zero

  pub times-sum : (m n : ℕ) (x : V) → times A (m + n) x ≡ A.add (times A m x) (times A n x)
  times-sum zero n x = ap (λ k. times A k x) (let e : 0 + n ≡ n = omega arith in e)
      ∙ sym (zero-add (times A n x))
  times-sum (suc m) n x =
      ap (λ k. times A k x) (let e : suc m + n ≡ suc (m + n) = omega arith in e)
      ∙ ap (A.add x) (times-sum m n x) ∙ sym (S.add-assoc x _ _)

  pub times-times : (m n : ℕ) (x : V) → times A m (times A n x) ≡ times A (m * n) x
  times-times zero n x = ap (λ k. times A k x) (let e : 0 ≡ 0 * n = omega arith in e)
  times-times (suc m) n x =
      ap (A.add (times A n x)) (times-times m n x) ∙ sym (times-sum n (m * n) x)
      ∙ ap (λ k. times A k x) (let e : n + m * n ≡ suc m * n = omega arith in e)

  pub times-multiple : (k : ℕ) (x : V) → times A (k * suc q) x ≡ A.zero
  times-multiple k x = sym (times-times k (suc q) x) ∙ ap (times A k) (S.times-p x) ∙ times-zero k

  -- a number counts modulo p
  pub times-mod : (n : ℕ) (x : V) → times A n x ≡ times A (n % suc q) x
  times-mod n x =
      ap (λ k. times A k x) (sym (div-add-mod n (suc q))
      ∙ (let e : suc q * (n / suc q) + n % suc q ≡ (n / suc q) * suc q + n % suc q = omega arith in e))
      ∙ times-sum ((n / suc q) * suc q) (n % suc q) x
      ∙ ap (λ y. A.add y (times A (n % suc q) x)) (times-multiple (n / suc q) x) ∙ zero-add _

  pub times-congruent : {m n : ℕ} (x : V) → IsCongruent (suc q) m n → times A m x ≡ times A n x
  times-congruent {m} {n} x h = times-mod m x ∙ ap (λ k. times A k x) h.same_remainder ∙ sym (times-mod n x)

  -- x + (p - 1) x = 0
  pub add-minus : (x : V) → A.add x (times A q x) ≡ A.zero
  add-minus x = S.times-p x

  -- what is x with (p - 1) y added to give 0 is y
  pub equal-from : (x y : V) → A.add x (times A q y) ≡ A.zero → x ≡ y
  equal-from x y e =
      sym (S.add-zero x) ∙ ap (A.add x) (sym (S.add-comm (times A q y) y ∙ add-minus y))
      ∙ sym (S.add-assoc x (times A q y) y) ∙ ap (λ z. A.add z y) e ∙ zero-add y

  pub double-zero : (x : V) → A.add x x ≡ x → x ≡ A.zero
  double-zero x e =
      sym (S.add-zero x) ∙ ap (A.add x) (sym (add-minus x)) ∙ sym (S.add-assoc x x (times A q x))
      ∙ ap (λ z. A.add z (times A q x)) e ∙ add-minus x

module _ (q : ℕ) (V : Type 0) (A : Algebra V) (In : ℕ → V → Type 0) (L : IsGradedCommutative q V A In) where
  pub mul-zero : (d e : ℕ) (x : V) → A.mul d e x A.zero ≡ A.zero
  mul-zero d e x = double-zero q V A L.space (A.mul d e x A.zero) (sym (L.mul-right d e x A.zero A.zero)
      ∙ ap (A.mul d e x) (L.space.add-zero A.zero))

  pub zero-mul : (d e : ℕ) (x : V) → A.mul d e A.zero x ≡ A.zero
  zero-mul d e x = double-zero q V A L.space (A.mul d e A.zero x) (sym (L.mul-left d e A.zero A.zero x)
      ∙ ap (λ y. A.mul d e y x) (L.space.add-zero A.zero))

  pub mul-times : (d e n : ℕ) (x y : V) → A.mul d e x (times A n y) ≡ times A n (A.mul d e x y)
  mul-times d e zero x y = mul-zero d e x
  mul-times d e (suc n) x y = L.mul-right d e x y (times A n y)
      ∙ ap (A.add (A.mul d e x y)) (mul-times d e n x y)

  pub times-mul : (d e n : ℕ) (x y : V) → A.mul d e (times A n x) y ≡ times A n (A.mul d e x y)
  times-mul d e zero x y = zero-mul d e y
  times-mul d e (suc n) x y = L.mul-left d e x (times A n x) y
      ∙ ap (A.add (A.mul d e x y)) (times-mul d e n x y)
