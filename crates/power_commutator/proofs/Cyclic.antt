-- The cyclic extension of a group by a map f and an element w.
use Rattle.std.proofs.Common.{◌≡◌, ℕ, zero, suc, refl, sym, ◌∙◌, ap, ap₂, ◌+◌, ◌-◌, ◌<◌, ◌≤◌, arith, ltb}
use Rattle.std.proofs.Common.{if◌then◌else◌, lt-ltb, le-ltb, ◌⊎◌, inl, inr}
use Rattle.power_commutator.specs.Presentations.{iterate}
use Rattle.power_commutator.proofs.Group.{IsGroup, IsHom, iterate-hom, iterate-fixed, iterate-add}
use Rattle.power_commutator.proofs.Tuples.{Below, residue, none, residue-small, residue-is}

pub less-or : (a b : ℕ) → (a < b) ⊎ (b ≤ a)
less-or a b = grind arith

module _ (q : ℕ) {A : Type 0} (mul : A → A → A) (w : A) where
  -- (k, x), with a carry
  abbrev pub put : ℕ → A → Below (suc q) × A
  put k x = if (ltb k (suc q)) then (residue q k, x) else (residue q (k - suc q), mul w x)

  pub put-less : (k : ℕ) (x : A) → k < suc q → put k x ≡ (residue q k, x)
  put-less k x h = ap (λ b. if b then (residue q k, x) else (residue q (k - suc q), mul w x))
      (lt-ltb k (suc q) h)

  pub put-more : (k : ℕ) (x : A) → suc q ≤ k → put k x ≡ (residue q (k - suc q), mul w x)
  put-more k x h = ap (λ b. if b then (residue q k, x) else (residue q (k - suc q), mul w x))
      (le-ltb k (suc q) h)

  abbrev pub ext : (A → A) → Below (suc q) × A → Below (suc q) × A → Below (suc q) × A
  ext f x y = put (x.0.0 + y.0.0) (mul (iterate f y.0.0 x.1) y.1)

module _ (q : ℕ) {A : Type 0} {one : A} {mul : A → A → A} (H : IsGroup one mul) (f : A → A) (w : A)
    (hom : IsHom mul mul f) (fixed : f w ≡ w) (twist : (x : A) → mul w (iterate f (suc q) x) ≡ mul x w) where
  -- the second part of both ways to multiply three, before any carry
  plain : (b c : ℕ) (x y z : A) → mul (iterate f c (mul (iterate f b x) y)) z ≡ mul (iterate f (b + c) x)
      (mul (iterate f c y) z)
  plain b c x y z =
      ap (λ t. mul t z) (iterate-hom mul f hom c (iterate f b x) y
      ∙ ap (λ t. mul t (iterate f c y)) (iterate-add f c b x
      ∙ ap (λ k. iterate f k x) (let e : c + b ≡ b + c = omega arith in e)))
      ∙ H.mul-assoc _ _ z

  left : (c : ℕ) (x z : A) → mul (iterate f c (mul w x)) z ≡ mul w (mul (iterate f c x) z)
  left c x z =
      ap (λ t. mul t z) (iterate-hom mul f hom c w x
      ∙ ap (λ t. mul t (iterate f c x)) (iterate-fixed f w fixed c))
      ∙ H.mul-assoc w _ z

  right : (k : ℕ) (x y : A) → suc q ≤ k → mul (iterate f (k - suc q) x) (mul w y) ≡ mul w
      (mul (iterate f k x) y)
  right k x y h =
      sym (H.mul-assoc _ w y)
      ∙ ap (λ t. mul t y) (sym (twist (iterate f (k - suc q) x))
      ∙ ap (mul w) (iterate-add f (suc q) (k - suc q) x
      ∙ ap (λ n. iterate f n x) (let e : suc q + (k - suc q) ≡ k = omega arith in e)))
      ∙ H.mul-assoc w _ y

  pub ext-assoc : (x y z : Below (suc q) × A)
      → ext q mul w f (ext q mul w f x y) z ≡ ext q mul w f x (ext q mul w f y z)
  ext-assoc x y z = go (less-or (a + b) (suc q)) (less-or (b + c) (suc q))
    where
      a : ℕ
      a = x.0.0

      b : ℕ
      b = y.0.0

      c : ℕ
      c = z.0.0

      X : A
      X = mul (iterate f b x.1) y.1

      Y : A
      Y = mul (iterate f c y.1) z.1

      on-left : (k : ℕ) (t : A) → k < suc q → put q mul w (a + b) X ≡ (residue q k, t)
          → ext q mul w f (ext q mul w f x y) z ≡ put q mul w (k + c) (mul (iterate f c t) z.1)
      on-left k t h e =
          ap (λ s. ext q mul w f s z) e ∙ ap (λ n. put q mul w (n + c) (mul (iterate f c t) z.1))
          (residue-small q k h)

      on-right : (k : ℕ) (t : A) → k < suc q → put q mul w (b + c) Y ≡ (residue q k, t)
          → ext q mul w f x (ext q mul w f y z) ≡ put q mul w (a + k) (mul (iterate f k x.1) t)
      on-right k t h e =
          ap (λ s. ext q mul w f x s) e ∙ ap (λ n. put q mul w (a + n) (mul (iterate f n x.1) t))
          (residue-small q k h)

      go : (a + b < suc q) ⊎ (suc q ≤ a + b) → (b + c < suc q) ⊎ (suc q ≤ b + c)
          → ext q mul w f (ext q mul w f x y) z ≡ ext q mul w f x (ext q mul w f y z)
      go (inl h) (inl k) =
          on-left (a + b) X h (put-less q mul w (a + b) X h)
          ∙ ap₂ (put q mul w) (let e : a + b + c ≡ a + (b + c) = omega arith in e) (plain b c x.1 y.1 z.1)
          ∙ sym (on-right (b + c) Y k (put-less q mul w (b + c) Y k))
      go (inl h) (inr k) =
          on-left (a + b) X h (put-less q mul w (a + b) X h)
          ∙ put-more q mul w (a + b + c) _ (let i : suc q ≤ b + c = k in omega (arith, i))
          ∙ ap₂ (λ n t. (residue q n, mul w t))
          (let i : suc q ≤ b + c = k in let e : a + b + c - suc q ≡ a + (b + c - suc q) = omega (
            arith,
            i,
          ) in e) (plain b c x.1 y.1 z.1)
          ∙ ap (λ t. (residue q (a + (b + c - suc q)), t)) (sym (right (b + c) x.1 Y k))
          ∙ sym (put-less q mul w (a + (b + c - suc q)) _
          (let i : suc q ≤ b + c = k in let j : a + b < suc q = h in let l : c < suc q = z.0.1 in omega
          (arith, i, j, l)))
          ∙ sym (on-right (b + c - suc q) (mul w Y)
          (let l : b < suc q = y.0.1 in let m : c < suc q = z.0.1 in omega (arith, l, m))
          (put-more q mul w (b + c) Y k))
      go (inr h) (inl k) =
          on-left (a + b - suc q) (mul w X)
          (let l : a < suc q = x.0.1 in let m : b < suc q = y.0.1 in omega (arith, l, m))
          (put-more q mul w (a + b) X h)
          ∙ put-less q mul w (a + b - suc q + c) _
          (let i : suc q ≤ a + b = h in let j : b + c < suc q = k in let l : a < suc q = x.0.1 in omega
          (arith, i, j, l))
          ∙ ap₂ (λ n t. (residue q n, t))
          (let i : suc q ≤ a + b = h in let e : a + b - suc q + c ≡ a + (b + c) - suc q = omega (
            arith,
            i,
          ) in e) (left c X z.1 ∙ ap (mul w) (plain b c x.1 y.1 z.1))
          ∙ sym (put-more q mul w (a + (b + c)) _ (let i : suc q ≤ a + b = h in omega (arith, i)))
          ∙ sym (on-right (b + c) Y k (put-less q mul w (b + c) Y k))
      go (inr h) (inr k) =
          on-left (a + b - suc q) (mul w X)
          (let l : a < suc q = x.0.1 in let m : b < suc q = y.0.1 in omega (arith, l, m))
          (put-more q mul w (a + b) X h)
          ∙ ap₂ (put q mul w) (let i : suc q ≤ a + b = h in let j : suc q ≤ b + c = k in
          let e : a + b - suc q + c ≡ a + (b + c - suc q) = omega (arith, i, j) in e)
          (left c X z.1 ∙ ap (mul w) (plain b c x.1 y.1 z.1) ∙ sym (right (b + c) x.1 Y k))
          ∙ sym (on-right (b + c - suc q) (mul w Y)
          (let l : b < suc q = y.0.1 in let m : c < suc q = z.0.1 in omega (arith, l, m))
          (put-more q mul w (b + c) Y k))

  pub ext-one : (x : Below (suc q) × A) → ext q mul w f x (none q, one) ≡ x
  ext-one x =
      put-less q mul w (x.0.0 + 0) (mul x.1 one) (let l : x.0.0 < suc q = x.0.1 in omega (arith, l))
      ∙ ap₂ (λ a t. (a, t)) (residue-is q (x.0.0 + 0) x.0 (omega arith)) (H.mul-one x.1)

  pub inverse : ℕ → A → Below (suc q) × A
  inverse zero x = (none q, H.inv x)
  inverse (suc k) x = (residue q (q - k), H.inv (mul w (iterate f (q - k) x)))

  ext-inv-by : (k : ℕ) (h : k < suc q) (x : A) → ext q mul w f ((k, h), x) (inverse k x) ≡ (none q, one)
  unfolding inverse
  ext-inv-by zero h x =
      put-less q mul w (0 + 0) (mul x (H.inv x)) h
      ∙ ap₂ (λ a t. (a, t)) (residue-is q (0 + 0) (none q) refl) (H.mul-inv x)
  ext-inv-by (suc k) h x =
      ap (λ n. put q mul w (suc k + n) (mul (iterate f n x) (H.inv (mul w (iterate f (q - k) x)))))
      (residue-small q (q - k) (omega arith))
      ∙ put-more q mul w (suc k + (q - k)) _ (let i : suc k < suc q = h in omega (arith, i))
      ∙ ap₂ (λ a t. (a, t)) (residue-is q (suc k + (q - k) - suc q) (none q)
      (let i : suc k < suc q = h in omega (arith, i)))
      (sym (H.mul-assoc w _ _) ∙ H.mul-inv _)

  pub ext-group : IsGroup (none q, one) (ext q mul w f)
  ext-group = record {
    inv = λ x. inverse x.0.0 x.1;
    mul-one = ext-one;
    mul-assoc = ext-assoc;
    mul-inv = λ x. ext-inv-by x.0.0 x.0.1 x.1;
  }
