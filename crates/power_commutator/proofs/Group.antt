-- Groups, powers and ascending products.
use Rattle.std.proofs.Common.{◌≡◌, ℕ, zero, suc, refl, sym, ◌∙◌, ap, ◌+◌, arith}
use Rattle.power_commutator.specs.Presentations.{pow, iterate}

-- a group, by a right identity and right inverses
pub record IsGroup {A : Type 0} (one : A) (mul : A → A → A) : Type 0 where
  pub inv : A → A
  pub mul-one : (x : A) → mul x one ≡ x
  pub mul-assoc : (x y z : A) → mul (mul x y) z ≡ mul x (mul y z)
  pub mul-inv : (x : A) → mul x (inv x) ≡ one

-- f respects products
abbrev pub IsHom : {A B : Type 0} → (A → A → A) → (B → B → B) → (A → B) → Type 0
IsHom {A} mul times f = (x y : A) → f (mul x y) ≡ times (f x) (f y)

module _ {A : Type 0} {one : A} {mul : A → A → A} (H : IsGroup one mul) where
  pub inv-mul : (x : A) → mul (H.inv x) x ≡ one
  inv-mul x =
      let y = H.inv x in
      let z = H.inv y in
      sym (H.mul-one (mul y x)) ∙ ap (mul (mul y x)) (sym (H.mul-inv y)) ∙ H.mul-assoc y x (mul y z)
      ∙ ap (mul y) (sym (H.mul-assoc x y z)) ∙ sym (H.mul-assoc y (mul x y) z)
      ∙ ap (λ t. mul (mul y t) z) (H.mul-inv x) ∙ ap (λ t. mul t z) (H.mul-one y) ∙ H.mul-inv y

  pub one-mul : (x : A) → mul one x ≡ x
  one-mul x =
      ap (λ t. mul t x) (sym (H.mul-inv x)) ∙ H.mul-assoc x (H.inv x) x ∙ ap (mul x) (inv-mul x) ∙ H.mul-one x

  pub cancel : (x y z : A) → mul x y ≡ mul x z → y ≡ z
  cancel x y z e =
      sym (one-mul y) ∙ ap (λ t. mul t y) (sym (inv-mul x)) ∙ H.mul-assoc (H.inv x) x y
      ∙ ap (mul (H.inv x)) e
      ∙ sym (H.mul-assoc (H.inv x) x z) ∙ ap (λ t. mul t z) (inv-mul x) ∙ one-mul z

  pub pow-add : (x : A) (a b : ℕ) → pow mul one x (a + b) ≡ mul (pow mul one x a) (pow mul one x b)
  pow-add x zero b = ap (pow mul one x) (let e : 0 + b ≡ b = omega arith in e) ∙ sym (one-mul _)
  pow-add x (suc a) b =
      ap (pow mul one x) (let e : suc a + b ≡ suc (a + b) = omega arith in e)
      ∙ ap (mul x) (pow-add x a b) ∙ sym (H.mul-assoc x _ _)

  -- u t = t v gives u^e t = t v^e
  pub conj-pow : (u v t : A) → mul u t ≡ mul t v → (e : ℕ) → mul (pow mul one u e) t ≡ mul t (pow mul one v e)
  conj-pow u v t h zero = one-mul t ∙ sym (H.mul-one t)
  conj-pow u v t h (suc e) =
      H.mul-assoc u _ t ∙ ap (mul u) (conj-pow u v t h e) ∙ sym (H.mul-assoc u t _)
      ∙ ap (λ s. mul s (pow mul one v e)) h ∙ H.mul-assoc t v _

  pub pow-last : (x : A) (e : ℕ) → pow mul one x (suc e) ≡ mul (pow mul one x e) x
  pow-last x e = sym (conj-pow x x x refl e)

module _ {A B : Type 0} (one : A) (mul : A → A → A) (unit : B) (times : B → B → B) (f : A
    → B) (h : IsHom mul times f) (o : f one ≡ unit) where
  pub map-pow : (x : A) (e : ℕ) → f (pow mul one x e) ≡ pow times unit (f x) e
  map-pow x zero = o
  map-pow x (suc e) = h x _ ∙ ap (times (f x)) (map-pow x e)

-- f respects products, so f^e does
pub iterate-hom : {A : Type 0} (mul : A → A → A) (f : A → A) → IsHom mul mul f → (e : ℕ)
    → IsHom mul mul (iterate f e)
iterate-hom mul f h zero x y = refl
iterate-hom mul f h (suc e) x y = ap f (iterate-hom mul f h e x y) ∙ h _ _

pub iterate-fixed : {A : Type 0} (f : A → A) (x : A) → f x ≡ x → (e : ℕ) → iterate f e x ≡ x
iterate-fixed f x h zero = refl
iterate-fixed f x h (suc e) = ap f (iterate-fixed f x h e) ∙ h

pub iterate-add : {A : Type 0} (f : A → A) (a b : ℕ) (x : A)
    → iterate f a (iterate f b x) ≡ iterate f (a + b) x
iterate-add f zero b x = ap (λ k. iterate f k x) (let e : b ≡ 0 + b = omega arith in e)
iterate-add f (suc a) b x =
    ap f (iterate-add f a b x) ∙ ap (λ k. iterate f k x) (let e : suc (a + b) ≡ suc a + b = omega arith in e)

pub hom-one : {A B : Type 0} {one : A} {mul : A → A → A} {unit : B} {times : B → B → B} → IsGroup one mul
    → (K : IsGroup unit times)
    → (f : A → B) → IsHom mul times f → f one ≡ unit
hom-one {one = one} {unit = unit} H K f h =
    cancel K (f one) (f one) unit (sym (h one one) ∙ ap f (H.mul-one one) ∙ sym (K.mul-one (f one)))
