-- Laws of modules, linear maps and linear extensions.
use Rattle.std.specs.Prelude.{◌≡◌, ℕ, zero, suc, refl, List, [], ◌∷◌, ◌+◌, ◌*◌, ◌/◌, ◌%◌}
use Rattle.std.proofs.Common.{sym, ◌∙◌, ap, ap₂, arith}
use Rattle.std.proofs.Math.Nat.{div-add-mod}
use Rattle.group_modules.specs.Module.{Monoid, Module, sub, times, IsAdditive, IsLinear, Term, lin}

module _ {p : ℕ} {G : Monoid} (M : Module p G) where
  pub zero-add : (x : M.of) → M.add M.zero x ≡ x
  zero-add x = M.add-comm M.zero x ∙ M.add-zero x

  -- (a + b) + (c + d) = (a + c) + (b + d)
  pub swap : (a b c d : M.of) → M.add (M.add a b) (M.add c d) ≡ M.add (M.add a c) (M.add b d)
  swap a b c d =
      M.add-assoc a b (M.add c d)
      ∙ ap (M.add a) (sym (M.add-assoc b c d) ∙ ap (λ x. M.add x d) (M.add-comm b c) ∙ M.add-assoc c b d)
      ∙ sym (M.add-assoc a c (M.add b d))

  -- a sum that is 0 determines its second part
  pub neg-unique : (x y : M.of) → M.add x y ≡ M.zero → y ≡ M.neg x
  neg-unique x y e =
      sym (zero-add y)
      ∙ ap (λ z. M.add z y) (sym (M.add-comm (M.neg x) x ∙ M.add-neg x))
      ∙ M.add-assoc (M.neg x) x y ∙ ap (M.add (M.neg x)) e ∙ M.add-zero (M.neg x)

  pub neg-zero : M.neg M.zero ≡ M.zero
  neg-zero = sym (neg-unique M.zero M.zero (M.add-zero M.zero))

  pub neg-add : (x y : M.of) → M.neg (M.add x y) ≡ M.add (M.neg x) (M.neg y)
  neg-add x y =
      sym (neg-unique (M.add x y) (M.add (M.neg x) (M.neg y))
      (swap x y (M.neg x) (M.neg y) ∙ ap₂ M.add (M.add-neg x) (M.add-neg y) ∙ M.add-zero M.zero))

  pub neg-neg : (x : M.of) → M.neg (M.neg x) ≡ x
  neg-neg x = sym (neg-unique (M.neg x) x (M.add-comm (M.neg x) x ∙ M.add-neg x))

  pub sub-self : (x : M.of) → sub M x x ≡ M.zero
  sub-self x = M.add-neg x

  pub sub-zero : (x : M.of) → sub M x M.zero ≡ x
  sub-zero x = ap (M.add x) neg-zero ∙ M.add-zero x

  -- (a + b) - (c + d) = (a - c) + (b - d)
  pub sub-add : (a b c d : M.of) → sub M (M.add a b) (M.add c d) ≡ M.add (sub M a c) (sub M b d)
  sub-add a b c d = ap (M.add (M.add a b)) (neg-add c d) ∙ swap a b (M.neg c) (M.neg d)

  -- (x - y) + y = x
  pub sub-back : (x y : M.of) → M.add (sub M x y) y ≡ x
  sub-back x y = M.add-assoc x (M.neg y) y ∙ ap (M.add x) (M.add-comm (M.neg y) y ∙ M.add-neg y)
      ∙ M.add-zero x

  -- elements with difference 0 are equal
  pub sub-eq : (x y : M.of) → sub M x y ≡ M.zero → x ≡ y
  sub-eq x y e = sym (sub-back x y) ∙ ap (λ z. M.add z y) e ∙ zero-add y

  pub times-add : (n : ℕ) (x y : M.of)
      → times M.add M.zero n (M.add x y) ≡ M.add (times M.add M.zero n x) (times M.add M.zero n y)
  times-add zero x y = sym (M.add-zero M.zero)
  times-add (suc n) x y =
      ap (M.add (M.add x y)) (times-add n x y) ∙ swap x y (times M.add M.zero n x) (times M.add M.zero n y)

  pub times-zero : (n : ℕ) → times M.add M.zero n M.zero ≡ M.zero
  times-zero zero = refl
  times-zero (suc n) = ap (M.add M.zero) (times-zero n) ∙ M.add-zero M.zero

  pub times-sum : (m n : ℕ) (x : M.of)
      → times M.add M.zero (m + n) x ≡ M.add (times M.add M.zero m x) (times M.add M.zero n x)
  times-sum zero n x = ap (λ k. times M.add M.zero k x) (let e : 0 + n ≡ n = omega arith in e)
      ∙ sym (zero-add (times M.add M.zero n x))
  times-sum (suc m) n x =
      ap (λ k. times M.add M.zero k x) (let e : suc m + n ≡ suc (m + n) = omega arith in e)
      ∙ ap (M.add x) (times-sum m n x) ∙ sym (M.add-assoc x _ _)

  times-multiple : (k : ℕ) (x : M.of) → times M.add M.zero (k * p) x ≡ M.zero
  times-multiple zero x = ap (λ k. times M.add M.zero k x) (let e : 0 * p ≡ 0 = omega arith in e)
  times-multiple (suc k) x =
      ap (λ k. times M.add M.zero k x) (let e : suc k * p ≡ p + k * p = omega arith in e)
      ∙ times-sum p (k * p) x ∙ ap₂ M.add (M.times-p x) (times-multiple k x) ∙ M.add-zero M.zero

  -- a number counts modulo p
  pub times-mod : (n : ℕ) (x : M.of) → times M.add M.zero (n % p) x ≡ times M.add M.zero n x
  times-mod n x =
      sym
      (ap (λ k. times M.add M.zero k x) (sym (div-add-mod n p)
      ∙ (let e : p * (n / p) + n % p ≡ (n / p) * p + n % p = omega arith in e))
      ∙ times-sum ((n / p) * p) (n % p) x
      ∙ ap (λ y. M.add y (times M.add M.zero (n % p) x)) (times-multiple (n / p) x) ∙ zero-add _)

  -- an element that is its own double is 0
  pub double-zero : (x : M.of) → M.add x x ≡ x → x ≡ M.zero
  double-zero x e =
      sym (M.add-zero x) ∙ ap (M.add x) (sym (M.add-neg x)) ∙ sym (M.add-assoc x x (M.neg x))
      ∙ ap (λ z. M.add z (M.neg x)) e ∙ M.add-neg x

  pub act-zero : (g : G.elem) → M.act g M.zero ≡ M.zero
  act-zero g = double-zero (M.act g M.zero) (sym (M.act-add g M.zero M.zero)
      ∙ ap (M.act g) (M.add-zero M.zero))

  pub act-neg : (g : G.elem) (x : M.of) → M.act g (M.neg x) ≡ M.neg (M.act g x)
  act-neg g x =
      neg-unique (M.act g x) (M.act g (M.neg x))
      (sym (M.act-add g x (M.neg x)) ∙ ap (M.act g) (M.add-neg x) ∙ act-zero g)

  pub times-neg : (n : ℕ) (x : M.of) → times M.add M.zero n (M.neg x) ≡ M.neg (times M.add M.zero n x)
  times-neg n x =
      neg-unique (times M.add M.zero n x) (times M.add M.zero n (M.neg x))
      (sym (times-add n x (M.neg x)) ∙ ap (times M.add M.zero n) (M.add-neg x) ∙ times-zero n)

  pub act-times : (g : G.elem) (n : ℕ) (x : M.of)
      → M.act g (times M.add M.zero n x) ≡ times M.add M.zero n (M.act g x)
  act-times g zero x = act-zero g
  act-times g (suc n) x = M.act-add g x (times M.add M.zero n x) ∙ ap (M.add (M.act g x)) (act-times g n x)

  -- linear extension respects sums and differences of functions
  pub lin-add : {X : Type 0} (f g : X → M.of) (t : List (Term G X))
      → lin M (λ x. M.add (f x) (g x)) t ≡ M.add (lin M f t) (lin M g t)
  lin-add f g [] = sym (M.add-zero M.zero)
  lin-add f g (t ∷ ts) =
      ap₂ M.add
      (ap (times M.add M.zero t.coef) (M.act-add t.elem (f t.base) (g t.base))
      ∙ times-add t.coef (M.act t.elem (f t.base)) (M.act t.elem (g t.base)))
      (lin-add f g ts)
      ∙ swap _ _ _ _

  pub lin-neg : {X : Type 0} (f : X → M.of) (t : List (Term G X))
      → lin M (λ x. M.neg (f x)) t ≡ M.neg (lin M f t)
  lin-neg f [] = sym neg-zero
  lin-neg f (t ∷ ts) =
      ap₂ M.add
      (ap (times M.add M.zero t.coef) (act-neg t.elem (f t.base))
      ∙ times-neg t.coef (M.act t.elem (f t.base)))
      (lin-neg f ts)
      ∙ sym (neg-add _ _)

  pub lin-sub : {X : Type 0} (f g : X → M.of) (t : List (Term G X))
      → lin M (λ x. sub M (f x) (g x)) t ≡ sub M (lin M f t) (lin M g t)
  lin-sub f g t = lin-add f (λ x. M.neg (g x)) t ∙ ap (M.add (lin M f t)) (lin-neg g t)

module _ {p : ℕ} {G : Monoid} (M N : Module p G) (f : M.of → N.of) (a : IsAdditive M N f) where
  pub map-zero : f M.zero ≡ N.zero
  map-zero = double-zero N (f M.zero) (sym (a M.zero M.zero) ∙ ap f (M.add-zero M.zero))

  pub map-neg : (x : M.of) → f (M.neg x) ≡ N.neg (f x)
  map-neg x = neg-unique N (f x) (f (M.neg x)) (sym (a x (M.neg x)) ∙ ap f (M.add-neg x) ∙ map-zero)

  pub map-sub : (x y : M.of) → f (sub M x y) ≡ sub N (f x) (f y)
  map-sub x y = a x (M.neg y) ∙ ap (N.add (f x)) (map-neg y)

  pub map-times : (n : ℕ) (x : M.of) → f (times M.add M.zero n x) ≡ times N.add N.zero n (f x)
  map-times zero x = map-zero
  map-times (suc n) x = a x (times M.add M.zero n x) ∙ ap (N.add (f x)) (map-times n x)

-- a linear map goes through a linear extension
pub map-lin : {p : ℕ} {G : Monoid} (M N : Module p G) (f : M.of → N.of) → IsLinear M N f → {X : Type 0}
    (u : X → M.of) (t : List (Term G X)) → f (lin M u t) ≡ lin N (λ x. f (u x)) t
map-lin M N f l u [] = map-zero M N f l.on-add
map-lin M N f l u (t ∷ ts) =
    l.on-add _ _
    ∙ ap₂ N.add
    (map-times M N f l.on-add t.coef (M.act t.elem (u t.base))
    ∙ ap (times N.add N.zero t.coef) (l.on-act t.elem (u t.base)))
    (map-lin M N f l u ts)

pub lin-zero : {p : ℕ} {G : Monoid} (M : Module p G) {X : Type 0} (t : List (Term G X))
    → lin M (λ x. M.zero) t ≡ M.zero
lin-zero M [] = refl
lin-zero M (t ∷ ts) =
    ap₂ M.add (ap (times M.add M.zero t.coef) (act-zero M t.elem) ∙ times-zero M t.coef) (lin-zero M ts)
    ∙ M.add-zero M.zero

-- one linear map after another
pub then-linear : {p : ℕ} {G : Monoid} (M N K : Module p G) (f : M.of → N.of) (g : N.of → K.of)
    → IsLinear M N f → IsLinear N K g → IsLinear M K (λ x. g (f x))
then-linear M N K f g l k = record {
  on-add = λ x y. ap g (l.on-add x y) ∙ k.on-add (f x) (f y);
  on-act = λ h x. ap g (l.on-act h x) ∙ k.on-act h (f x);
}

pub zero-linear : {p : ℕ} {G : Monoid} (M N : Module p G) → IsLinear M N (λ x. N.zero)
zero-linear M N = record { on-add = λ x y. sym (N.add-zero N.zero); on-act = λ h x. sym (act-zero N h) }
