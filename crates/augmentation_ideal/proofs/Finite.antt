-- Finite types by a list in which each member stands once, and counting.
use Rattle.std.specs.Prelude.{◌≡◌, ◌≢◌, ℕ, zero, suc, refl, List, [], ◌∷◌, ◌++◌, map, ◌+◌, ◌*◌, ◌<◌, ◌≤◌, ◌⊎◌}
use Rattle.std.specs.Prelude.{Bool, true, false, not, ◌&&◌, eqb}
use Rattle.std.proofs.Common.{sym, ◌∙◌, ap, ap₂, arith, inl, inr}
use Rattle.std.proofs.lemmas.Bool.{and_from, and_parts, false_from_ne_true, true≢false, eq-eqb, eqb-true}
use Rattle.std.proofs.lemmas.Bool.Decides.{eqb_tells}
use mathlib.Core.Path.{fun_ext}
use Rattle.group_modules.specs.Field.{Below}
use Rattle.linear_algebra.proofs.Residues.{below-path}
use Rattle.group_modules.specs.Sums.{below, up}

-- 1 for true
abbrev pub bit : Bool → ℕ
bit true = 1
bit false = 0

-- the sum of all f(x)
abbrev pub sum : {A : Type 0} → List A → (A → ℕ) → ℕ
sum [] f = 0
sum (x ∷ xs) f = f x + sum xs f

pub tell : (b : Bool) → (b ≡ true) ⊎ (b ≡ false)
tell true = inl refl
tell false = inr refl

-- tests that hold together are equal
pub same-test : (a b : Bool) → (a ≡ true → b ≡ true) → (b ≡ true → a ≡ true) → a ≡ b
same-test true b f g = sym (f refl)
same-test false true f g = g refl
same-test false false f g = refl

module _ {A : Type 0} where
  pub sum-same : (xs : List A) (f g : A → ℕ) → ((x : A) → f x ≡ g x) → sum xs f ≡ sum xs g
  sum-same xs f g h = ap (sum xs) (fun_ext h)

  pub sum-add : (xs : List A) (f g : A → ℕ) → sum xs (λ x. f x + g x) ≡ sum xs f + sum xs g
  sum-add [] f g = refl
  sum-add (x ∷ xs) f g = omega (arith, sum-add xs f g)

  pub sum-scale : (xs : List A) (f : A → ℕ) (c : ℕ) → sum xs (λ x. f x * c) ≡ sum xs f * c
  sum-scale [] f c = omega arith
  sum-scale (x ∷ xs) f c = omega (arith, sum-scale xs f c)

  pub sum-zero : (xs : List A) → sum xs (λ x. 0) ≡ 0
  sum-zero [] = refl
  sum-zero (x ∷ xs) = omega (arith, sum-zero xs)

  pub sum-le : (xs : List A) (f g : A → ℕ) → ((x : A) → f x ≤ g x) → sum xs f ≤ sum xs g
  sum-le [] f g h = omega arith
  sum-le (x ∷ xs) f g h = omega (arith, h x, sum-le xs f g h)

  pub sum-append : (xs ys : List A) (f : A → ℕ) → sum (xs ++ ys) f ≡ sum xs f + sum ys f
  sum-append [] ys f = omega arith
  sum-append (x ∷ xs) ys f = omega (arith, sum-append xs ys f)

  pub sum-swap : {B : Type 0} (xs : List A) (ys : List B) (f : A → B → ℕ)
      → sum xs (λ x. sum ys (f x)) ≡ sum ys (λ y. sum xs (λ x. f x y))
  sum-swap [] ys f = sym (zeros ys)
    where
      zeros : {B : Type 0} (ys : List B) → sum ys (λ y. 0) ≡ 0
      zeros [] = refl
      zeros (y ∷ ys) = omega (arith, zeros ys)
  sum-swap (x ∷ xs) ys f = ap (λ k. sum ys (f x) + k) (sum-swap xs ys f)
      ∙ sym (apart ys (f x) (λ y. sum xs (λ x. f x y)))
    where
      apart : {B : Type 0} (ys : List B) (f g : B → ℕ) → sum ys (λ y. f y + g y) ≡ sum ys f + sum ys g
      apart [] f g = refl
      apart (y ∷ ys) f g = omega (arith, apart ys f g)

  pub sum-map : {B : Type 0} (g : B → A) (ys : List B) (f : A → ℕ) → sum (map g ys) f ≡ sum ys (λ y. f (g y))
  sum-map g [] f = refl
  sum-map g (y ∷ ys) f = ap (λ k. f (g y) + k) (sum-map g ys f)

  -- the test fails at each member
  abbrev pub Fails : List A → (A → Bool) → Type 0
  Fails [] f = Unit {0}
  Fails (x ∷ xs) f = (f x ≡ false) × Fails xs f

  pub look : (xs : List A) (f : A → Bool) → ((x : A) × (f x ≡ true)) ⊎ Fails xs f
  look [] f = inr tt
  look (x ∷ xs) f = at (tell (f x)) (look xs f)
    where
      at : (f x ≡ true) ⊎ (f x ≡ false) → ((x : A) × (f x ≡ true)) ⊎ Fails xs f → ((x : A) × (f x ≡ true))
          ⊎ Fails (x ∷ xs) f
      at (inl e) r = inl (x, e)
      at (inr e) (inl r) = inl r
      at (inr e) (inr r) = inr (e, r)

  pub sum-fails : (xs : List A) (w : A → ℕ) (f : A → Bool) → Fails xs f → sum xs (λ x. w x * bit (f x)) ≡ 0
  sum-fails [] w f h = refl
  sum-fails (x ∷ xs) w f h = ap₂ ◌+◌ (ap (λ b. w x * bit b) h.0
      ∙ (let e : w x * 0 ≡ 0 = omega arith in e)) (sum-fails xs w f h.1)

abbrev pub is-left : {P Q : Type 0} → P ⊎ Q → Bool
is-left (inl p) = true
is-left (inr q) = false

-- a list with each member once, and a test of equality
pub record Finite (A : Type 0) : Type 0 where
  pub all : List A
  pub same : A → A → Bool
  pub same-self : (x : A) → same x x ≡ true
  pub same-path : (x y : A) → same x y ≡ true → x ≡ y
  pub once : (x : A) → sum all (λ y. bit (same x y)) ≡ 1

module _ {A : Type 0} (F : Finite A) where
  pub apart : (x y : A) → (x ≡ y → ⊥) → F.same x y ≡ false
  apart x y h = false_from_ne_true (F.same x y) (λ e. h (F.same-path x y e))

  pub same-of : (x y : A) → x ≡ y → F.same x y ≡ true
  same-of x y e = ap (F.same x) (sym e) ∙ F.same-self x

  pick-at : (x y : A) (f : A → ℕ) → bit (F.same x y) * f y ≡ bit (F.same x y) * f x
  pick-at x y f = at (tell (F.same x y))
    where
      at : (F.same x y ≡ true) ⊎ (F.same x y ≡ false) → bit (F.same x y) * f y ≡ bit (F.same x y) * f x
      at (inl e) = ap (λ z. bit (F.same x y) * f z) (sym (F.same-path x y e))
      at (inr e) = rw e (let k : 0 * f y ≡ 0 * f x = omega arith in k)

  -- f(x) is a sum over all members
  pub pick : (x : A) (f : A → ℕ) → sum F.all (λ y. bit (F.same x y) * f y) ≡ f x
  pick x f =
      sum-same F.all (λ y. bit (F.same x y) * f y) (λ y. bit (F.same x y) * f x) (λ y. pick-at x y f)
      ∙ sum-scale F.all (λ y. bit (F.same x y)) (f x) ∙ ap (λ k. k * f x) (F.once x)
      ∙ (let e : 1 * f x ≡ f x = omega arith in e)

  -- the test holds somewhere or nowhere
  pub search-all : (f : A → Bool) → ((x : A) × (f x ≡ true)) ⊎ ((x : A) → f x ≡ false)
  search-all f = at (look F.all f)
    where
      zero-bit : (b : Bool) → bit b ≡ 0 → b ≡ false
      zero-bit true e = absurd (omega (arith, e))
      zero-bit false e = refl

      at : ((x : A) × (f x ≡ true)) ⊎ Fails F.all f → ((x : A) × (f x ≡ true)) ⊎ ((x : A) → f x ≡ false)
      at (inl r) = inl r
      at (inr r) = inr (λ x. zero-bit (f x) (sym (pick x (λ y. bit (f y)))
          ∙ sum-fails F.all (λ y. bit (F.same x y)) f r))

  zero-bit : (b : Bool) → bit b ≡ 0 → b ≡ false
  zero-bit true e = absurd (omega (arith, e))
  zero-bit false e = refl

  pub fails-at : (f : A → Bool) → Fails F.all f → (x : A) → f x ≡ false
  fails-at f h x = zero-bit (f x) (sym (pick x (λ y. bit (f y)))
      ∙ sum-fails F.all (λ y. bit (F.same x y)) f h)

  -- some member passes the test; each does
  abbrev pub some : (A → Bool) → Bool
  some f = is-left (search-all f)

  pub some-at : (f : A → Bool) (x : A) → f x ≡ true → some f ≡ true
  some-at f x e = go (search-all f)
    where
      go : (r : ((x : A) × (f x ≡ true)) ⊎ ((x : A) → f x ≡ false)) → is-left r ≡ true
      go (inl r) = refl
      go (inr r) = absurd (true≢false (sym e ∙ r x))

  pub some-from : (f : A → Bool) → some f ≡ true → (x : A) × (f x ≡ true)
  some-from f = go (search-all f)
    where
      go : (r : ((x : A) × (f x ≡ true)) ⊎ ((x : A) → f x ≡ false)) → is-left r ≡ true → (x : A)
          × (f x ≡ true)
      go (inl r) e = r
      go (inr r) e = absurd (true≢false (sym e))

  pub some-none : (f : A → Bool) → some f ≡ false → (x : A) → f x ≡ false
  some-none f e x = false_from_ne_true (f x) (λ k. true≢false (sym (some-at f x k) ∙ e))

  abbrev pub every : (A → Bool) → Bool
  every f = not (some (λ x. not (f x)))

  pub every-at : (f : A → Bool) → every f ≡ true → (x : A) → f x ≡ true
  every-at f e x = un (f x) (some-none (λ x. not (f x)) (un-not (some (λ x. not (f x))) e) x)
    where
      un : (b : Bool) → not b ≡ false → b ≡ true
      un true e = refl
      un false e = absurd (true≢false e)

      un-not : (b : Bool) → not b ≡ true → b ≡ false
      un-not true e = absurd (true≢false (sym e))
      un-not false e = refl

  pub every-from : (f : A → Bool) → ((x : A) → f x ≡ true) → every f ≡ true
  every-from f h = ap not (false_from_ne_true (some (λ x. not (f x)))
      (λ e. let r : (x : A) × (not (f x) ≡ true) = some-from (λ x. not (f x)) e in true≢false (sym r.1
      ∙ ap not (h r.0))))

  pub every-fails : (f : A → Bool) → every f ≡ false → (x : A) × (f x ≡ false)
  every-fails f e = let r : (x : A) × (not (f x) ≡ true) =
      some-from (λ x. not (f x)) (un (some (λ x. not (f x))) e) in (r.0, un-not (f r.0) r.1)
    where
      un : (b : Bool) → not b ≡ false → b ≡ true
      un true e = refl
      un false e = absurd (true≢false e)

      un-not : (b : Bool) → not b ≡ true → b ≡ false
      un-not true e = absurd (true≢false (sym e))
      un-not false e = refl

-- ---- the numbers below n

off-new : (n : ℕ) (x : Below n) → bit (eqb x.0 n) ≡ 0
off-new n x = at (eqb_tells x.0 n)
  where
    at : ((eqb x.0 n ≡ true) × (x.0 ≡ n)) ⊎ ((eqb x.0 n ≡ false) × (x.0 ≢ n)) → bit (eqb x.0 n) ≡ 0
    at (inl h) = absurd (let l : x.0 < n = x.1 in let e : x.0 ≡ n = h.1 in omega (arith, l, e))
    at (inr h) = ap bit h.0

eqb-flip : (a b : ℕ) → eqb a b ≡ eqb b a
eqb-flip a b = at (eqb_tells a b) (eqb_tells b a)
  where
    at : ((eqb a b ≡ true) × (a ≡ b)) ⊎ ((eqb a b ≡ false) × (a ≢ b)) → ((eqb b a ≡ true) × (b ≡ a))
        ⊎ ((eqb b a ≡ false) × (b ≢ a)) → eqb a b ≡ eqb b a
    at (inl h) (inl k) = h.0 ∙ sym k.0
    at (inl h) (inr k) = absurd (k.1 (sym h.1))
    at (inr h) (inl k) = absurd (h.1 (sym k.1))
    at (inr h) (inr k) = h.0 ∙ sym k.0

pub once-below : (n : ℕ) (x : Below n) → sum (below n) (λ y. bit (eqb x.0 y.0)) ≡ 1
once-below zero x = absurd (let h : x.0 < 0 = x.1 in omega (arith, h))
once-below (suc n) x =
    ap (λ k. bit (eqb x.0 n) + k) (sum-map (λ i. up i) (below n) (λ y. bit (eqb x.0 y.0)))
    ∙ at (eqb_tells x.0 n) (λ y. once-below n y)
  where
    at : ((eqb x.0 n ≡ true) × (x.0 ≡ n)) ⊎ ((eqb x.0 n ≡ false) × (x.0 ≢ n))
        → ((y : Below n) → sum (below n) (λ z. bit (eqb y.0 z.0)) ≡ 1)
        → bit (eqb x.0 n) + sum (below n) (λ y. bit (eqb x.0 y.0)) ≡ 1
    at (inl h) ih =
        ap₂ ◌+◌ (ap bit h.0)
        (sum-same (below n) (λ y. bit (eqb x.0 y.0)) (λ y. 0)
        (λ y. ap bit (ap (λ k. eqb k y.0) h.1 ∙ eqb-flip n y.0) ∙ off-new n y) ∙ sum-zero (below n))
    at (inr h) ih = ap₂ ◌+◌ (ap bit h.0)
        (ih (x.0, (let l : x.0 < suc n = x.1 in let e : x.0 ≢ n = h.1 in omega (arith, l, e))))

abbrev pub finite-below : (n : ℕ) → Finite (Below n)
finite-below n = record {
  all = below n;
  same = λ x y. eqb x.0 y.0;
  same-self = λ x. eq-eqb x.0 x.0 refl;
  same-path = λ x y e. below-path x y (eqb-true x.0 y.0 e);
  once = once-below n;
}

pub size-below : (n : ℕ) → sum (below n) (λ x. 1) ≡ n
size-below zero = refl
size-below (suc n) = ap (λ k. 1 + k) (sum-map (λ i. up i) (below n) (λ x. 1) ∙ size-below n)
    ∙ (let e : 1 + n ≡ suc n = omega arith in e)

-- ---- pairs, and functions on the numbers below b

pub once-pair : {A B : Type 0} (F : Finite A) (H : Finite B) (x : A) (y : B)
    → sum F.all (λ a. sum H.all (λ b. bit (F.same x a && H.same y b))) ≡ 1
once-pair F H x y =
    sum-same F.all (λ a. sum H.all (λ b. bit (F.same x a && H.same y b))) (λ a. bit (F.same x a))
    (λ a. at (F.same x a)) ∙ F.once x
  where
    at : (t : Bool) → sum H.all (λ b. bit (t && H.same y b)) ≡ bit t
    at true = H.once y
    at false = sum-zero H.all

-- the list of all pairs
abbrev pub pairs : {A B : Type 0} → List A → List B → List (A × B)
pairs [] ys = []
pairs (x ∷ xs) ys = map (λ y. (x, y)) ys ++ pairs xs ys

pub sum-pairs : {A B : Type 0} (xs : List A) (ys : List B) (f : A × B → ℕ)
    → sum (pairs xs ys) f ≡ sum xs (λ x. sum ys (λ y. f (x, y)))
sum-pairs [] ys f = refl
sum-pairs (x ∷ xs) ys f =
    sum-append (map (λ y. (x, y)) ys) (pairs xs ys) f
    ∙ ap₂ ◌+◌ (sum-map (λ y. (x, y)) ys f) (sum-pairs xs ys f)

abbrev pub finite-pair : {A B : Type 0} → Finite A → Finite B → Finite (A × B)
finite-pair F H = record {
  all = pairs F.all H.all;
  same = λ a b. F.same a.0 b.0 && H.same a.1 b.1;
  same-self = λ a. and_from (F.same a.0 a.0) (H.same a.1 a.1) (F.same-self a.0) (H.same-self a.1);
  same-path = λ a b e. let r : (F.same a.0 b.0 ≡ true) × (H.same a.1 b.1 ≡ true) =
      and_parts (F.same a.0 b.0) (H.same a.1 b.1) e in
      ap₂ (λ x y. (x, y)) (F.same-path a.0 b.0 r.0) (H.same-path a.1 b.1 r.1);
  once = λ a. sum-pairs F.all H.all (λ b. bit (F.same a.0 b.0 && H.same a.1 b.1)) ∙ once-pair F H a.0 a.1;
}

-- a type that corresponds to a finite one is finite
abbrev pub finite-by : {A B : Type 0} → Finite A → (f : A → B) (g : B → A) → ((b : B) → f (g b) ≡ b)
    → ((a : A) → g (f a) ≡ a) → Finite B
finite-by F f g fg gf = record {
  all = map f F.all;
  same = λ a b. F.same (g a) (g b);
  same-self = λ a. F.same-self (g a);
  same-path = λ a b e. sym (fg a) ∙ ap f (F.same-path (g a) (g b) e) ∙ fg b;
  once = λ b. sum-map f F.all (λ c. bit (F.same (g b) (g c)))
      ∙ sum-same F.all (λ a. bit (F.same (g b) (g (f a)))) (λ a. bit (F.same (g b) a))
      (λ a. ap (λ c. bit (F.same (g b) c)) (gf a)) ∙ F.once (g b);
}

pub up-lt : (i b : ℕ) → i < b → suc i < suc b
up-lt i b l = omega (arith, l)

pub down-lt : (i b : ℕ) → suc i < suc b → i < b
down-lt i b l = omega (arith, l)

pub first-lt : (b : ℕ) → 0 < suc b
first-lt b = omega arith

-- a function by its value at 0 and the function after it
abbrev pub join-at : {A : Type 0} (b : ℕ) → A → (Below b → A) → (i : ℕ) → i < suc b → A
join-at b a f zero l = a
join-at b a f (suc i) l = f (i, down-lt i b l)

abbrev pub join-function : {A : Type 0} (b : ℕ) → A × (Below b → A) → Below (suc b) → A
join-function b r i = join-at b r.0 r.1 i.0 i.1

abbrev pub split-function : {A : Type 0} (b : ℕ) → (Below (suc b) → A) → A × (Below b → A)
split-function b f = (f (0, first-lt b), λ i. f (suc i.0, up-lt i.0 b i.1))

pub join-split : {A : Type 0} (b : ℕ) (f : Below (suc b) → A) → join-function b (split-function b f) ≡ f
join-split {A} b f = fun_ext (λ i. at i.0 i.1)
  where
    at : (i : ℕ) (l : i < suc b) → join-at b (f (0, first-lt b)) (λ i. f (suc i.0, up-lt i.0 b i.1)) i l ≡ f
        (i, l)
    at zero l = ap f (below-path (0, first-lt b) (0, l) refl)
    at (suc i) l = ap f (below-path (suc i, up-lt i b (down-lt i b l)) (suc i, l) refl)

pub split-join : {A : Type 0} (b : ℕ) (r : A × (Below b → A)) → split-function b (join-function b r) ≡ r
split-join b r = ap (λ f. (r.0, f)) (fun_ext
    (λ i. ap r.1 (below-path (i.0, down-lt i.0 b (up-lt i.0 b i.1)) i refl)))

-- the one function on no numbers
pub no-function : {A : Type 0} (f g : Below 0 → A) → f ≡ g
no-function f g = fun_ext (λ i. absurd (let l : i.0 < 0 = i.1 in omega (arith, l)))

pub absent : {A : Type 0} → Below 0 → A
absent i = absurd (let l : i.0 < 0 = i.1 in omega (arith, l))

abbrev pub finite-function : {A : Type 0} → Finite A → (b : ℕ) → Finite (Below b → A)
finite-function F zero = record {
  all = absent ∷ [];
  same = λ f g. true;
  same-self = λ f. refl;
  same-path = λ f g e. no-function f g;
  once = λ f. refl;
}
finite-function F (suc b) = finite-by (finite-pair F (finite-function F b)) (join-function b)
    (split-function b) (join-split b) (split-join b)
