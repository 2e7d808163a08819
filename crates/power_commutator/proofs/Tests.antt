-- No test is false exactly where all tests of all layers hold on tuples.
use Rattle.std.proofs.Common.{◌≡◌, ℕ, zero, suc, refl, sym, ◌∙◌, ap, ap₂, ◌+◌, ◌<◌, ◌≤◌, arith, Bool, true}
use Rattle.std.proofs.Common.{false, eqb, ◌&&◌, if◌then◌else◌, ◌⊎◌, inl, inr, List, [], ◌∷◌, ◌++◌, map, drop}
use Rattle.std.proofs.Common.{Some, None, eqb-true, eq-eqb, subst}
use Rattle.power_commutator.specs.Presentations.{Presentation, IsPresentation, pow, iterate, identity}
use Rattle.power_commutator.specs.Presentations.{generator, alpha, product, Equation, power_test, swap_test}
use Rattle.power_commutator.specs.Presentations.{fixed_test, twist_test, equations, range, pairs, tests, same}
use Rattle.power_commutator.specs.Presentations.{first_false, power_word, commutator_word}
use Rattle.power_commutator.proofs.Group.{IsHom, map-pow}
use Rattle.power_commutator.proofs.Tuples.{Tuple, list-of, identity-tuple, generator-tuple, Among}
use Rattle.power_commutator.proofs.Cyclic.{less-or}
use Rattle.power_commutator.proofs.Dyck.{word, twisted, times}
use Rattle.power_commutator.proofs.Layers.{Holds, AllHold}
use Rattle.power_commutator.proofs.Lists.{list-inj, list-identity, list-generator, list-word, list-power}
use Rattle.power_commutator.proofs.Lists.{list-twisted, list-times, list-iterate}

abbrev pub EachHolds : List Equation → Type 0
EachHolds [] = Unit {0}
EachHolds (e ∷ es) = (e.left ≡ e.right) × EachHolds es

both : (x y : Bool) → (x && y) ≡ true → (x ≡ true) × (y ≡ true)
both true y e = (refl, e)
both false y e = absurd (grind arith)

pub same-eq : (xs ys : List ℕ) → same xs ys ≡ true → xs ≡ ys
same-eq [] [] e = refl
same-eq [] (y ∷ ys) e = absurd (grind arith)
same-eq (x ∷ xs) [] e = absurd (grind arith)
same-eq (x ∷ xs) (y ∷ ys) e =
    let h = both (eqb x y) (same xs ys) e in
    ap₂ (λ a t. a ∷ t) (eqb-true x y h.0) (same-eq xs ys h.1)

pub same-self : (xs : List ℕ) → same xs xs ≡ true
same-self [] = refl
same-self (x ∷ xs) = ap₂ (λ a b. a && b) (eq-eqb x x refl) (same-self xs)

pub none-each : (es : List Equation) → first_false es ≡ None → EachHolds es
none-each [] h = tt
none-each (e ∷ es) h = go (same e.left e.right) refl h (none-each es)
  where
    go : (b : Bool) → same e.left e.right ≡ b → (if b then (first_false es) else (Some e.name)) ≡ None
        → (first_false es ≡ None → EachHolds es) → EachHolds (e ∷ es)
    go true s h ih = (same-eq e.left e.right s, ih h)
    go false s h ih = absurd (grind arith)

pub each-none : (es : List Equation) → EachHolds es → first_false es ≡ None
each-none [] h = refl
each-none (e ∷ es) h =
    ap (λ b. if b then (first_false es) else (Some e.name)) (ap (λ t. same t e.right) h.0 ∙ same-self e.right)
    ∙ each-none es h.1

each-split : (es fs : List Equation) → EachHolds (es ++ fs) → EachHolds es × EachHolds fs
each-split [] fs h = (tt, h)
each-split (e ∷ es) fs h = let k = each-split es fs h.1 in ((h.0, k.0), k.1)

each-join : (es fs : List Equation) → EachHolds es → EachHolds fs → EachHolds (es ++ fs)
each-join [] fs h k = k
each-join (e ∷ es) fs h k = (h.0, each-join es fs h.1 k)

abbrev Fits : Equation → Type 0
Fits e = e.left ≡ e.right

each-range : (f : ℕ → Equation) (j m : ℕ) → EachHolds (map f (range j m)) → (k : ℕ) → Among j m k → Fits (f k)
each-range f j zero h k a = absurd (let b = a.0 in let c = a.1 in omega (arith, b, c))
each-range f j (suc m) h k a = go (less-or j k) (each-range f (suc j) m h.1 k)
  where
    go : (j < k) ⊎ (k ≤ j) → (Among (suc j) m k → Fits (f k)) → Fits (f k)
    go (inl l) ih = ih (l, let c = a.1 in omega (arith, c))
    go (inr l) ih = subst (λ t. Fits (f t)) (let b = a.0 in let e : j ≡ k = omega (arith, b, l) in e) h.0

range-each : (f : ℕ → Equation) (j m : ℕ) → ((k : ℕ) → Among j m k → Fits (f k))
    → EachHolds (map f (range j m))
range-each f j zero h = tt
range-each f j (suc m) h = (
  h j (omega arith, omega arith),
  range-each f (suc j) m
      (λ k a. h k (let b = a.0 in omega (arith, b), let c = a.1 in omega (arith, c))),
)

each-pairs : (f : ℕ → ℕ → Equation) (j m : ℕ) → EachHolds (pairs f j m) → (a b : ℕ) → Among j m a
    → Among j m b → a < b → Fits (f a b)
each-pairs f j zero h a b x y l = absurd (let c = x.0 in let d = x.1 in omega (arith, c, d))
each-pairs f j (suc m) h a b x y l = go (less-or j a) (each-pairs f (suc j) m (each-split _ _ h).1 a b)
  where
    later : Among (suc j) m b
    later = (let c = x.0 in let l' : a < b = l in omega (arith, c, l'), let d = y.1 in omega (arith, d))

    go : (j < a) ⊎ (a ≤ j) → (Among (suc j) m a → Among (suc j) m b → a < b → Fits (f a b)) → Fits (f a b)
    go (inl s) ih = ih (s, let d = x.1 in omega (arith, d)) later l
    go (inr s) ih =
        subst (λ t. Fits (f t b)) (let c = x.0 in let e : j ≡ a = omega (arith, c, s) in e)
        (each-range (f j) (suc j) m (each-split _ _ h).0 b later)

pairs-each : (f : ℕ → ℕ → Equation) (j m : ℕ) → ((a b : ℕ) → Among j m a → Among j m b → a < b → Fits (f a b))
    → EachHolds (pairs f j m)
pairs-each f j zero h = tt
pairs-each f j (suc m) h =
    each-join _ _
    (range-each (f j) (suc j) m (λ k a. h j k (omega arith, omega arith) (
      let b = a.0 in omega (arith, b),
      let c = a.1 in omega (arith, c),
    ) a.0))
    (pairs-each f (suc j) m (λ a b x y l. h a b (
      let c = x.0 in omega (arith, c),
      let c = x.1 in omega (arith, c),
    ) (
      let c = y.0 in omega (arith, c),
      let c = y.1 in
          omega (arith, c),
    ) l))

module _ (q : ℕ) (r : 1 < suc q) (P : Presentation) (p-is : P.prime ≡ suc q) (v : IsPresentation P) where
  module _ (i m : ℕ) (n-is : i + m ≡ P.gens) (s : 0 < i) where
    abbrev mul : Tuple q m → Tuple q m → Tuple q m
    mul = times q P (suc i) m

    abbrev op : List ℕ → List ℕ → List ℕ
    op = product P (suc i) m

    abbrev L : Tuple q m → List ℕ
    L = list-of q m

    abbrev f : Tuple q m → Tuple q m
    f = twisted q P i m mul

    abbrev α : List ℕ → List ℕ
    α = alpha P op i m

    abbrev g : ℕ → Tuple q m
    g = generator-tuple q (suc i) m

    hom : IsHom mul op L
    hom = list-times q r P p-is v (suc i) m (omega (arith, n-is)) (omega arith)

    on-f : (x : Tuple q m) → L (f x) ≡ α (L x)
    on-f = list-twisted q r P p-is v i m n-is s mul op hom

    on-image : (j : ℕ) → L (f (g j)) ≡ α (generator (suc i) m j)
    on-image j = on-f (g j) ∙ ap α (list-generator q r (suc i) m j)

    pub w-is : L (word q i m (power_word P i)) ≡ drop i (power_word P i)
    w-is = list-word q P.prime P.gens i (power_word P i) p-is (v.power i s (omega (arith, n-is))) i m n-is

    pub power-left : (j : ℕ) → L (pow mul (identity-tuple q m) (f (g j)) (suc q)) ≡
        (power_test P op i m j).left
    power-left j =
        map-pow (identity-tuple q m) mul (identity m) op L hom (list-identity q m) (f (g j)) (suc q)
        ∙ ap₂ (pow op (identity m)) (on-image j) (sym p-is)

    pub power-right : (j : ℕ) → Among (suc i) m j
        → L (f (word q i m (power_word P j))) ≡ (power_test P op i m j).right
    power-right j a = on-f _ ∙ ap α (list-power q r P p-is v i m j n-is a)

    pub swap-left : (j k : ℕ) → L (mul (f (g k)) (f (g j))) ≡ (swap_test P op i m j k).left
    swap-left j k = hom _ _ ∙ ap₂ op (on-image k) (on-image j)

    pub swap-right : (j k : ℕ) → Among (suc i) m j → Among (suc i) m k → j < k
        → L (mul (mul (f (g j)) (f (g k))) (f (word q i m (commutator_word P k j)))) ≡
        (swap_test P op i m j k).right
    swap-right j k a b l =
        hom _ _ ∙ ap₂ op (hom _ _ ∙ ap₂ op (on-image j) (on-image k))
        (on-f _ ∙ ap α (list-word q P.prime P.gens k (commutator_word P k j) p-is
        (v.commutator k j (let c = a.0 in omega (arith, c)) l
        (let c = b.1 in omega (arith, c, n-is))) i m n-is))

    pub fixed-left : L (f (word q i m (power_word P i))) ≡ (fixed_test P op i m).left
    fixed-left = on-f _ ∙ ap α w-is

    pub twist-left : (j : ℕ) → L (mul (word q i m (power_word P i)) (iterate f (suc q) (g j))) ≡
        (twist_test P op i m j).left
    twist-left j =
        hom _ _ ∙ ap₂ op w-is (list-iterate q m f α on-f (suc q) (g j)
        ∙ ap₂ (iterate α) (sym p-is) (list-generator q r (suc i) m j))

    pub twist-right : (j : ℕ) → L (mul (g j) (word q i m (power_word P i))) ≡ (twist_test P op i m j).right
    twist-right j = hom _ _ ∙ ap₂ op (list-generator q r (suc i) m j) w-is

    abbrev last : List Equation
    last = fixed_test P op i m ∷ map (twist_test P op i m) (range (suc i) m)

    pub each-holds : EachHolds (equations P op i m) → Holds q P i m
    each-holds h =
        let a = each-split (map (power_test P op i m) (range (suc i) m))
        (pairs (swap_test P op i m) (suc i) m ++ last) h in
        let b = each-split (pairs (swap_test P op i m) (suc i) m) last a.1 in
        record {
          power = λ j x. list-inj q m _ _ (power-left j ∙ each-range (power_test P op i m) (suc i) m a.0 j x
              ∙ sym (power-right j x));
          swap = λ j k x y l. list-inj q m _ _ (swap-left j k
              ∙ each-pairs (swap_test P op i m) (suc i) m b.0 j k x y l ∙ sym (swap-right j k x y l));
          fixed = list-inj q m _ _ (fixed-left ∙ b.1.0 ∙ sym w-is);
          twist = λ j x. list-inj q m _ _ (twist-left j ∙ each-range (twist_test P op i m) (suc i) m b.1.1 j x
              ∙ sym (twist-right j));
        }

    pub holds-each : Holds q P i m → EachHolds (equations P op i m)
    holds-each h =
        each-join (map (power_test P op i m) (range (suc i) m)) (pairs (swap_test P op i m) (suc i) m ++ last)
        (range-each (power_test P op i m) (suc i) m (λ j x. sym (power-left j) ∙ ap L (h.power j x)
        ∙ power-right j x))
        (each-join (pairs (swap_test P op i m) (suc i) m) last
        (pairs-each (swap_test P op i m) (suc i) m (λ j k x y l. sym (swap-left j k) ∙ ap L (h.swap j k x y l)
        ∙ swap-right j k x y l)) (
          sym fixed-left ∙ ap L h.fixed ∙ w-is,
          range-each (twist_test P op i m) (suc i) m (λ j x. sym (twist-left j) ∙ ap L (h.twist j x)
              ∙ twist-right j),
        ))

  pub all-hold : (i m : ℕ) → i + m ≡ suc P.gens → 0 < i → EachHolds (tests P i m) → AllHold q P i m
  all-hold i zero e s h = tt
  all-hold i (suc m) e s h =
      let a = each-split (tests P (suc i) m) _ h in
      (all-hold (suc i) m (omega (arith, e)) (omega arith) a.0, each-holds i m (omega (arith, e)) s a.1)

  pub hold-all : (i m : ℕ) → i + m ≡ suc P.gens → 0 < i → AllHold q P i m → EachHolds (tests P i m)
  hold-all i zero e s h = tt
  hold-all i (suc m) e s h =
      each-join _ _ (hold-all (suc i) m (omega (arith, e)) (omega arith) h.0)
      (holds-each i m (omega (arith, e)) s h.1)
