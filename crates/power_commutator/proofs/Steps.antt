-- What a program needs that computes by numbers and tables: a layer's table from the next one's, the tests by
-- numbers, and the
-- order of the tests.
use Rattle.std.proofs.Common.{◌≡◌, ℕ, zero, suc, refl, sym, ◌∙◌, ap, ap₂, subst, subst₂, ◌+◌, ◌-◌, ◌*◌, ◌/◌}
use Rattle.std.proofs.Common.{◌%◌, ◌^◌, ◌<◌, ◌≤◌, arith, Bool, true, false, eqb, ltb, if◌then◌else◌, List, []}
use Rattle.std.proofs.Common.{◌∷◌, ◌++◌, drop, Some, None, lt-ltb, le-ltb, ◌⊎◌, inl, inr, mod-eq_of_lt}
use Rattle.std.proofs.Common.{zero-lt-suc}
use Rattle.std.proofs.Math.Nat.{add-mul-mod_self_left, mul-add-div, div-eq_of_lt}
use Rattle.std.proofs.lemmas.Bool.Decides.{eqb_tells}
use Rattle.power_commutator.specs.Presentations.{Presentation, IsWord, IsPresentation, pow, iterate}
use Rattle.power_commutator.specs.Presentations.{ascending, identity, product, multiply, Equation, power_test}
use Rattle.power_commutator.specs.Presentations.{swap_test, fixed_test, twist_test, tests, same, first_false}
use Rattle.power_commutator.specs.Presentations.{number, word_of, power_word, commutator_word}
use Rattle.power_commutator.specs.Steps.{step_table, step_alpha}
use Rattle.power_commutator.specs.Claims.{table}
use Rattle.power_commutator.specs.declared.TestName.{TestName}
use Rattle.power_commutator.proofs.Group.{IsHom, map-pow}
use Rattle.power_commutator.proofs.Tuples.{residue-small, Tuple, list-of, tuple-of, identity-tuple}
use Rattle.power_commutator.proofs.Tuples.{generator-tuple, Among, ascending-same, map-ascending}
use Rattle.power_commutator.proofs.Cyclic.{less-or, put, put-less, put-more}
use Rattle.power_commutator.proofs.Dyck.{word, image, twisted, times}
use Rattle.power_commutator.proofs.Lists.{list-identity, list-generator, list-word, list-power, list-times}
use Rattle.power_commutator.proofs.Numbers.{list-tuple, word-number-list, numbering, number-generator}
use Rattle.power_commutator.proofs.Tests.{power-left, power-right, swap-left, swap-right, fixed-left}
use Rattle.power_commutator.proofs.Tests.{twist-left, twist-right, w-is, same-eq, same-self}

-- the number of a tuple
abbrev pub num : (p q m : ℕ) → Tuple q m → ℕ
num p q m x = number p (list-of q m x)

iterate-map : {A : Type 0} (f : A → A) (h : ℕ → ℕ) (n : A → ℕ) → ((x : A) → n (f x) ≡ h (n x))
    → (e : ℕ) (x : A) → n (iterate f e x) ≡ iterate h e (n x)
iterate-map f h n s zero x = refl
iterate-map f h n s (suc e) x = s (iterate f e x) ∙ ap h (iterate-map f h n s e x)

-- equal numbers, equal lists
pub number-inj : (q m : ℕ) (x y : List ℕ) → IsWord (suc q) m 0 x → IsWord (suc q) m 0 y
    → number (suc q) x ≡ number (suc q) y → x ≡ y
number-inj q m x y v w e =
    let N = numbering q m in
    sym (N.word-number x v) ∙ ap (word_of (suc q) m) e ∙ N.word-number y w

pub same-number : (q m : ℕ) (x y : List ℕ) → IsWord (suc q) m 0 x → IsWord (suc q) m 0 y
    → same x y ≡ eqb (number (suc q) x) (number (suc q) y)
same-number q m x y v w = go (eqb_tells (number (suc q) x) (number (suc q) y)) (same x y) refl
  where
    go : ((eqb (number (suc q) x) (number (suc q) y) ≡ true) × (number (suc q) x ≡ number (suc q) y))
        ⊎ ((eqb (number (suc q) x) (number (suc q) y) ≡ false) × (number (suc q) x ≡ number (suc q) y → ⊥))
        → (b : Bool) → same x y ≡ b → same x y ≡ eqb (number (suc q) x) (number (suc q) y)
    go (inl h) b e = ap (λ t. same t y) (number-inj q m x y v w h.1) ∙ same-self y ∙ sym h.0
    go (inr h) true e = absurd (h.1 (ap (number (suc q)) (same-eq x y e)))
    go (inr h) false e = e ∙ sym h.0

module _ (q : ℕ) (r : 1 < suc q) (P : Presentation) (p-is : P.prime ≡ suc q) (v : IsPresentation P) where
  abbrev p : ℕ
  p = P.prime

  -- t is the product of layer i by numbers
  abbrev pub IsTable : (i m : ℕ) → (ℕ → ℕ → ℕ) → Type 0
  IsTable i m t = IsHom (times q P i m) t (num P.prime q m)

  num-word : (m : ℕ) (x : Tuple q m) → word_of p m (num P.prime q m x) ≡ list-of q m x
  num-word m x = ap (λ p. word_of p m (number p (list-of q m x))) p-is ∙ word-number-list q m x

  num-identity : (m : ℕ) → num P.prime q m (identity-tuple q m) ≡ 0
  num-identity m = ap (number p) (list-identity q m) ∙ ap (λ p. number p (identity m)) p-is
      ∙ (numbering q m).one

  num-generator : (i m j : ℕ) → Among i m j → num P.prime q m (generator-tuple q i m j) ≡ p ^ (j - i)
  num-generator i m j a = ap (number p) (list-generator q r i m j) ∙ number-generator p i m j a.0 a.1

  module _ (i m : ℕ) (n-is : i + m ≡ P.gens) (s : 0 < i) (t : ℕ → ℕ → ℕ) (T : IsTable (suc i) m t) where
    abbrev f : Tuple q m → Tuple q m
    f = twisted q P i m (times q P (suc i) m)

    abbrev A : ℕ → ℕ
    A = step_alpha P t i m

    abbrev nm : Tuple q m → ℕ
    nm = num P.prime q m

    pub alpha-number : (x : Tuple q m) → num P.prime q m
        (twisted q P i m (times q P (suc i) m) x) ≡ step_alpha P t i m (num P.prime q m x)
    alpha-number x =
        map-ascending (identity-tuple q m) (times q P (suc i) m) 0 t nm T (num-identity m)
        (image q P i m (times q P (suc i) m)) (suc i) (list-of q m x)
        ∙ ascending-same q 0 t (λ j. nm (image q P i m (times q P (suc i) m) j))
        (λ j. t (p ^ (j - suc i)) (number p (drop i (commutator_word P j i)))) (suc i) m
        (λ j a. T _ _ ∙ ap₂ t (num-generator (suc i) m j a)
        (ap (number p) (list-word q P.prime P.gens j (commutator_word P j i) p-is
        (v.commutator j i s a.0 (let b = a.1 in omega (arith, b, n-is))) i m n-is))) x
        ∙ ap (ascending t 0 (λ j. t (p ^ (j - suc i)) (number p (drop i (commutator_word P j i)))) (suc i))
        (sym (num-word m x))

    w-number : num P.prime q m (word q i m (power_word P i)) ≡ number p (drop i (power_word P i))
    w-number = ap (number p) (w-is q r P p-is v i m n-is s)

    first-mod : (x : Tuple q (suc m)) → num P.prime q (suc m) x % p ≡ x.0.0
    first-mod x =
        ap (λ p. (x.0.0 + p * number p (list-of q m x.1)) % p) p-is
        ∙ add-mul-mod_self_left x.0.0 (suc q) (number (suc q) (list-of q m x.1)) ∙ mod-eq_of_lt x.0.1

    rest-div : (x : Tuple q (suc m)) → num P.prime q (suc m) x / p ≡ nm x.1
    rest-div x =
        let k : ℕ = number (suc q) (list-of q m x.1) in
        ap (λ p. (x.0.0 + p * number p (list-of q m x.1)) / p) p-is
        ∙ ap (λ t. t / suc q) (let e : x.0.0 + suc q * k ≡ suc q * k + x.0.0 = omega arith in e)
        ∙ mul-add-div (zero-lt-suc q) k x.0.0 ∙ ap (λ t. k + t) (div-eq_of_lt x.0.1)
        ∙ (let e : k + 0 ≡ k = omega arith in e)
        ∙ ap (λ p. number p (list-of q m x.1)) (sym p-is)

    put-number : (w : Tuple q m) (k : ℕ) (x : Tuple q m) → k < suc q + suc q
        → num P.prime q (suc m) (put q (times q P (suc i) m) w k x) ≡
        (if (ltb k p) then (k + p * nm x) else ((k - p) + p * t (nm w) (nm x)))
    put-number w k x h = go (less-or k (suc q))
      where
        go : (k < suc q) ⊎ (suc q ≤ k)
            → num P.prime q (suc m) (put q (times q P (suc i) m) w k x) ≡
            (if (ltb k p) then (k + p * nm x) else ((k - p) + p * t (nm w) (nm x)))
        go (inl l) =
            ap (num P.prime q (suc m)) (put-less q (times q P (suc i) m) w k x l)
            ∙ ap (λ a. a + p * nm x) (residue-small q k l)
            ∙ ap (λ b. if b then (k + p * nm x) else ((k - p) + p * t (nm w) (nm x)))
            (sym (lt-ltb k p (omega (arith, l, p-is))))
        go (inr l) =
            ap (num P.prime q (suc m)) (put-more q (times q P (suc i) m) w k x l)
            ∙ ap₂ (λ a b. a + p * b) (residue-small q (k - suc q) (omega (arith, h))
            ∙ ap (λ a. k - a) (sym p-is)) (T w x)
            ∙ ap (λ b. if b then (k + p * nm x) else ((k - p) + p * t (nm w) (nm x)))
            (sym (le-ltb k p (omega (arith, l, p-is))))

    -- the table of layer i
    pub table-step : IsTable i (suc m) (step_table P.prime t (number P.prime (drop i (power_word P i)))
        (step_alpha P t i m))
    table-step x y =
        put-number (word q i m (power_word P i)) (x.0.0 + y.0.0) _
        (let a : x.0.0 < suc q = x.0.1 in let b : y.0.0 < suc q = y.0.1 in omega (arith, a, b))
        ∙ ap₂ (λ w z. if (ltb (x.0.0 + y.0.0) p) then (x.0.0 + y.0.0 + p * z) else
        ((x.0.0 + y.0.0 - p) + p * t w z)) w-number
        (T _ _ ∙ ap (λ b. t b (nm y.1)) (iterate-map f A nm alpha-number y.0.0 x.1))
        ∙ sym
        (ap₂ (λ a b. let c = a + b in let z = t (iterate A b (num P.prime q (suc m) x / p))
        (num P.prime q (suc m) y / p) in
        if (ltb c p) then (c + p * z) else ((c - p) + p * t (number P.prime (drop i (power_word P i))) z))
        (first-mod x) (first-mod y)
        ∙ ap₂ (λ a b. let z = t (iterate A y.0.0 a) b in
        if (ltb (x.0.0 + y.0.0) p) then (x.0.0 + y.0.0 + p * z) else
        ((x.0.0 + y.0.0 - p) + p * t (number P.prime (drop i (power_word P i))) z)) (rest-div x)
        (rest-div y))

    -- the two sides of each test by numbers
    abbrev op : List ℕ → List ℕ → List ℕ
    op = product P (suc i) m

    abbrev g : ℕ → Tuple q m
    g = generator-tuple q (suc i) m

    image-number : (j : ℕ) → Among (suc i) m j → nm (f (g j)) ≡ A (p ^ (j - suc i))
    image-number j a = alpha-number (g j) ∙ ap A (num-generator (suc i) m j a)

    pub power-numbers : (j : ℕ) → Among (suc i) m j
        → (number P.prime (power_test P (product P (suc i) m) i m j).left ≡ pow t 0
        (step_alpha P t i m (P.prime ^ (j - suc i))) P.prime)
        × (number P.prime (power_test P (product P (suc i) m) i m j).right ≡ step_alpha P t i m
        (number P.prime (drop i (power_word P j))))
    power-numbers j a = (
      ap (number p) (sym (power-left q r P p-is v i m n-is s j))
          ∙ map-pow (identity-tuple q m) (times q P (suc i) m) 0 t nm T (num-identity m) (f (g j)) (suc q)
          ∙ ap₂ (pow t 0) (image-number j a) (sym p-is),
      ap (number p) (sym (power-right q r P p-is v i m n-is s j a))
          ∙ alpha-number _ ∙ ap A (ap (number p) (list-power q r P p-is v i m j n-is a)),
    )

    pub swap-numbers : (j k : ℕ) → Among (suc i) m j → Among (suc i) m k → j < k
        → (number P.prime (swap_test P (product P (suc i) m) i m j k).left
        ≡ t (step_alpha P t i m (P.prime ^ (k - suc i))) (step_alpha P t i m (P.prime ^ (j - suc i))))
        × (number P.prime (swap_test P (product P (suc i) m) i m j k).right
        ≡ t (t (step_alpha P t i m (P.prime ^ (j - suc i))) (step_alpha P t i m (P.prime ^ (k - suc i))))
        (step_alpha P t i m (number P.prime (drop i (commutator_word P k j)))))
    swap-numbers j k a b l = (
      ap (number p) (sym (swap-left q r P p-is v i m n-is s j k)) ∙ T _ _
          ∙ ap₂ t (image-number k b) (image-number j a),
      ap (number p) (sym (swap-right q r P p-is v i m n-is s j k a b l)) ∙ T _ _
          ∙ ap₂ t (T _ _ ∙ ap₂ t (image-number j a) (image-number k b))
          (alpha-number _
          ∙ ap A (ap (number p) (list-word q P.prime P.gens k (commutator_word P k j) p-is
          (v.commutator k j (let c = a.0 in omega (arith, c)) l
          (let c = b.1 in omega (arith, c, n-is))) i m n-is))),
    )

    pub fixed-number : number P.prime (fixed_test P (product P (suc i) m) i m).left ≡ step_alpha P t i m
        (number P.prime (drop i (power_word P i)))
    fixed-number = ap (number p) (sym (fixed-left q r P p-is v i m n-is s)) ∙ alpha-number _ ∙ ap A w-number

    pub twist-numbers : (j : ℕ) → Among (suc i) m j
        → (number P.prime (twist_test P (product P (suc i) m) i m j).left
        ≡ t (number P.prime (drop i (power_word P i)))
        (iterate (step_alpha P t i m) P.prime (P.prime ^ (j - suc i))))
        × (number P.prime (twist_test P (product P (suc i) m) i m j).right ≡ t (P.prime ^ (j - suc i))
        (number P.prime (drop i (power_word P i))))
    twist-numbers j a = (
      ap (number p) (sym (twist-left q r P p-is v i m n-is s j)) ∙ T _ _
          ∙ ap₂ t w-number (iterate-map f A nm alpha-number (suc q) (g j)
          ∙ ap₂ (iterate A) (sym p-is) (num-generator (suc i) m j a)),
      ap (number p) (sym (twist-right q r P p-is v i m n-is s j)) ∙ T _ _
          ∙ ap₂ t (num-generator (suc i) m j a) w-number,
    )

-- the order of the tests: each after those before it
pub first-skip : (es fs : List Equation) → first_false es ≡ None → first_false (es ++ fs) ≡ first_false fs
first-skip [] fs h = refl
first-skip (e ∷ es) fs h = go (same e.left e.right) refl h (first-skip es fs)
  where
    go : (b : Bool) → same e.left e.right ≡ b → (if b then (first_false es) else (Some e.name)) ≡ None
        → (first_false es ≡ None → first_false (es ++ fs) ≡ first_false fs)
        → (if b then (first_false (es ++ fs)) else (Some e.name)) ≡ first_false fs
    go true s h ih = ih h
    go false s h ih = absurd (grind arith)

pub first-stop : (es fs : List Equation) (x : TestName) → first_false es ≡ Some x
    → first_false (es ++ fs) ≡ Some x
first-stop [] fs x h = absurd (grind arith)
first-stop (e ∷ es) fs x h = go (same e.left e.right) h (first-stop es fs x)
  where
    go : (b : Bool) → (if b then (first_false es) else (Some e.name)) ≡ Some x
        → (first_false es ≡ Some x → first_false (es ++ fs) ≡ Some x)
        → (if b then (first_false (es ++ fs)) else (Some e.name)) ≡ Some x
    go true h ih = ih h
    go false h ih = h

-- a fault of a later layer is the first fault
pub layer-fault : (P : Presentation) (x : TestName) (d i m k s : ℕ) → k ≡ i + d → s ≡ m + d
    → first_false (tests P k m) ≡ Some x → first_false (tests P i s) ≡ Some x
layer-fault P x zero i m k s e l h = subst₂ (λ a b. first_false (tests P a b) ≡ Some x)
    (let z : k ≡ i = omega (arith, e) in z) (let z : m ≡ s = omega (arith, l) in z) h
layer-fault P x (suc d) i m k s e l h =
    subst (λ b. first_false (tests P i b) ≡ Some x) (let z : suc (m + d) ≡ s = omega (arith, l) in z)
    (first-stop (tests P (suc i) (m + d)) _ x
    (layer-fault P x d (suc i) m k (m + d) (omega (arith, e)) refl h))

module _ (q : ℕ) (r : 1 < suc q) (P : Presentation) (p-is : P.prime ≡ suc q) (v : IsPresentation P) where
  -- the last layer, and the first one
  pub table-last : (i : ℕ) → IsTable q r P p-is v i 0 (λ a b. 0)
  table-last i x y = refl

  pub table-first : (t : ℕ → ℕ → ℕ) → IsTable q r P p-is v 1 P.gens t
      → (a b : ℕ) → a < P.prime ^ P.gens → b < P.prime ^ P.gens → table P a b ≡ t a b
  table-first t T a b h k =
      ap (number P.prime)
      (ap₂ (multiply P) (sym (is-list a)) (sym (is-list b))
      ∙ sym (list-times q r P p-is v 1 P.gens (omega arith) (omega arith) (tup a) (tup b)))
      ∙ T (tup a) (tup b) ∙ ap₂ t (tup-number a h) (tup-number b k)
    where
      tup : ℕ → Tuple q P.gens
      tup a = tuple-of q P.gens (word_of P.prime P.gens a)

      is-list : (a : ℕ) → list-of q P.gens
          (tuple-of q P.gens (word_of P.prime P.gens a)) ≡ word_of P.prime P.gens a
      is-list a = list-tuple q P.gens _ (subst (λ p. IsWord (suc q) P.gens 0 (word_of p P.gens a)) (sym p-is)
          ((numbering q P.gens).word-is a))

      tup-number : (a : ℕ) → a < P.prime ^ P.gens
          → number P.prime (list-of q P.gens (tuple-of q P.gens (word_of P.prime P.gens a))) ≡ a
      tup-number a h =
          ap (number P.prime) (is-list a)
          ∙ ap (λ p. number p (word_of p P.gens a)) p-is
          ∙ (numbering q P.gens).number-word a
          (let e : P.prime ^ P.gens ≡ suc q ^ P.gens = ap (λ p. p ^ P.gens) p-is in omega (arith, h, e))
