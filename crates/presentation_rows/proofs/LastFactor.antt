-- The value of a monomial by its last factor.
use Rattle.std.proofs.Common.{◌≡◌, ℕ, zero, suc, ◌+◌, ◌*◌, ◌<◌, ◌≤◌, List, [], ◌∷◌, Bool, true, false, not}
use Rattle.std.proofs.Common.{◌||◌, ◌&&◌, leb, ◌⊎◌, inl, inr, arith, ap, ap₂, sym, ◌∙◌, refl}
use Rattle.std.specs.Prelude.{slice_index_or}
use Rattle.std.proofs.lemmas.Bool.{cases_order}
use Rattle.std.proofs.lemmas.Bool.Decides.{nat_tests}
use Rattle.graded_polynomials.specs.Monomials.{exponent, degree, fits, is_exterior, IsWithin, IsTrimmed}
use Rattle.graded_polynomials.specs.Monomials.{IsMonomial}
use Rattle.graded_polynomials.proofs.Exponents.{same-exponents}
use Rattle.graded_polynomials.proofs.Terms.{false≢true}
use Rattle.graded_algebra.specs.Algebras.{Algebra, Generator, degrees, powers, evaluate, evaluate_from}
use Rattle.graded_algebra.proofs.Ideals.{degree-nil, fits-nil}
use Rattle.presentation_rows.specs.Factors.{IsLastFactor}

abbrev IsBelow : List ℕ → List ℕ → Type 0
IsBelow n m = (j : ℕ) → exponent n j ≤ exponent m j

not-empty : (y : ℕ) (n : List ℕ) → IsTrimmed (y ∷ n) → IsBelow (y ∷ n) [] → ⊥
not-empty y n t b = absurd (let e : (y ∷ n) ≡ [] = same-exponents (y ∷ n) [] t tt
    (λ j. let l = b j in omega (arith, l)) in cc e)

within-below : (ds m n : List ℕ) → IsWithin ds m → IsTrimmed n → IsBelow n m → IsWithin ds n
within-below ds m [] w t b = tt
within-below [] [] (y ∷ n) w t b = absurd (not-empty y n t b)
within-below [] (x ∷ m) (y ∷ n) w t b = absurd w
within-below (d ∷ ds) [] (y ∷ n) w t b = absurd (not-empty y n t b)
within-below (d ∷ ds) (x ∷ m) (y ∷ n) w t b = within-below ds m n w t.1 (λ j. b (suc j))

leb-below : (x y : ℕ) → y ≤ x → leb x 1 ≡ true → leb y 1 ≡ true
leb-below x y l h = grind (arith, nat_tests)

fits-below : (q : ℕ) (ds m n : List ℕ) → fits q ds m ≡ true → IsTrimmed n → IsBelow n m → fits q ds n ≡ true
fits-below q ds m [] f t b = fits-nil q ds
fits-below q [] m (y ∷ n) f t b = refl
fits-below q (d ∷ ds) [] (y ∷ n) f t b = absurd (not-empty y n t b)
fits-below q (d ∷ ds) (x ∷ m) (y ∷ n) f t b =
    go (is_exterior q d) (leb x 1) (fits q ds m) (leb-below x y (b 0)) f
    (λ g. fits-below q ds m n g t.1 (λ j. b (suc j)))
  where
    go : (e : Bool) (c f : Bool) → (c ≡ true → leb y 1 ≡ true) → ((not e || c) && f) ≡ true
        → (f ≡ true → fits q ds n ≡ true)
        → ((not e || leb y 1) && fits q ds n) ≡ true
    go true true f k h r = rw (k refl, r h) refl
    go true false f k h r = false≢true h
    go false c f k h r = r h

shift : {i x y : ℕ} {m n : List ℕ} → IsLastFactor (suc i) (y ∷ n) (x ∷ m) → IsLastFactor i n m
shift h = record {
  before = λ j b. h.before (suc j) (omega arith);
  here = h.here;
  after = λ j b. h.after (suc j) (omega arith);
}

shift-empty : {i x : ℕ} {m : List ℕ} → IsLastFactor (suc i) [] (x ∷ m) → IsLastFactor i [] m
shift-empty h = record {
  before = λ j b. h.before (suc j) (omega arith);
  here = h.here;
  after = λ j b. (((h.after (suc j) (omega arith)).0), refl);
}

no-factor : {i : ℕ} {n : List ℕ} → IsLastFactor i n [] → ⊥
no-factor {i} {n} h = absurd (let z : 0 ≡ suc (exponent n i) = h.here in omega (arith, z))

pub from-nil : {V : Type 0} (A : Algebra V) (j : ℕ) (a : V) (gs : List (Generator V))
    → evaluate_from A j a gs [] ≡ a
from-nil A j a [] = refl
from-nil A j a (g ∷ gs) = refl

-- the degree and the value of m = n times generator i
abbrev Factored : {V : Type 0} → Algebra V → ℕ → V → List (Generator V) → Generator V → List ℕ → List ℕ
    → Type 0
Factored A j a gs g m n =
    (degree (degrees gs) n + g.degree ≡ degree (degrees gs) m)
    × (evaluate_from A j a gs m ≡ A.mul (j + degree (degrees gs) n) g.degree
    (evaluate_from A j a gs n) g.class)

factored : {V : Type 0} (A : Algebra V) (i : ℕ) (gs : List (Generator V)) (g : Generator V) (m n : List ℕ)
    (j : ℕ) (a : V)
    → IsWithin (degrees gs) m → IsTrimmed m → IsTrimmed n → IsLastFactor i n m → slice_index_or gs i g ≡ g
    → Factored A j a gs g m n
factored A i gs g [] n j a w t u h e = absurd (no-factor h)
factored A i [] g (x ∷ m) n j a w t u h e = absurd w
factored A zero (k ∷ gs) g (x ∷ m) [] j a w t u h e =
    let p : m ≡ [] = same-exponents m [] t.1 tt (λ i. (h.after (suc i) (omega arith)).0) in
    let s : x ≡ 1 = h.here in
    let f : k ≡ g = e in
    rw (p, s, ← f) (
      (omega (arith, degree-nil (degrees gs))),
      from-nil A (j + k.degree * 1) (powers A j a k 1) gs
          ∙ ap (λ d. A.mul d k.degree a k.class) (let z : j + k.degree * 0 ≡ j + 0 = omega arith in z),
    )
factored A zero (k ∷ gs) g (x ∷ m) (y ∷ n) j a w t u h e =
    let p : m ≡ [] = same-exponents m [] t.1 tt (λ i. (h.after (suc i) (omega arith)).0) in
    let r : n ≡ [] = same-exponents n [] u.1 tt (λ i. (h.after (suc i) (omega arith)).1) in
    let s : x ≡ suc y = h.here in
    let f : k ≡ g = e in
    rw (p, r, s, ← f) (
      (omega (arith, degree-nil (degrees gs))),
      from-nil A (j + k.degree * suc y) (powers A j a k (suc y)) gs
          ∙ ap₂ (λ d v. A.mul d k.degree v k.class)
          (let z : j + k.degree * y ≡ j + (k.degree * y + degree (degrees gs) []) = omega (
            arith,
            degree-nil (degrees gs),
          ) in z)
          (sym (from-nil A (j + k.degree * y) (powers A j a k y) gs)),
    )
factored A (suc i) (k ∷ gs) g (x ∷ m) [] j a w t u h e =
    let z : x ≡ 0 = h.before 0 (omega arith) in
    let r = factored A i gs g m [] (j + k.degree * x) (powers A j a k x) w t.1 u (shift-empty h) e in (
      (let s = r.0 in rw z (omega (arith, s, degree-nil (degrees gs)))),
      r.1 ∙ ap₂ (λ d v. A.mul d g.degree v g.class)
          (let y : (j + k.degree * x) + degree (degrees gs) [] ≡ j + 0 = rw z
          (omega (arith, degree-nil (degrees gs))) in y)
          (from-nil A (j + k.degree * x) (powers A j a k x) gs ∙ ap (powers A j a k) z),
    )
factored A (suc i) (k ∷ gs) g (x ∷ m) (y ∷ n) j a w t u h e =
    let z : x ≡ y = h.before 0 (omega arith) in
    let r = factored A i gs g m n (j + k.degree * x) (powers A j a k x) w t.1 u.1 (shift h) e in (
      (let s = r.0 in rw z (omega (arith, s))),
      r.1 ∙ ap₂ (λ d v. A.mul d g.degree v g.class)
          (let c : (j + k.degree * x) + degree (degrees gs) n ≡ j +
          (k.degree * y + degree (degrees gs) n) = rw z (omega arith) in c)
          (ap (λ y. evaluate_from A (j + k.degree * y) (powers A j a k y) gs n) z),
    )

below-of : {i : ℕ} {m n : List ℕ} → IsLastFactor i n m → IsBelow n m
below-of {i} {m} {n} h j = go (cases_order j i)
  where
    go : (j ≡ i) ⊎ ((j < i) ⊎ (i < j)) → exponent n j ≤ exponent m j
    go (inl e) = rw e (let k = h.here in omega (arith, k))
    go (inr (inl l)) = let k = h.before j l in omega (arith, k)
    go (inr (inr l)) = let k = (h.after j l).1 in omega (arith, k)

pub value-by-factor : {V : Type 0} (q d i : ℕ) (A : Algebra V) (gs : List (Generator V)) (g : Generator V)
    (m n : List ℕ)
    → IsMonomial q (degrees gs) d m → IsTrimmed n → IsLastFactor i n m → slice_index_or gs i g ≡ g
    → (e : ℕ) × (e + g.degree ≡ d) × IsMonomial q (degrees gs) e n
    × (evaluate A gs m ≡ A.mul e g.degree (evaluate A gs n) g.class)
value-by-factor q d i A gs g m n M t h e = (
  degree (degrees gs) n,
  r.0 ∙ M.degree_is,
  record {
    within = within-below (degrees gs) m n M.within t (below-of h);
    trimmed = t;
    fitting = fits-below q (degrees gs) m n M.fitting t (below-of h);
    degree_is = refl;
  },
  r.1 ∙ ap (λ d. A.mul d g.degree (evaluate A gs n) g.class)
      (let z : 0 + degree (degrees gs) n ≡ degree (degrees gs) n = omega arith in z),
)
  where
    r : Factored A 0 A.one gs g m n
    r = factored A i gs g m n 0 A.one M.within M.trimmed t h e
