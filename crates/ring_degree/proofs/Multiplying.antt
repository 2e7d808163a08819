-- Products of generators with monomials, exponent by exponent.
use Rattle.std.proofs.Common.{◌≡◌, ◌≢◌, ℕ, zero, suc, ◌+◌, ◌*◌, ◌%◌, ◌<◌, ◌≤◌, max, Bool, true, false, not}
use Rattle.std.proofs.Common.{◌&&◌, ◌||◌, eqb, leb, List, [], ◌∷◌, ◌++◌, ◌⊎◌, inl, inr, length, take, get_or}
use Rattle.std.proofs.Common.{add-one, arith, ap, ap₂, sym, ◌∙◌, refl}
use Rattle.std.proofs.lemmas.Bool.{cases_eq, cases_lt, false≢true}
use Rattle.std.proofs.lemmas.List.{get_or_push, get_or_append_left, get_or_past}
use Rattle.linear_algebra.specs.Modular.{IsCongruent}
use Rattle.linear_algebra.proofs.Congruences.{congruent_add, congruent_mul_right, congruent_mod, congruent_eq}
use Rattle.graded_polynomials.specs.Monomials.{exponent, degree, fits, is_exterior, joined, sign, swaps}
use Rattle.graded_polynomials.specs.Monomials.{IsTrimmed}
use Rattle.graded_polynomials.specs.Texts.{power}
use Rattle.graded_polynomials.proofs.Exponents.{exponent-joined, same-exponents}
use Rattle.graded_polynomials.proofs.Monomials.{trimmed-joined}
use Rattle.graded_polynomials.proofs.Terms.{eqb-true, eqb-false}
use Rattle.graded_algebra.proofs.Ideals.{degree-nil, fits-nil, swaps-nil}
use Rattle.gc_poly.proofs.Joining.{joined-step, joined-end, fits-not}
use Rattle.ring_completion.specs.Listings.{without_factor}
use Rattle.ring_completion.proofs.Factors.{joined-right, length-power, power-here}
use Rattle.ring_completion.proofs.Listings.{degree-power, without-trimmed, without-joined}
use Rattle.ring_completion.proofs.Quotients.{power-trimmed}

-- one more exponent of generator i times s
pub raised-step : (s m n : List ℕ) (i k x y : ℕ) → m ≡ take k (joined (power i 1) s)
    → k < max (length s) (i + 1) → x ≡ exponent s k → y ≡ exponent (power i 1) k + x → n ≡ m ++ y ∷ []
    → n ≡ take (k + 1) (joined (power i 1) s)
raised-step s m n i k x y e l f g h = joined-step (power i 1) s m n k (exponent (power i 1) k) x e
    (omega (arith, l, length-power i 1)) refl f (h ∙ ap (λ z. m ++ z ∷ []) g)

pub raised-is : (s m p : List ℕ) (i k : ℕ) → m ≡ take k (joined (power i 1) s) → max (length s) (i + 1) ≤ k
    → IsTrimmed s → IsTrimmed p → ((j : ℕ) → exponent p j ≡ exponent m j) → p ≡ joined (power i 1) s
raised-is s m p i k e l t u h = same-exponents p (joined (power i 1) s) u
    (trimmed-joined (power i 1) s (power-trimmed i) t)
    (λ j. h j ∙ ap (λ x. exponent x j) (joined-end (power i 1) s m k e (omega (arith, l, length-power i 1))))

-- what generator k adds to the degree
degree-more : (ds s : List ℕ) (k : ℕ) → k < length ds
    → degree (take (suc k) ds) s ≡ degree (take k ds) s + get_or ds k 0 * exponent s k
degree-more [] s k l = absurd (omega (arith, l))
degree-more (d ∷ ds) [] zero l = omega arith
degree-more (d ∷ ds) (e ∷ s) zero l = omega arith
degree-more (d ∷ ds) [] (suc k) l = omega arith
degree-more (d ∷ ds) (e ∷ s) (suc k) l = let h = degree-more ds s k (omega (arith, l)) in omega (arith, h)

pub parity-step : (ds s : List ℕ) (k t d x : ℕ) → k < length ds → t ≡ degree (take k ds) s % 2
    → d ≡ get_or ds k 0 → x ≡ exponent s k → (t + d * x) % 2 ≡ degree (take (k + 1) ds) s % 2
parity-step ds s k t d x l e f g =
    let h : IsCongruent 2 (t + d * x) (degree (take k ds) s + d * x) =
    congruent_add (rw e (congruent_mod (degree (take k ds) s))) (congruent_eq refl) in
    h.same_remainder ∙ ap (λ n. n % 2) (rw (f, g, add-one) (sym (degree-more ds s k l)))

-- generator i goes past the factors before it
swaps-before : (ds s : List ℕ) (i : ℕ) → i < length ds
    → swaps ds (power i 1) s ≡ degree (take i ds) s * get_or ds i 0
swaps-before [] s i l = absurd (omega (arith, l))
swaps-before (d ∷ ds) [] zero l = omega arith
swaps-before (d ∷ ds) (e ∷ s) zero l = let a = degree-nil ds in let b = swaps-nil ds s in rw (a, b)
    (omega arith)
swaps-before (d ∷ ds) [] (suc i) l = omega arith
swaps-before (d ∷ ds) (e ∷ s) (suc i) l =
    ap₂ (λ a b. a * (d * e) + b) (degree-power ds i (omega (arith, l)))
    (swaps-before ds s i (omega (arith, l)))
    ∙ together (get_or ds i 0) (d * e) (degree (take i ds) s)
  where
    together : (a b c : ℕ) → a * b + c * a ≡ (b + c) * a
    together a b c = grind arith

pub parity-of-swaps : (ds s : List ℕ) (i t d : ℕ) → i < length ds → t ≡ degree (take i ds) s % 2
    → d ≡ get_or ds i 0 → t * d % 2 ≡ swaps ds (power i 1) s % 2
parity-of-swaps ds s i t d l e f =
    let h : IsCongruent 2 (t * d) (degree (take i ds) s * d) =
    congruent_mul_right d (rw e (congruent_mod (degree (take i ds) s))) in
    h.same_remainder ∙ ap (λ n. n % 2) (rw f (sym (swaps-before ds s i l)))

pub sign-even : (q n : ℕ) → n % 2 ≡ 0 → 1 ≡ sign q n
sign-even q n e = rw e refl

pub sign-odd : (q n : ℕ) → n % 2 ≢ 0 → q ≡ sign q n
sign-odd q n e = rw (eqb-false (n % 2) 0 e) refl

-- the exponents of a quotient
pub without-exponent : (i j : ℕ) (m : List ℕ) → 1 ≤ exponent m i
    → exponent (power i 1) j + exponent (without_factor i m) j ≡ exponent m j
without-exponent i j m l = sym (exponent-joined (power i 1) (without_factor i m) j)
    ∙ ap (λ x. exponent x j) (without-joined i m l)

pub quotient-step : (xs ys m : List ℕ) (i k x : ℕ) → 1 ≤ exponent m i → length xs ≡ k
    → ((j : ℕ) → j < k → exponent xs j ≡ exponent (without_factor i m) j)
    → exponent (power i 1) k + x ≡ exponent m k → ys ≡ xs ++ x ∷ []
    → (j : ℕ) → j < k + 1 → exponent ys j ≡ exponent (without_factor i m) j
quotient-step xs ys m i k x p c h e f j l = rw f (go (cases_eq j k))
  where
    go : (j ≡ k) ⊎ (j ≡ k → ⊥) → exponent (xs ++ x ∷ []) j ≡ exponent (without_factor i m) j
    go (inl z) = rw z (get_or_push xs x 0 k c
        ∙ (let a = without-exponent i k m p in omega (arith, a, e)))
    go (inr z) = get_or_append_left xs (x ∷ []) 0 j (omega (arith, c, l, z)) ∙ h j (omega (arith, l, z))

pub quotient-is : (xs m n : List ℕ) (i k : ℕ) → 1 ≤ exponent m i → length xs ≡ k → length m ≤ k
    → ((j : ℕ) → j < k → exponent xs j ≡ exponent (without_factor i m) j) → IsTrimmed m → IsTrimmed n
    → ((j : ℕ) → exponent n j ≡ exponent xs j) → n ≡ without_factor i m
quotient-is xs m n i k p c l h t u e = same-exponents n (without_factor i m) u (without-trimmed i m t)
    (λ j. e j ∙ go j (cases_lt j k))
  where
    go : (j : ℕ) → (j < k) ⊎ (k ≤ j) → exponent xs j ≡ exponent (without_factor i m) j
    go j (inl b) = h j b
    go j (inr b) = let a : exponent xs j ≡ 0 = get_or_past xs j 0 (omega (arith, c, b)) in
        let z : exponent m j ≡ 0 = get_or_past m j 0 (omega (arith, l, b)) in
        let w = without-exponent i j m p in omega (arith, a, z, w)

and-parts : (b c : Bool) → (b && c) ≡ true → (b ≡ true) × (c ≡ true)
and-parts true c e = (refl, e)
and-parts false c e = absurd (false≢true e)

not-true : (b : Bool) → not b ≡ true → b ≡ false
not-true true e = absurd (false≢true e)
not-true false e = refl

-- an odd generator that is a factor
pub unfit-times : (q : ℕ) (ds s : List ℕ) (i : ℕ) → i < length ds → is_exterior q (get_or ds i 0) ≡ true
    → 0 < exponent s i → fits q ds (joined (power i 1) s) ≡ false
unfit-times q ds s i l o b = let h = and-parts (not (eqb q 1)) (eqb (get_or ds i 0 % 2) 1) o in
    fits-not q ds (joined (power i 1) s) i (λ e. false≢true (sym (not-true (eqb q 1) h.0)
    ∙ ap (λ q. eqb q 1) e))
    l (eqb-true (get_or ds i 0 % 2) 1 h.1)
    (let a = exponent-joined (power i 1) s i in let c = power-here i 1 in omega (arith, a, b, c))

and-both : (b c : Bool) → b ≡ true → c ≡ true → (b && c) ≡ true
and-both true c e f = f
and-both false c e f = absurd (false≢true e)

allowed : (b : Bool) (e : ℕ) → (b ≡ true → e ≡ 0) → (not b || leb (1 + e) 1) ≡ true
allowed true e h = rw (h refl) refl
allowed false e h = refl

pub fit-times : (q : ℕ) (ds s : List ℕ) (i : ℕ) → fits q ds s ≡ true
    → (is_exterior q (get_or ds i 0) ≡ true → exponent s i ≡ 0) → fits q ds (joined (power i 1) s) ≡ true
fit-times q [] s i f h = refl
fit-times q (d ∷ ds) [] zero f h = and-both (not (is_exterior q d) || leb 1 1) (fits q ds [])
    (allowed (is_exterior q d) 0 (λ e. refl)) (fits-nil q ds)
fit-times q (d ∷ ds) (e ∷ s) zero f h = and-both (not (is_exterior q d) || leb (1 + e) 1) (fits q ds s)
    (allowed (is_exterior q d) e h) (and-parts (not (is_exterior q d) || leb e 1) (fits q ds s) f).1
fit-times q (d ∷ ds) [] (suc i) f h = and-both (not (is_exterior q d) || leb 0 1) (fits q ds (power i 1))
    (zero-allowed (is_exterior q d))
    (ap (fits q ds) (sym (joined-right (power i 1))) ∙ fit-times q ds [] i (fits-nil q ds) (λ e. refl))
  where
    zero-allowed : (b : Bool) → (not b || leb 0 1) ≡ true
    zero-allowed true = refl
    zero-allowed false = refl
fit-times q (d ∷ ds) (e ∷ s) (suc i) f h =
    let p = and-parts (not (is_exterior q d) || leb e 1) (fits q ds s) f in
    and-both (not (is_exterior q d) || leb (0 + e) 1) (fits q ds (joined (power i 1) s))
    (let z : 0 + e ≡ e = omega arith in rw z p.0) (fit-times q ds s i p.1 h)
