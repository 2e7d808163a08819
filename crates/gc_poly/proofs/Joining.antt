-- Products of monomials, exponent by exponent.
use Rattle.std.proofs.Common.{◌≡◌, ◌≢◌, ℕ, zero, suc, ◌+◌, ◌*◌, ◌%◌, ◌<◌, ◌≤◌, max, Bool, true, false, not}
use Rattle.std.proofs.Common.{◌&&◌, ◌||◌, eqb, leb, List, [], ◌∷◌, ◌++◌, length, take, drop, get_or, arith}
use Rattle.std.proofs.Common.{ap, sym, ◌∙◌, refl}
use Rattle.std.proofs.Math.Nat.{mul-le-mul_left}
use Rattle.std.proofs.lemmas.Bool.{false≢true}
use Rattle.std.proofs.lemmas.Bool.Decides.{nat_tests}
use Rattle.limits.specs.declared.TheConstants.{GREATEST_DEGREE}
use Rattle.linear_algebra.specs.Modular.{IsCongruent}
use Rattle.linear_algebra.proofs.Congruences.{congruent_add, congruent_mul_right, congruent_mod, congruent_eq}
use Rattle.graded_polynomials.specs.Monomials.{exponent, degree, fits, is_exterior, joined, swaps}
use Rattle.std.proofs.lemmas.List.{take_more, take_all}
use Rattle.graded_polynomials.proofs.Exponents.{exponent-joined}
use Rattle.graded_polynomials.proofs.Terms.{eqb-true, eqb-false}

pub length-joined : (a b : List ℕ) → length (joined a b) ≡ max (length a) (length b)
length-joined [] b = omega arith
length-joined (x ∷ a) [] = omega arith
length-joined (x ∷ a) (y ∷ b) = omega (arith, length-joined a b)

degree-nil : (ds : List ℕ) → degree ds [] ≡ 0
degree-nil [] = refl
degree-nil (d ∷ ds) = refl

swaps-nil-left : (ds b : List ℕ) → swaps ds [] b ≡ 0
swaps-nil-left [] b = refl
swaps-nil-left (d ∷ ds) b = refl

swaps-nil-right : (ds a : List ℕ) → swaps ds a [] ≡ 0
swaps-nil-right [] a = refl
swaps-nil-right (d ∷ ds) [] = refl
swaps-nil-right (d ∷ ds) (x ∷ a) = refl

drop-nil : (i : ℕ) → drop {A = ℕ} i [] ≡ []
drop-nil zero = refl
drop-nil (suc i) = refl

-- what generator i adds to the degree
pub degree-step : (ds a : List ℕ) (i : ℕ) → i < length ds
    → degree (drop i ds) (drop i a) ≡ get_or ds i 0 * exponent a i + degree (drop (suc i) ds) (drop (suc i) a)
degree-step [] a i l = absurd (omega arith)
degree-step (d ∷ ds) [] zero l = omega (arith, degree-nil ds)
degree-step (d ∷ ds) (x ∷ a) zero l = refl
degree-step (d ∷ ds) [] (suc i) l = rw (drop-nil i) at (degree-step ds [] i (omega arith))
degree-step (d ∷ ds) (x ∷ a) (suc i) l = degree-step ds a i (omega arith)

-- what generator i adds to the exchanges
pub swaps-step : (ds a b : List ℕ) (i : ℕ) → i < length ds
    → swaps (drop i ds) (drop i a) (drop i b) ≡ degree (drop (suc i) ds) (drop (suc i) a) *
    (get_or ds i 0 * exponent b i) + swaps (drop (suc i) ds) (drop (suc i) a) (drop (suc i) b)
swaps-step [] a b i l = absurd (omega arith)
swaps-step (d ∷ ds) [] b zero l = rw (degree-nil ds, swaps-nil-left ds (drop 1 b)) (omega arith)
swaps-step (d ∷ ds) (x ∷ a) [] zero l = rw (swaps-nil-right ds a) (omega arith)
swaps-step (d ∷ ds) (x ∷ a) (y ∷ b) zero l = refl
swaps-step (d ∷ ds) [] [] (suc i) l = rw (drop-nil i) at (swaps-step ds [] [] i (omega arith))
swaps-step (d ∷ ds) [] (y ∷ b) (suc i) l = rw (drop-nil i) at (swaps-step ds [] b i (omega arith))
swaps-step (d ∷ ds) (x ∷ a) [] (suc i) l = rw (drop-nil i) at (swaps-step ds a [] i (omega arith))
swaps-step (d ∷ ds) (x ∷ a) (y ∷ b) (suc i) l = swaps-step ds a b i (omega arith)

-- the counts modulo 2 of one more generator
pub parity-of-degree : (ds a : List ℕ) (i t d x : ℕ) → i < length ds
    → t ≡ degree (drop (suc i) ds) (drop (suc i) a) % 2 → d ≡ get_or ds i 0 → x ≡ exponent a i
    → (t + d * x) % 2 ≡ degree (drop i ds) (drop i a) % 2
parity-of-degree ds a i t d x l e f g =
    let h : IsCongruent 2 (t + d * x) (degree (drop (suc i) ds) (drop (suc i) a) + d * x) =
    congruent_add (rw e (congruent_mod (degree (drop (suc i) ds) (drop (suc i) a))))
    (congruent_eq refl) in
    h.same_remainder ∙ ap (λ n. n % 2) (rw (f, g) (omega (arith, degree-step ds a i l)))

pub parity-of-swaps : (ds a b : List ℕ) (i s t d y : ℕ) → i < length ds
    → s ≡ swaps (drop (suc i) ds) (drop (suc i) a) (drop (suc i) b) % 2
    → t ≡ degree (drop (suc i) ds) (drop (suc i) a) % 2
    → d ≡ get_or ds i 0 → y ≡ exponent b i → (s + t * d * y) % 2 ≡ swaps (drop i ds) (drop i a) (drop i b) % 2
parity-of-swaps ds a b i s t d y l e f g h =
    let k : IsCongruent 2 (s + t * (d * y))
    (swaps (drop (suc i) ds) (drop (suc i) a) (drop (suc i) b) + degree (drop (suc i) ds)
    (drop (suc i) a) * (d * y)) =
    congruent_add (rw e (congruent_mod (swaps (drop (suc i) ds) (drop (suc i) a) (drop (suc i) b))))
    (congruent_mul_right (d * y) (rw f (congruent_mod (degree (drop (suc i) ds) (drop (suc i) a))))) in
    ap (λ n. n % 2) (let z : s + t * d * y ≡ s + t * (d * y) = omega arith in z) ∙ k.same_remainder
    ∙ ap (λ n. n % 2) (rw (g, h) (omega (arith, swaps-step ds a b i l)))

pub small-products : (t d y : ℕ) → t < 2 → d ≤ GREATEST_DEGREE → y < 256 → (t * d ≤ GREATEST_DEGREE)
    × (t * d * y ≤ 6144) × (d * y ≤ 6144)
small-products zero d y h k l = (omega arith, omega arith, bound d y k l)
  where
    bound : (d y : ℕ) → d ≤ GREATEST_DEGREE → y < 256 → d * y ≤ 6144
    bound d y k l = let m : y ≤ 256 = omega arith in omega (arith, mul-le-mul_left d m)
small-products (suc zero) d y h k l = let m : y ≤ 256 = omega arith in
    (omega arith, omega (arith, mul-le-mul_left d m), omega (arith, mul-le-mul_left d m))
small-products (suc (suc t)) d y h k l = absurd (omega arith)

-- modulo 2 each product is a monomial
pub fits-two : (ds m : List ℕ) → fits 1 ds m ≡ true
fits-two [] m = refl
fits-two (d ∷ ds) [] = refl
fits-two (d ∷ ds) (x ∷ m) = fits-two ds m

and-true : (a b : Bool) → a ≡ true → b ≡ true → (a && b) ≡ true
and-true true b e f = f
and-true false b e f = e

or-true : (a b : Bool) → (a ≡ true → b ≡ true) → (not a || b) ≡ true
or-true true b h = h refl
or-true false b h = refl

left-true : (a b : Bool) → (a && b) ≡ true → b ≡ true
left-true true b e = e
left-true false b e = absurd (false≢true e)

leb-of : (x y : ℕ) → x ≤ y → leb x y ≡ true
leb-of x y l = grind (arith, nat_tests)

leb-not : (x y : ℕ) → y < x → leb x y ≡ false
leb-not x y l = grind (arith, nat_tests)

pub fits-all : (q : ℕ) (ds m : List ℕ) → ((k : ℕ) → k < length ds → get_or ds k 0 % 2 ≡ 1 → exponent m k ≤ 1)
    → fits q ds m ≡ true
fits-all q [] m h = refl
fits-all q (d ∷ ds) [] h = refl
fits-all q (d ∷ ds) (x ∷ m) h = and-true (not (is_exterior q d) || leb x 1) (fits q ds m)
    (or-true (is_exterior q d) (leb x 1)
    (λ e. leb-of x 1 (h 0 (omega arith)
    (eqb-true (d % 2) 1 (left-true (not (eqb q 1)) (eqb (d % 2) 1) e)))))
    (fits-all q ds m (λ k l o. h (suc k) (omega arith) o))

and-false : (a b : Bool) → b ≡ false → (a && b) ≡ false
and-false true b e = e
and-false false b e = refl

pub fits-not : (q : ℕ) (ds m : List ℕ) (k : ℕ) → q ≢ 1 → k < length ds → get_or ds k 0 % 2 ≡ 1
    → 1 < exponent m k → fits q ds m ≡ false
fits-not q [] m k n l o b = absurd (omega arith)
fits-not q (d ∷ ds) [] k n l o b = absurd (omega (arith, b))
fits-not q (d ∷ ds) (x ∷ m) zero n l o b = rw (eqb-false q 1 n, ap (λ y. eqb y 1) o, leb-not x 1 b) refl
fits-not q (d ∷ ds) (x ∷ m) (suc k) n l o b =
    and-false (not (is_exterior q d) || leb x 1) (fits q ds m) (fits-not q ds m k n (omega arith) o b)

pub swaps-end : (ds a b : List ℕ) (n : ℕ) → n ≡ length ds → 0 ≡ swaps (drop n ds) (drop n a) (drop n b) % 2
swaps-end ds a b n e = rw (e, drop-end ds) refl
  where
    drop-end : (ds : List ℕ) → drop (length ds) ds ≡ []
    drop-end [] = refl
    drop-end (d ∷ ds) = drop-end ds

pub degree-end : (ds a : List ℕ) (n : ℕ) → n ≡ length ds → 0 ≡ degree (drop n ds) (drop n a) % 2
degree-end ds a n e = rw (e, drop-end ds) refl
  where
    drop-end : (ds : List ℕ) → drop (length ds) ds ≡ []
    drop-end [] = refl
    drop-end (d ∷ ds) = drop-end ds

-- the step of the loop, which goes down from j to i
pub exchange-step : (ds a b : List ℕ) (i j s t d x y : ℕ) → j ≡ suc i → i < length ds
    → s ≡ swaps (drop j ds) (drop j a) (drop j b) % 2 → t ≡ degree (drop j ds) (drop j a) % 2
    → d ≡ get_or ds i 0 → x ≡ exponent a i → y ≡ exponent b i
    → ((s + t * d * y) % 2 ≡ swaps (drop i ds) (drop i a) (drop i b) % 2)
    × ((t + d * x) % 2 ≡ degree (drop i ds) (drop i a) % 2)
exchange-step ds a b i j s t d x y e l f g h k m = (
  parity-of-swaps ds a b i s t d y l (f ∙ ap (λ j. swaps (drop j ds) (drop j a) (drop j b) % 2) e) (g
      ∙ ap (λ j. degree (drop j ds) (drop j a) % 2) e) h m,
  parity-of-degree ds a i t d x l (g ∙ ap (λ j. degree (drop j ds) (drop j a) % 2) e) h k,
)

-- one more exponent of the product
pub joined-step : (a b m n : List ℕ) (i x y : ℕ) → m ≡ take i (joined a b) → i < max (length a) (length b)
    → x ≡ exponent a i → y ≡ exponent b i → n ≡ m ++ (x + y) ∷ [] → n ≡ take (i + 1) (joined a b)
joined-step a b m n i x y e l f g h =
    h ∙ rw (e, f, g) (ap (λ z. take i (joined a b) ++ z ∷ []) (sym (exponent-joined a b i))
    ∙ sym (take_more (joined a b) i 0 (omega (arith, length-joined a b))))

pub joined-end : (a b m : List ℕ) (i : ℕ) → m ≡ take i (joined a b) → max (length a) (length b) ≤ i
    → m ≡ joined a b
joined-end a b m i e l = e ∙ take_all i (joined a b) (omega (arith, length-joined a b))
