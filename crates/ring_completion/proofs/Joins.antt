-- Products of monomials and polynomials: associativity, and their signs.
use Rattle.std.proofs.Common.{◌≡◌, ℕ, suc, ◌+◌, ◌*◌, List, [], ◌∷◌, Bool, true, false, not, ◌||◌, ◌&&◌, leb}
use Rattle.std.proofs.Common.{cond, ◌⊎◌, inl, inr, arith, ap, ap₂, sym, ◌∙◌, refl}
use Rattle.std.proofs.lemmas.Bool.{cases_Bool}
use Rattle.std.proofs.lemmas.Bool.Decides.{nat_tests}
use Rattle.linear_algebra.specs.Modular.{IsCongruent}
use Rattle.linear_algebra.proofs.Congruences.{congruent_refl, congruent_add, congruent_trans, congruent_sym}
use Rattle.linear_algebra.proofs.Congruences.{congruent_eq, congruent_mul_left, congruent_mul_right}
use Rattle.graded_polynomials.specs.Monomials.{degree, fits, is_exterior, joined, swaps, sign, same}
use Rattle.graded_polynomials.specs.Polynomials.{Term, coefficient, multiple, IsSame}
use Rattle.graded_polynomials.proofs.Terms.{false≢true}
use Rattle.graded_polynomials.proofs.Monomials.{degree-joined}
use Rattle.graded_algebra.proofs.Evaluation.{sign-sum}

pub joined-assoc : (a b c : List ℕ) → joined (joined a b) c ≡ joined a (joined b c)
joined-assoc [] b c = refl
joined-assoc (x ∷ a) [] c = refl
joined-assoc (x ∷ a) (y ∷ b) [] = refl
joined-assoc (x ∷ a) (y ∷ b) (z ∷ c) =
    ap₂ (λ x a. x ∷ a) (let e : (x + y) + z ≡ x + (y + z) = omega arith in e) (joined-assoc a b c)

pub joined-comm : (a b : List ℕ) → joined a b ≡ joined b a
joined-comm [] [] = refl
joined-comm [] (y ∷ b) = refl
joined-comm (x ∷ a) [] = refl
joined-comm (x ∷ a) (y ∷ b) = ap₂ (λ x a. x ∷ a) (let e : x + y ≡ y + x = omega arith in e) (joined-comm a b)

pub swaps-joined-left : (ds a b c : List ℕ) → swaps ds (joined a b) c ≡ swaps ds a c + swaps ds b c
swaps-joined-left [] a b c = omega arith
swaps-joined-left (d ∷ ds) [] b c = omega arith
swaps-joined-left (d ∷ ds) (x ∷ a) [] c = omega arith
swaps-joined-left (d ∷ ds) (x ∷ a) (y ∷ b) [] = omega arith
swaps-joined-left (d ∷ ds) (x ∷ a) (y ∷ b) (z ∷ c) =
    ap₂ (λ k l. k * (d * z) + l) (degree-joined ds a b) (swaps-joined-left ds a b c) ∙ omega arith

pub swaps-joined-right : (ds a b c : List ℕ) → swaps ds a (joined b c) ≡ swaps ds a b + swaps ds a c
swaps-joined-right [] a b c = omega arith
swaps-joined-right (d ∷ ds) [] b c = omega arith
swaps-joined-right (d ∷ ds) (x ∷ a) [] c = omega arith
swaps-joined-right (d ∷ ds) (x ∷ a) (y ∷ b) [] = omega arith
swaps-joined-right (d ∷ ds) (x ∷ a) (y ∷ b) (z ∷ c) =
    ap (λ l. degree ds a * (d * (y + z)) + l) (swaps-joined-right ds a b c) ∙ omega arith

fewer : (x y : ℕ) → leb (x + y) 1 ≡ true → leb x 1 ≡ true
fewer x y h = grind (arith, nat_tests)

pub fits-left : (q : ℕ) (ds a b : List ℕ) → fits q ds (joined a b) ≡ true → fits q ds a ≡ true
fits-left q [] a b h = refl
fits-left q (d ∷ ds) [] b h = refl
fits-left q (d ∷ ds) (x ∷ a) [] h = h
fits-left q (d ∷ ds) (x ∷ a) (y ∷ b) h =
    go (is_exterior q d) (leb (x + y) 1) (fits q ds (joined a b)) (fewer x y) h (fits-left q ds a b)
  where
    go : (e c f : Bool) → (c ≡ true → leb x 1 ≡ true) → ((not e || c) && f) ≡ true
        → (f ≡ true → fits q ds a ≡ true)
        → ((not e || leb x 1) && fits q ds a) ≡ true
    go true true f k h r = rw (k refl, r h) refl
    go true false f k h r = false≢true h
    go false c f k h r = r h

pub fits-right : (q : ℕ) (ds a b : List ℕ) → fits q ds (joined a b) ≡ true → fits q ds b ≡ true
fits-right q ds a b h = fits-left q ds b a (ap (fits q ds) (joined-comm b a) ∙ h)

-- the scalar of a product of three
scalars : (q : ℕ) (ds a b m : List ℕ) (c e s : ℕ)
    → IsCongruent (suc q) (c * (sign q (swaps ds a (joined b m)) * (e * (sign q (swaps ds b m) * s))))
    ((c * (e * sign q (swaps ds a b))) * (sign q (swaps ds (joined a b) m) * s))
scalars q ds a b m c e s =
    congruent_trans (congruent_mul_left c (congruent_mul_right (e * (sign q (swaps ds b m) * s))
    (congruent_trans (congruent_eq (ap (sign q) (swaps-joined-right ds a b m)))
    (congruent_sym (sign-sum q (swaps ds a b) (swaps ds a m))))))
    (congruent_trans
    (congruent_eq (let z : c * ((X * Y) * (e * (Z * s))) ≡ (c * (e * X)) * ((Y * Z) * s) = omega arith in z))
    (congruent_mul_left (c * (e * X)) (congruent_mul_right s
    (congruent_trans (sign-sum q (swaps ds a m) (swaps ds b m))
    (congruent_eq (ap (sign q) (sym (swaps-joined-left ds a b m))))))))
  where
    X : ℕ
    X = sign q (swaps ds a b)

    Y : ℕ
    Y = sign q (swaps ds a m)

    Z : ℕ
    Z = sign q (swaps ds b m)

-- a times (b times f) is (a b) times f
coefficient-assoc : (q : ℕ) (ds a b : List ℕ) (c e : ℕ) (f : List Term) (n : List ℕ)
    → IsCongruent (suc q) (coefficient (multiple q ds c a (multiple q ds e b f)) n)
    (coefficient (multiple q ds (c * (e * sign q (swaps ds a b))) (joined a b) f) n)
coefficient-assoc q ds a b c e [] n = congruent_refl 0
coefficient-assoc q ds a b c e (t ∷ f) n =
    rw joined-assoc
    (go (cases_Bool (fits q ds (joined a (joined b t.monomial))))
    (cases_Bool (fits q ds (joined b t.monomial))) (coefficient-assoc q ds a b c e f n))
  where
    m : List ℕ
    m = joined a (joined b t.monomial)

    r : ℕ
    r = c * (e * sign q (swaps ds a b))

    Goal : Type 0
    Goal = IsCongruent (suc q) (coefficient (multiple q ds c a (multiple q ds e b (t ∷ f))) n)
        (coefficient (cond (fits q ds m)
        (record { scalar = r * (sign q (swaps ds (joined a b) t.monomial) * t.scalar); monomial = m }
        ∷ multiple q ds r (joined a b) f)
        (multiple q ds r (joined a b) f)) n)

    go : (fits q ds m ≡ true) ⊎ (fits q ds m ≡ false) → (fits q ds (joined b t.monomial) ≡ true)
        ⊎ (fits q ds (joined b t.monomial) ≡ false)
        → IsCongruent (suc q) (coefficient (multiple q ds c a (multiple q ds e b f)) n)
        (coefficient (multiple q ds r (joined a b) f) n) → Goal
    go (inl h) (inl k) ih = rw (k, h) (congruent_add (pick (cases_Bool (same m n))) ih)
      where
        x : ℕ
        x = c * (sign q (swaps ds a (joined b t.monomial))
            * (e * (sign q (swaps ds b t.monomial) * t.scalar)))

        y : ℕ
        y = r * (sign q (swaps ds (joined a b) t.monomial) * t.scalar)

        pick : (same m n ≡ true) ⊎ (same m n ≡ false)
            → IsCongruent (suc q) (cond (same m n) x 0) (cond (same m n) y 0)
        pick (inl w) = rw w (scalars q ds a b t.monomial c e t.scalar)
        pick (inr w) = rw w (congruent_refl 0)
    go (inl h) (inr k) ih = false≢true (sym k ∙ fits-right q ds a (joined b t.monomial) h)
    go (inr h) (inl k) ih = rw (k, h) ih
    go (inr h) (inr k) ih = rw (k, h) ih

pub multiple-assoc : (q : ℕ) (ds a b : List ℕ) (c e : ℕ) (f : List Term)
    → IsSame q (multiple q ds c a (multiple q ds e b f))
    (multiple q ds (c * (e * sign q (swaps ds a b))) (joined a b) f)
multiple-assoc q ds a b c e f = record { at = coefficient-assoc q ds a b c e f }
