-- Sums that are added to, a term or a polynomial at a time.
use Rattle.std.proofs.Common.{◌≡◌, ◌⊎◌, inl, inr, ◌+◌, ◌*◌, ◌%◌, ℕ, zero, suc, ◌<◌, ◌≤◌, List, [], ◌∷◌, ◌++◌}
use Rattle.std.proofs.Common.{length, take, Some, slice_get, true, false, add-one, append_assoc, arith, ap}
use Rattle.std.proofs.Common.{sym, subst, ◌∙◌, refl}
use Rattle.std.specs.Option.{option_map}
use Rattle.std.proofs.Math.Nat.{mul-le-mul_left}
use Rattle.std.proofs.lemmas.Bool.{cases_Bool}
use Rattle.linear_algebra.specs.Modular.{IsCongruent}
use Rattle.linear_algebra.proofs.Congruences.{congruent_mod, congruent_add, congruent_refl}
use Rattle.graded_polynomials.specs.Monomials.{same}
use Rattle.graded_polynomials.specs.Polynomials.{Term, Polynomial, IsSame, coefficient, scaled}
use Rattle.graded_polynomials.proofs.Terms.{same-refl, same-trans, same-append}
use Rattle.std.specs.List.{AllByRecursion as Each}
use Rattle.gc_poly.specs.Generators.{Generators, greatest}
use Rattle.gc_poly.specs.Polynomials.{IsOverGenerators, IsMonomialOf, IsSumOf}

-- a polynomial is its own sum
pub own-sum : {g : Generators} (f : Polynomial) → IsOverGenerators g f → IsSumOf g f.degree f.terms f
own-sum f F = record { degree_is = refl; over = F; same = same-refl f.terms }

-- a sum with more added
pub more-sum : {g : Generators} {d e : ℕ} {ts us : List Term} (vs : List Term) (f h : Polynomial)
    → IsSumOf g d ts f → IsSumOf g e us h → e ≡ d → IsSame (greatest g) us (f.terms ++ vs)
    → IsSumOf g d (ts ++ vs) h
more-sum vs f h F H e s = record {
  degree_is = H.degree_is ∙ e;
  over = H.over;
  same = same-trans H.same (same-trans s (same-append F.same (same-refl _)));
}

pub same-sum : {g : Generators} {d : ℕ} {ts us : List Term} (f : Polynomial) → IsSumOf g d ts f
    → IsSame (greatest g) ts us → IsSumOf g d us f
same-sum f F s = record { degree_is = F.degree_is; over = F.over; same = same-trans F.same s }

pub equal-sum : {g : Generators} {d : ℕ} {ts us : List Term} (f : Polynomial) → IsSumOf g d ts f → ts ≡ us
    → IsSumOf g d us f
equal-sum {g} {d} f F e = subst (λ ts. IsSumOf g d ts f) e F

pub scaled-append : (c : ℕ) (f g : List Term) → scaled c (f ++ g) ≡ scaled c f ++ scaled c g
scaled-append c [] g = refl
scaled-append c (t ∷ f) g = ap (λ ts. record { scalar = c * t.scalar; monomial = t.monomial } ∷ ts)
    (scaled-append c f g)

pub scaled-one : (f : List Term) → scaled 1 f ≡ f
scaled-one [] = refl
scaled-one (t ∷ f) = ap (λ x. record { scalar = x; monomial = t.monomial } ∷ scaled 1 f) (omega arith)
    ∙ ap (λ ts. t ∷ ts) (scaled-one f)

-- the term at i, by its parts
pub take-term : (f : List Term) (i x : ℕ) (m : List ℕ) → option_map (λ t. t.scalar) (slice_get f i) ≡ Some x
    → option_map (λ t. t.monomial) (slice_get f i) ≡ Some m
    → take (i + 1) f ≡ take i f ++ record { scalar = x; monomial = m } ∷ []
take-term f i x m h k = rw add-one (go f i h k)
  where
    go : (f : List Term) (i : ℕ) → option_map (λ t. t.scalar) (slice_get f i) ≡ Some x
        → option_map (λ t. t.monomial) (slice_get f i) ≡ Some m
        → take (suc i) f ≡ take i f ++ record { scalar = x; monomial = m } ∷ []
    go [] i h k = absurd cc
    go (t ∷ f) zero h k = ap (λ t. t ∷ [])
        (let a : t.scalar ≡ x = cc in let b : t.monomial ≡ m = cc in rw (← a, ← b) refl)
    go (t ∷ f) (suc i) h k = ap (λ ts. t ∷ ts) (go f i h k)

-- the remainder of a coefficient
pub same-remainder : {q : ℕ} (x y : ℕ) (m : List ℕ) → y ≡ x % suc q
    → IsSame q (record { scalar = y; monomial = m } ∷ []) (record { scalar = x; monomial = m } ∷ [])
same-remainder {q} x y m e = record { at = λ n. at-n n (cases_Bool (same m n)) }
  where
    at-n : (n : List ℕ) → (same m n ≡ true) ⊎ (same m n ≡ false)
        → IsCongruent (suc q) (coefficient (record { scalar = y; monomial = m } ∷ []) n)
        (coefficient (record { scalar = x; monomial = m } ∷ []) n)
    at-n n (inl k) = rw (k, e) (congruent_add (congruent_mod x) (congruent_refl 0))
    at-n n (inr k) = rw k (congruent_refl _)

-- one more term of a multiple is added
pub step-multiple : (g : Generators) (d : ℕ) (o : List Term) (c x y i p : ℕ) (m : List ℕ) (f : List Term)
    (out new : Polynomial)
    → option_map (λ t. t.scalar) (slice_get f i) ≡ Some x
    → option_map (λ t. t.monomial) (slice_get f i) ≡ Some m
    → p ≡ g.prime → 2 ≤ p → y ≡ c * x % p → IsSumOf g d (o ++ scaled c (take i f)) out
    → IsSumOf g out.degree (out.terms ++ record { scalar = y; monomial = m } ∷ []) new
    → IsSumOf g d (o ++ scaled c (take (i + 1) f)) new
step-multiple g d o c x y i p m f out new h k e l r F H =
    equal-sum new (more-sum (record { scalar = c * x; monomial = m } ∷ []) out new F H F.degree_is
    (same-append (same-refl out.terms) (same-remainder (c * x) y m (r
    ∙ ap (λ p. c * x % p) (let z : p ≡ suc (greatest g) = omega arith in z)))))
    (append_assoc o (scaled c (take i f)) _
    ∙ ap (λ ts. o ++ ts) (sym (ap (scaled c) (take-term f i x m h k) ∙ scaled-append c (take i f) _)))

pub small-product : (x y : ℕ) → x < 7 → y < 7 → x * y < 256
small-product x y h k = let e : y ≤ 6 = omega arith in omega (arith, mul-le-mul_left x e)

-- a coefficient of a polynomial is below p
pub coefficient-at : (g : Generators) (f : Polynomial) (i x : ℕ) → IsOverGenerators g f → i < length f.terms
    → option_map (λ t. t.scalar) (slice_get f.terms i) ≡ Some x → x < g.prime
coefficient-at g f i x F b h = go f.terms i b h F.coefficients
  where
    go : (ts : List Term) (i : ℕ) → i < length ts → option_map (λ t. t.scalar) (slice_get ts i) ≡ Some x
        → Each (λ t. (0 < t.scalar) × (t.scalar ≤ greatest g)) ts → x < g.prime
    go [] i b h a = absurd (omega arith)
    go (t ∷ ts) zero b h a = let e : t.scalar ≡ x = cc in omega (arith, e, a.0.0, a.0.1)
    go (t ∷ ts) (suc i) b h a = go ts i (omega arith) h a.1

pub monomial-at : (g : Generators) (f : Polynomial) (i d : ℕ) (m : List ℕ) → IsOverGenerators g f
    → d ≡ f.degree → option_map (λ t. t.monomial) (slice_get f.terms i) ≡ Some m → IsMonomialOf g d m
monomial-at g f i d m F e k = rw e (go f.terms i k F.over)
  where
    go : (ts : List Term) (i : ℕ) → option_map (λ t. t.monomial) (slice_get ts i) ≡ Some m
        → Each (λ t. IsMonomialOf g f.degree t.monomial) ts → IsMonomialOf g f.degree m
    go [] i k a = absurd cc
    go (t ∷ ts) zero k a = let e : t.monomial ≡ m = cc in rw (← e) a.0
    go (t ∷ ts) (suc i) k a = go ts i k a.1

-- 0 is the empty sum
pub zero-sum : (g : Generators) (d e : ℕ) (f : Polynomial) → f ≡ record { degree = d; terms = [] } → d ≡ e
    → IsSumOf g e [] f
zero-sum g d e f h k = rw h record {
  degree_is = k;
  over = record { over = tt; coefficients = tt; descending = λ i j d l b. absurd (omega (arith, b)) };
  same = same-refl [];
}

-- two multiples are added to 0
pub two-multiples : (g : Generators) (d e : ℕ) (c : ℕ) (a b : List Term) (f h k : Polynomial)
    → f ≡ record { degree = d; terms = [] } → d ≡ e
    → IsSumOf g f.degree (f.terms ++ scaled 1 a) h → IsSumOf g h.degree (h.terms ++ scaled c b) k
    → IsSumOf g e (a ++ scaled c b) k
two-multiples g d e c a b f h k z n H K = more-sum (scaled c b) h k first K first.degree_is (same-refl _)
  where
    first : IsSumOf g e a h
    first = equal-sum h (more-sum (scaled 1 a) f h (zero-sum g d e f z n) H
        (ap (λ (f : Polynomial). f.degree) z ∙ n) (same-refl _)) (scaled-one a)
