-- Products that are added to, a term at a time.
use Rattle.std.proofs.Common.{◌≡◌, ◌⊎◌, inl, inr, ◌+◌, ◌*◌, ◌%◌, ℕ, zero, suc, ◌≤◌, List, [], ◌∷◌, ◌++◌, take}
use Rattle.std.proofs.Common.{true, false, Some, slice_get, All, append_assoc, arith, ap, sym, subst, ◌∙◌}
use Rattle.std.proofs.Common.{refl}
use Rattle.std.specs.Option.{option_map}
use Rattle.std.proofs.Math.Nat.{mul-le-mul_right}
use Rattle.std.proofs.lemmas.Bool.{cases_Bool}
use Rattle.std.proofs.lemmas.List.{append-nil}
use Rattle.std.proofs.lemmas.List.Elements.{All-head, All-tail}
use Rattle.limits.specs.declared.TheConstants.{GREATEST_DEGREE}
use Rattle.graded_polynomials.specs.Monomials.{IsWithin, exponent, degree, joined, fits, swaps, sign}
use Rattle.graded_polynomials.specs.Polynomials.{Term, Polynomial, multiple, product}
use Rattle.graded_polynomials.proofs.Terms.{same-refl, same-append}
use Rattle.graded_polynomials.proofs.Monomials.{monomial-joined}
use Rattle.gc_poly.specs.Generators.{Generators, greatest, AreOrdered}
use Rattle.gc_poly.specs.Polynomials.{IsOverGenerators, IsMonomialOf, AreFactors, IsSumOf}
use Rattle.gc_poly.proofs.SumLemmas.{more-sum, equal-sum, same-remainder, take-term, own-sum}

exponent-bound : (ds m : List ℕ) → All (λ d. (1 ≤ d) × (d ≤ GREATEST_DEGREE)) ds → IsWithin ds m → (i : ℕ)
    → exponent m i ≤ degree ds m
exponent-bound ds [] h w i = omega arith
exponent-bound [] (x ∷ m) h w i = absurd w
exponent-bound (d ∷ ds) (x ∷ m) h w zero =
    let l = (All-head (λ d. (1 ≤ d) × (d ≤ GREATEST_DEGREE)) d ds h).0 in omega (arith, mul-le-mul_right x l)
exponent-bound (d ∷ ds) (x ∷ m) h w (suc i) =
    omega (arith, exponent-bound ds m (All-tail (λ d. (1 ≤ d) × (d ≤ GREATEST_DEGREE)) d ds h) w i)

-- the exponents of a product of degree at most the greatest
pub exponents-small : (g : Generators) (d : ℕ) (m n : List ℕ) → AreOrdered g.degrees → d ≤ GREATEST_DEGREE
    → AreFactors g d m n → (i : ℕ) → exponent m i + exponent n i ≤ GREATEST_DEGREE
exponents-small g d m n o l h i =
    omega (
      arith,
      exponent-bound g.degrees m o.range h.left_is.within i,
      exponent-bound g.degrees n o.range h.right_is.within i,
      h.left_is.degree_is,
      h.right_is.degree_is,
      h.sum,
    )

pub product-monomial : (g : Generators) (d : ℕ) (m n k : List ℕ) → AreFactors g d m n
    → fits (greatest g) g.degrees (joined m n) ≡ true → k ≡ joined m n → IsMonomialOf g d k
product-monomial g d m n k h f e = subst (IsMonomialOf g d) (sym e)
    (monomial-joined (greatest g) g.degrees h.left h.right d m n h.left_is h.right_is h.sum f)

multiple-none : (q : ℕ) (ds : List ℕ) (c x : ℕ) (m n : List ℕ) → fits q ds (joined m n) ≡ false
    → multiple q ds c m (record { scalar = x; monomial = n } ∷ []) ≡ []
multiple-none q ds c x m n e = rw e refl

multiple-one : (q : ℕ) (ds : List ℕ) (c x : ℕ) (m n : List ℕ) → fits q ds (joined m n) ≡ true
    → multiple q ds c m (record { scalar = x; monomial = n } ∷ [])
    ≡ record { scalar = c * (sign q (swaps ds m n) * x); monomial = joined m n } ∷ []
multiple-one q ds c x m n e = rw e refl

-- the product of the terms is 0
pub product-zero : (g : Generators) (c x : ℕ) (m n : List ℕ) (out : Polynomial) → IsOverGenerators g out
    → fits (greatest g) g.degrees (joined m n) ≡ false
    → IsSumOf g out.degree (out.terms ++ multiple (greatest g) g.degrees c m
    (record { scalar = x; monomial = n } ∷ [])) out
product-zero g c x m n out F e = equal-sum out (own-sum out F)
    (sym (ap (λ ts. out.terms ++ ts) (multiple-none (greatest g) g.degrees c x m n e) ∙ append-nil out.terms))

-- the product of the terms is a term
pub product-term : (g : Generators) (c x s p y : ℕ) (m n k : List ℕ) (out new : Polynomial)
    → fits (greatest g) g.degrees (joined m n) ≡ true
    → s ≡ sign (greatest g) (swaps g.degrees m n) → p ≡ g.prime → 2 ≤ p → y ≡ c * s * x % p → k ≡ joined m n
    → IsOverGenerators g out
    → IsSumOf g out.degree (out.terms ++ record { scalar = y; monomial = k } ∷ []) new
    → IsSumOf g out.degree (out.terms ++ multiple (greatest g) g.degrees c m
    (record { scalar = x; monomial = n } ∷ [])) new
product-term g c x s p y m n k out new f e h l r z F H =
    equal-sum new (more-sum (record { scalar = c * (s * x); monomial = k } ∷ []) out new
    (own-sum out F) H refl (same-append (same-refl out.terms)
    (same-remainder (c * (s * x)) y k remainder)))
    (ap (λ ts. out.terms ++ ts) (rw (e, z) (sym (multiple-one (greatest g) g.degrees c x m n f))))
  where
    remainder : y ≡ c * (s * x) % suc (greatest g)
    remainder = r ∙ ap (λ z. z % p) (let e : c * s * x ≡ c * (s * x) = omega arith in e)
        ∙ ap (λ p. c * (s * x) % p) (let e : p ≡ suc (greatest g) = omega arith in e)

pub multiple-append : (q : ℕ) (ds : List ℕ) (c : ℕ) (m : List ℕ) (f g : List Term)
    → multiple q ds c m (f ++ g) ≡ multiple q ds c m f ++ multiple q ds c m g
multiple-append q ds c m [] g = refl
multiple-append q ds c m (t ∷ f) g = go (cases_Bool (fits q ds (joined m t.monomial)))
    (multiple-append q ds c m f g)
  where
    go : (fits q ds (joined m t.monomial) ≡ true) ⊎ (fits q ds (joined m t.monomial) ≡ false)
        → multiple q ds c m (f ++ g) ≡ multiple q ds c m f ++ multiple q ds c m g
        → multiple q ds c m ((t ∷ f) ++ g) ≡ multiple q ds c m (t ∷ f) ++ multiple q ds c m g
    go (inl e) r = rw e (ap (λ ts. record {
      scalar = c * (sign q (swaps ds m t.monomial) * t.scalar);
      monomial = joined m t.monomial;
    } ∷ ts) r)
    go (inr e) r = rw e r

pub product-append : (q : ℕ) (ds : List ℕ) (f h g : List Term)
    → product q ds (f ++ h) g ≡ product q ds f g ++ product q ds h g
product-append q ds [] h g = refl
product-append q ds (t ∷ f) h g = ap (λ ts. multiple q ds t.scalar t.monomial g ++ ts)
    (product-append q ds f h g) ∙ sym (append_assoc (multiple q ds t.scalar t.monomial g) _ _)

-- one more term of the right factor
pub multiple-step : (g : Generators) (d c x i : ℕ) (m n : List ℕ) (o f : List Term) (out new : Polynomial)
    → option_map (λ t. t.scalar) (slice_get f i) ≡ Some x
    → option_map (λ t. t.monomial) (slice_get f i) ≡ Some n
    → IsSumOf g d (o ++ multiple (greatest g) g.degrees c m (take i f)) out
    → IsSumOf g out.degree (out.terms ++ multiple (greatest g) g.degrees c m
    (record { scalar = x; monomial = n } ∷ [])) new
    → IsSumOf g d (o ++ multiple (greatest g) g.degrees c m (take (i + 1) f)) new
multiple-step g d c x i m n o f out new h k F H =
    equal-sum new (more-sum _ out new F H F.degree_is (same-refl _))
    (append_assoc o _ _ ∙ ap (λ ts. o ++ ts)
    (sym (ap (multiple (greatest g) g.degrees c m) (take-term f i x n h k)
    ∙ multiple-append (greatest g) g.degrees c m (take i f) _)))

-- one more term of the left factor
pub product-step : (g : Generators) (d c i : ℕ) (m : List ℕ) (f h : List Term) (out new : Polynomial)
    → option_map (λ t. t.scalar) (slice_get f i) ≡ Some c
    → option_map (λ t. t.monomial) (slice_get f i) ≡ Some m
    → IsSumOf g d (product (greatest g) g.degrees (take i f) h) out
    → IsSumOf g out.degree (out.terms ++ multiple (greatest g) g.degrees c m h) new
    → IsSumOf g d (product (greatest g) g.degrees (take (i + 1) f) h) new
product-step g d c i m f h out new e k F H =
    equal-sum new (more-sum _ out new F H F.degree_is (same-refl _))
    (sym (ap (λ ts. product (greatest g) g.degrees ts h) (take-term f i c m e k)
    ∙ product-append (greatest g) g.degrees (take i f) _ h
    ∙ ap (λ ts. product (greatest g) g.degrees (take i f) h ++ ts) (append-nil _)))
