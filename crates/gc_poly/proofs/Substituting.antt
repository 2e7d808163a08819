-- A product depends on the coefficients of its left factor alone, and sums of products a term at a time.
use Rattle.std.proofs.Common.{◌≡◌, ℕ, zero, suc, ◌+◌, ◌*◌, ◌<◌, ◌≤◌, List, [], ◌∷◌, ◌++◌, length, take, map}
use Rattle.std.proofs.Common.{All, add-one, append_assoc, arith, ap, sym, subst, ◌∙◌, refl, length-take}
use Rattle.limits.specs.declared.TheConstants.{GREATEST_DEGREE}
use Rattle.linear_algebra.specs.Modular.{IsCongruent}
use Rattle.linear_algebra.proofs.Congruences.{congruent_eq, congruent_trans, congruent_sym, congruent_add}
use Rattle.linear_algebra.proofs.Congruences.{congruent_mul_left, congruent_mod, congruent_refl}
use Rattle.graded_polynomials.specs.Polynomials.{Term, Polynomial, coefficient, multiple, product, IsSame}
use Rattle.graded_polynomials.specs.Polynomials.{scaled}
use Rattle.graded_polynomials.proofs.Terms.{coefficient-append, coefficient-scaled, same-trans, same-append}
use Rattle.std.specs.Prelude.{slice_get, Some}
use Rattle.std.specs.Option.{option_map}
use Rattle.std.proofs.lemmas.List.{take_more, append-nil, length-map}
use Rattle.std.proofs.lemmas.Option.{get_or_from_slice_get, slice_get_within}
use Rattle.graded_polynomials.specs.Monomials.{degree, exponent, IsTrimmed, IsMonomial}
use Rattle.graded_polynomials.proofs.Exponents.{same-exponents}
use Rattle.graded_algebra.specs.Algebras.{Generator, times, linear, powers, evaluate_from, evaluate}
use Rattle.graded_algebra.specs.Vectors.{Vector, vectors, residue}
use Rattle.graded_algebra.proofs.Values.{linear-same}
use Rattle.graded_algebra.proofs.VectorLemmas.{vector-space}
use Rattle.graded_algebra.proofs.Ideals.{multiple-scaled}
use Rattle.gc_poly.specs.Generators.{Generators, greatest}
use Rattle.gc_poly.specs.Polynomials.{IsOverGenerators, IsSumOf, IsMonomialOf}
use Rattle.gc_poly.proofs.SumLemmas.{take-term, monomial-at}
use Rattle.gc_poly.specs.Substitution.{polynomials, standing}

module _ (q : ℕ) (ds : List ℕ) (g : List Term) (n : List ℕ) where
  abbrev nothing : ℕ → ℕ → Vector q → Vector q → Vector q
  nothing d e v w = v

  abbrev part : List ℕ → Vector q
  part m i = residue q (coefficient (multiple q ds 1 m g) n)

  times-at : (c : ℕ) (v : Vector q) → IsCongruent (suc q) (times (vectors q nothing) c v 0).0 (c * (v 0).0)
  times-at zero v = congruent_trans (congruent_mod 0) (congruent_eq (omega arith))
  times-at (suc c) v = congruent_trans (congruent_mod ((v 0).0 + (times (vectors q nothing) c v 0).0))
      (congruent_trans (congruent_add (congruent_refl (v 0).0) (times-at c v)) (congruent_eq (omega arith)))

  product-at : (f : List Term) → IsCongruent (suc q) (linear (vectors q nothing) part f 0).0
      (coefficient (product q ds f g) n)
  product-at [] = congruent_mod 0
  product-at (t ∷ f) =
      congruent_trans (congruent_mod ((times (vectors q nothing) t.scalar (part t.monomial) 0).0 +
      (linear (vectors q nothing) part f 0).0))
      (congruent_trans (congruent_add
      (congruent_trans (times-at t.scalar (part t.monomial))
      (congruent_trans (congruent_mul_left t.scalar
      (congruent_mod (coefficient (multiple q ds 1 t.monomial g) n)))
      (congruent_eq (sym (multiple-scaled q ds t.scalar 1 t.monomial g n)
      ∙ ap (λ c. coefficient (multiple q ds c t.monomial g) n)
      (let e : t.scalar * 1 ≡ t.scalar = omega arith in e)))))
      (product-at f))
      (congruent_eq (sym (coefficient-append (multiple q ds t.scalar t.monomial g) (product q ds f g) n))))

pub product-same : (q : ℕ) (ds : List ℕ) (f h g : List Term) → IsSame q f h
    → IsSame q (product q ds f g) (product q ds h g)
product-same q ds f h g s = record {
  at = λ n. congruent_trans (congruent_sym (product-at q ds g n f))
      (congruent_trans (congruent_eq (ap (λ v. (v 0).0)
      (linear-same q (Vector q) (vectors q (nothing q ds g n)) (vector-space q (nothing q ds g n))
      (part q ds g n) f h s))) (product-at q ds g n h));
}

-- one more factor of a power
pub power-step : (g : Generators) (d j k : ℕ) (f : List Term) (image : Polynomial) (out new : Polynomial)
    → IsSumOf g (d + image.degree * k) (powers (polynomials (greatest g) g.degrees) j f
    (record { degree = image.degree; class = image.terms }) k) out
    → IsSumOf g (out.degree + image.degree) (product (greatest g) g.degrees out.terms image.terms) new
    → IsSumOf g (d + image.degree * (k + 1))
    (powers (polynomials (greatest g) g.degrees) j f
    (record { degree = image.degree; class = image.terms }) (k + 1)) new
power-step g d j k f image out new F H = rw add-one record {
  degree_is = H.degree_is ∙ ap (λ n. n + image.degree) F.degree_is ∙ omega arith;
  over = H.over;
  same = same-trans H.same (product-same (greatest g) g.degrees out.terms _ image.terms F.same);
}

power-start : (g : Generators) (j i : ℕ) (f : List Term) (h : Generator (List Term)) (e : ℕ)
    → powers (polynomials (greatest g) g.degrees) j f h e ≡ powers
    (polynomials (greatest g) g.degrees) i f h e
power-start g j i f h zero = refl
power-start g j i f h (suc e) = ap (λ x. product (greatest g) g.degrees x h.class) (power-start g j i f h e)

-- a monomial with one more exponent
pub evaluate-more : (g : Generators) (j : ℕ) (a : List Term) (fs : List Polynomial) (m : List ℕ) (e : ℕ)
    (f : Polynomial) → slice_get fs (length m) ≡ Some f
    → evaluate_from (polynomials (greatest g) g.degrees) j a (standing fs) (m ++ e ∷ []) ≡ powers
    (polynomials (greatest g) g.degrees) 0
    (evaluate_from (polynomials (greatest g) g.degrees) j a (standing fs) m)
    (record { degree = f.degree; class = f.terms }) e
evaluate-more g j a [] [] e f h = absurd cc
evaluate-more g j a [] (x ∷ m) e f h = absurd cc
evaluate-more g j a (k ∷ []) [] e f h = let z : k ≡ f = cc in
    rw z (power-start g j 0 a (record { degree = f.degree; class = f.terms }) e)
evaluate-more g j a (k ∷ l ∷ fs) [] e f h = let z : k ≡ f = cc in
    rw z (power-start g j 0 a (record { degree = f.degree; class = f.terms }) e)
evaluate-more g j a (k ∷ fs) (x ∷ m) e f h =
    evaluate-more g (j + k.degree * x) (powers (polynomials (greatest g) g.degrees) j a
    (record { degree = k.degree; class = k.terms }) x) fs m e f h

degree-more : (fs : List Polynomial) (m : List ℕ) (e : ℕ) (f : Polynomial) → slice_get fs (length m) ≡ Some f
    → degree (map (λ f. f.degree) fs) (m ++ e ∷ []) ≡ degree (map (λ f. f.degree) fs) m + f.degree * e
degree-more [] [] e f h = absurd cc
degree-more [] (x ∷ m) e f h = absurd cc
degree-more (k ∷ fs) [] e f h = let z : k ≡ f = cc in rw z (omega (arith, nil fs))
  where
    nil : (fs : List Polynomial) → degree (map (λ f. f.degree) fs) [] ≡ 0
    nil [] = refl
    nil (f ∷ fs) = refl
degree-more (k ∷ fs) (x ∷ m) e f h = omega (arith, degree-more fs m e f h)

exponent-zero : (m : List ℕ) → IsTrimmed m → ((i : ℕ) → exponent m i ≡ exponent [] i) → m ≡ []
exponent-zero m t e = same-exponents m [] t tt e

pub unit-monomial : (g : Generators) (m : List ℕ) → IsTrimmed m → ((i : ℕ) → exponent m i ≡ exponent [] i)
    → IsMonomialOf g 0 m
unit-monomial g m t e = rw (exponent-zero m t e) (unit g.degrees)
  where
    unit : (ds : List ℕ) → IsMonomial (greatest g) ds 0 []
    unit [] = record { within = tt; trimmed = tt; fitting = refl; degree_is = refl }
    unit (d ∷ ds) = record { within = tt; trimmed = tt; fitting = refl; degree_is = refl }

-- a number as a polynomial of degree 0
pub unit-sum : (g : Generators) (c : ℕ) (m : List ℕ) (f new : Polynomial) → IsTrimmed m
    → ((i : ℕ) → exponent m i ≡ exponent [] i) → f ≡ record { degree = 0; terms = [] }
    → IsSumOf g f.degree (f.terms ++ record { scalar = c; monomial = m } ∷ []) new
    → IsSumOf g 0 (record { scalar = c; monomial = [] } ∷ []) new
unit-sum g c m f new t e z H = subst (λ m. IsSumOf g 0 (record { scalar = c; monomial = m } ∷ []) new)
    (exponent-zero m t e)
    (subst (λ (f : Polynomial). IsSumOf g f.degree
    (f.terms ++ record { scalar = c; monomial = m } ∷ []) new) z H)

-- the factors at one more generator
pub image-step : (g : Generators) (fs : List Polynomial) (m : List ℕ) (i e : ℕ) (f out new : Polynomial)
    → i < length m → slice_get fs i ≡ Some f → e ≡ exponent m i
    → IsSumOf g (degree (map (λ f. f.degree) fs) (take i m))
    (evaluate (polynomials (greatest g) g.degrees) (standing fs) (take i m)) out
    → IsSumOf g (out.degree + f.degree * e)
    (powers (polynomials (greatest g) g.degrees) 0 out.terms
    (record { degree = f.degree; class = f.terms }) e) new
    → IsSumOf g (degree (map (λ f. f.degree) fs) (take (i + 1) m))
    (evaluate (polynomials (greatest g) g.degrees) (standing fs) (take (i + 1) m)) new
image-step g fs m i e f out new l h k F H = record {
  degree_is = H.degree_is ∙ ap (λ n. n + f.degree * e) F.degree_is
      ∙ sym (ap (degree (map (λ f. f.degree) fs)) more ∙ degree-more fs (take i m) e f here);
  over = H.over;
  same = same-trans H.same (subst (IsSame (greatest g) _)
      (sym (ap (evaluate (polynomials (greatest g) g.degrees) (standing fs)) more
      ∙ evaluate-more g 0 _ fs (take i m) e f here)) (powers-same e));
}
  where
    more : take (i + 1) m ≡ take i m ++ e ∷ []
    more = take_more m i 0 l ∙ ap (λ e. take i m ++ e ∷ []) (sym k)

    here : slice_get fs (length (take i m)) ≡ Some f
    here = ap (slice_get fs) (let z : length (take i m) ≡ i = omega (arith, length-take i m) in z) ∙ h

    powers-same : (e : ℕ) → IsSame (greatest g)
        (powers (polynomials (greatest g) g.degrees) 0 out.terms
        (record { degree = f.degree; class = f.terms }) e)
        (powers (polynomials (greatest g) g.degrees) 0
        (evaluate (polynomials (greatest g) g.degrees) (standing fs) (take i m))
        (record { degree = f.degree; class = f.terms }) e)
    powers-same zero = F.same
    powers-same (suc e) = product-same (greatest g) g.degrees _ _ f.terms (powers-same e)

-- the degree so far is at most the whole
pub degree-front : (ds m : List ℕ) (i : ℕ) → degree ds (take i m) ≤ degree ds m
degree-front [] m i = omega arith
degree-front (d ∷ ds) [] zero = omega arith
degree-front (d ∷ ds) [] (suc i) = omega arith
degree-front (d ∷ ds) (x ∷ m) zero = omega arith
degree-front (d ∷ ds) (x ∷ m) (suc i) = omega (arith, degree-front ds m i)

pub room : (fs : List Polynomial) (m : List ℕ) (i e : ℕ) (f : Polynomial) → i < length m
    → slice_get fs i ≡ Some f → e ≡ exponent m i → degree (map (λ f. f.degree) fs) m ≤ GREATEST_DEGREE
    → degree (map (λ f. f.degree) fs) (take i m) + f.degree * e ≤ GREATEST_DEGREE
room fs m i e f l h k b = omega (
  arith,
  degree-front (map (λ f. f.degree) fs) m (i + 1),
  ap (degree (map (λ f. f.degree) fs)) more ∙ degree-more fs (take i m) e f here,
)
  where
    more : take (i + 1) m ≡ take i m ++ e ∷ []
    more = take_more m i 0 l ∙ ap (λ e. take i m ++ e ∷ []) (sym k)

    here : slice_get fs (length (take i m)) ≡ Some f
    here = ap (slice_get fs) (let z : length (take i m) ≡ i = omega (arith, length-take i m) in z) ∙ h

module _ (g : Generators) (u : List ℕ → List Term) where
  abbrev extended : List Term → List Term
  extended f = linear (polynomials (greatest g) g.degrees) u f

  linear-more : (f : List Term) (c : ℕ) (m : List ℕ)
      → extended (f ++ record { scalar = c; monomial = m } ∷ []) ≡ extended f ++ times
      (polynomials (greatest g) g.degrees) c (u m)
  linear-more [] c m = append-nil (times (polynomials (greatest g) g.degrees) c (u m))
  linear-more (t ∷ f) c m = ap (λ ts. times (polynomials (greatest g) g.degrees) t.scalar
      (u t.monomial) ++ ts) (linear-more f c m)
      ∙ sym (append_assoc (times (polynomials (greatest g) g.degrees) t.scalar (u t.monomial)) (extended f) _)

  times-coefficient : (c : ℕ) (x : List Term) (n : List ℕ)
      → coefficient (times (polynomials (greatest g) g.degrees) c x) n ≡ c * coefficient x n
  times-coefficient zero x n = omega arith
  times-coefficient (suc c) x n = coefficient-append x (times (polynomials (greatest g) g.degrees) c x) n
      ∙ omega (arith, times-coefficient c x n)

  scaled-times : (c : ℕ) (x y : List Term) → IsSame (greatest g) x y
      → IsSame (greatest g) (scaled c x) (times (polynomials (greatest g) g.degrees) c y)
  scaled-times c x y s = record {
    at = λ n. congruent_trans (congruent_eq (coefficient-scaled c x n))
        (congruent_trans (congruent_mul_left c (s.at n)) (congruent_eq (sym (times-coefficient c y n))));
  }

  -- the image of one more term
  pub term-step : (d e c i : ℕ) (m : List ℕ) (f : List Term) (out image new : Polynomial)
      → option_map (λ t. t.scalar) (slice_get f i) ≡ Some c
      → option_map (λ t. t.monomial) (slice_get f i) ≡ Some m
      → IsSumOf g d (extended (take i f)) out → IsSumOf g e (u m) image
      → IsSumOf g out.degree (out.terms ++ scaled c image.terms) new
      → IsSumOf g d (extended (take (i + 1) f)) new
  term-step d e c i m f out image new h k F I H = record {
    degree_is = H.degree_is ∙ F.degree_is;
    over = H.over;
    same = same-trans H.same (subst (IsSame (greatest g) (out.terms ++ scaled c image.terms))
        (sym (ap extended (take-term f i c m h k) ∙ linear-more (take i f) c m))
        (same-append F.same (scaled-times c image.terms (u m) I.same)));
  }

pub image-start : (g : Generators) (fs : List Polynomial) (out : Polynomial)
    → IsSumOf g 0 (record { scalar = 1; monomial = [] } ∷ []) out
    → IsSumOf g (degree (map (λ f. f.degree) fs) [])
    (evaluate (polynomials (greatest g) g.degrees) (standing fs) []) out
image-start g [] out h = h
image-start g (f ∷ fs) out h = h

pub image-at : (P : Polynomial → Type 0) (fs : List Polynomial) (i : ℕ) (f : Polynomial) → All P fs
    → slice_get fs i ≡ Some f → P f
image-at P fs i f h e = subst P (get_or_from_slice_get fs i f f e) (h i f (slice_get_within fs i f e))

pub as-many : (fs : List Polynomial) (ds : List ℕ) → map (λ f. f.degree) fs ≡ ds → length ds ≡ length fs
as-many fs ds e = sym (sym (length-map fs (λ f. f.degree)) ∙ ap length e)

-- the degree of a term in the images
pub image-degree : (from : Generators) (fs : List Polynomial) (f : Polynomial) (i : ℕ) (m : List ℕ)
    → map (λ f. f.degree) fs ≡ from.degrees → IsOverGenerators from f
    → option_map (λ t. t.monomial) (slice_get f.terms i) ≡ Some m
    → degree (map (λ f. f.degree) fs) m ≡ f.degree
image-degree from fs f i m e F k = ap (λ ds. degree ds m) e
    ∙ (monomial-at from f i f.degree m F refl k).degree_is
