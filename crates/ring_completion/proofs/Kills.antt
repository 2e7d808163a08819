-- What extends the forms takes the consequences of lower relations to 0.
use Rattle.std.proofs.Common.{◌≡◌, ℕ, suc, ◌+◌, ◌*◌, ◌<◌, ◌≤◌, List, [], ◌∷◌, ◌++◌, arith, ap, ap₂, sym, ◌∙◌}
use Rattle.std.proofs.Common.{refl}
use Rattle.std.specs.List.{AllByRecursion as Each}
use Rattle.linear_algebra.specs.Modular.{IsCongruent, IsFieldModulo}
use Rattle.linear_algebra.proofs.Congruences.{congruent_eq, congruent_trans, congruent_mul_left}
use Rattle.linear_algebra.proofs.Congruences.{congruent_mul_right}
use Rattle.graded_polynomials.specs.Monomials.{IsMonomial, exponent, degree, joined, swaps, sign}
use Rattle.graded_polynomials.specs.Polynomials.{Term, Polynomial, Multiple, coefficient, multiple, scaled}
use Rattle.graded_polynomials.specs.Polynomials.{total, IsOver, IsSame, IsMultiple}
use Rattle.graded_polynomials.specs.Texts.{power}
use Rattle.graded_polynomials.proofs.Monomials.{over-multiple}
use Rattle.graded_polynomials.proofs.Terms.{same-trans, same-sym}
use Rattle.graded_algebra.specs.Algebras.{Algebra, Generator, degrees, evaluate, value, linear, times}
use Rattle.graded_algebra.specs.Algebras.{IsSpace, IsGradedCommutative}
use Rattle.graded_algebra.specs.Presentations.{IsRelations, IsConsequence}
use Rattle.graded_algebra.proofs.Ideals.{degree-nil, multiple-scaled}
use Rattle.graded_algebra.proofs.Relations.{defining}
use Rattle.graded_algebra.proofs.Values.{linear-append, linear-scaled, linear-same, value-multiple}
use Rattle.graded_algebra.proofs.Vectors.{times-zero, mul-zero}
use Rattle.ring_completion.specs.Candidates.{IsQuotient}
use Rattle.ring_completion.specs.Completions.{alone, generator_times, degree_of, IsGenerator, IsReduced}
use Rattle.ring_completion.proofs.Joins.{multiple-assoc}
use Rattle.ring_completion.proofs.Quotients.{IsFactorOf, factor-of, degree-positive}
use Rattle.ring_completion.proofs.Lower.{known, standard-same, reduced-exists, reduced-append, reduced-scaled}
use Rattle.ring_completion.proofs.Factors.{has-factor, quotient-exists}
use Rattle.ring_completion.proofs.LinearForms.{linear-alone, linear-multiple, sign-square}

module _ (q : ℕ) (V : Type 0) (A : Algebra V) (In : ℕ → V → Type 0) (L : IsGradedCommutative q V A In)
    (gs : List (Generator V))
    (field : IsFieldModulo (suc q)) (positive : Each (λ d. 0 < d) (degrees gs))
    (free : (c : ℕ) → times A c A.one ≡ A.zero → IsCongruent (suc q) c 0)
    (n : ℕ) (rs : List Polynomial) (R : IsRelations q A gs n rs)
    (W : Type 0) (B : Algebra W) (S : IsSpace q W B) (forms : ℕ → List ℕ → W) (u : List ℕ → W)
    (extends : (i e : ℕ) (k : List ℕ) (g : List Term) → IsGenerator q (degrees gs) i
    → IsMonomial q (degrees gs) e k
    → degree_of (degrees gs) i + e ≡ suc n → IsReduced q A gs e g → value A gs g ≡ evaluate A gs k
    → linear B u (generator_times q (degrees gs) i k) ≡ linear B (forms i) g) where
  -- a sum of standard monomials with the value of f, whose form is that of generator i times f
  record IsSum (i e : ℕ) (f : List Term) : Type 0 where
    polynomial : List Term
    reduced : IsReduced q A gs e polynomial
    value_is : value A gs polynomial ≡ value A gs f
    form_is : linear B u (multiple q (degrees gs) 1 (power i 1) f) ≡ linear B (forms i) polynomial

  module _ (i e : ℕ) (I : IsGenerator q (degrees gs) i) (d : degree_of (degrees gs) i + e ≡ suc n) where
    low : e ≤ n
    low = let p = degree-positive (degrees gs) i positive I.within in omega (arith, p, d)

    sums : (f : List Term) → IsOver q (degrees gs) e f → IsSum i e f
    sums [] o = record {
      polynomial = [];
      reduced = record { over = tt; standard = tt };
      value_is = refl;
      form_is = refl;
    }
    sums (t ∷ f) o = made
        (reduced-exists q V A In L gs e (known q V A In L gs field positive free n rs R e low) field
        (alone t.monomial) (o.0, tt)) (sums f o.1)
      where
        made : (g : List Term) × IsReduced q A gs e g × (value A gs g ≡ value A gs (alone t.monomial))
            → IsSum i e f → IsSum i e (t ∷ f)
        made (g, G, v) r = record {
          polynomial = scaled t.scalar g ++ r.polynomial;
          reduced = reduced-append q V A In L gs e (scaled t.scalar g) r.polynomial
              (reduced-scaled q V A In L gs e t.scalar g G) r.reduced;
          value_is = linear-append q V A L.space (evaluate A gs) (scaled t.scalar g) r.polynomial
              ∙ ap₂ A.add (linear-scaled q V A L.space (evaluate A gs) t.scalar g ∙ ap (times A t.scalar) v')
              r.value_is;
          form_is = linear-multiple q W B S (degrees gs) u (power i 1) t f
              ∙ ap₂ B.add (ap (times B t.scalar) (extends i e t.monomial g I o.0 d G v')
              ∙ sym (linear-scaled q W B S (forms i) t.scalar g)) r.form_is
              ∙ sym (linear-append q W B S (forms i) (scaled t.scalar g) r.polynomial);
        }
          where
            v' : value A gs g ≡ evaluate A gs t.monomial
            v' = v ∙ linear-alone q V A L.space (evaluate A gs) t.monomial

    -- generator i times a polynomial of value 0 goes to 0
    kills-product : (f : List Term) → IsOver q (degrees gs) e f → value A gs f ≡ A.zero
        → linear B u (multiple q (degrees gs) 1 (power i 1) f) ≡ B.zero
    kills-product f o z = let r = sums f o in
        r.form_is ∙ linear-same q W B S (forms i) r.polynomial []
        (standard-same q V A In L gs e (known q V A In L gs field positive free n rs R e low) r.polynomial []
        r.reduced record { over = tt; standard = tt } (r.value_is ∙ z))

  -- a multiple of a relation goes to 0
  kills-multiple : (t : Multiple) → IsMultiple q (degrees gs) rs (suc n) t
      → linear B u (multiple q (degrees gs) t.scalar t.by t.of.terms) ≡ B.zero
  kills-multiple t h = linear-same q W B S u (multiple q (degrees gs) t.scalar t.by t.of.terms)
      (multiple q (degrees gs) 1 (power i.0 1) g) (same-sym again)
      ∙ kills-product i.0 e f.generator d g over-g vanishes
    where
      b : (0 < t.of.degree) × (t.of.degree ≤ n)
      b = let x = defining q V A gs n rs R t.of h.given in (x.positive, x.up_to)

      over : IsOver q (degrees gs) t.of.degree t.of.terms
      over = (defining q V A gs n rs R t.of h.given).vanishes.over

      i : (i : ℕ) × (1 ≤ exponent t.by i)
      i = has-factor t.by h.monomial.trimmed
          (λ x. absurd (let y : degree (degrees gs) t.by ≡ 0 = ap (degree (degrees gs)) x
          ∙ degree-nil (degrees gs) in let z = h.monomial.degree_is in
          let w = h.degree_is in let v = b.1 in omega (arith, y, z, w, v)))

      k : (k : List ℕ) × IsQuotient q (degrees gs) i.0 (degree (degrees gs) k) k t.by
      k = quotient-exists q (degrees gs) h.rest i.0 t.by h.monomial i.1

      f : IsFactorOf q (degrees gs) i.0 (degree (degrees gs) k.0) h.rest k.0 t.by
      f = factor-of q (degrees gs) i.0 (degree (degrees gs) k.0) h.rest k.0 t.by h.monomial k.1

      e : ℕ
      e = degree (degrees gs) k.0 + t.of.degree

      d : degree_of (degrees gs) i.0 + e ≡ suc n
      d = let x = f.sum in let y = h.degree_is in omega (arith, x, y)

      x : ℕ
      x = sign q (swaps (degrees gs) (power i.0 1) k.0)

      g : List Term
      g = multiple q (degrees gs) (t.scalar * x) k.0 t.of.terms

      over-g : IsOver q (degrees gs) e g
      over-g = over-multiple q (degrees gs) (degree (degrees gs) k.0) t.of.degree e (t.scalar * x) k.0
          t.of.terms k.1.monomial over refl

      vanishes : value A gs g ≡ A.zero
      vanishes = value-multiple q V A In L gs (t.scalar * x) k.0 (degree (degrees gs) k.0) t.of.degree
          t.of.terms refl over
          ∙ ap (times A (t.scalar * x))
          (ap (A.mul (degree (degrees gs) k.0) t.of.degree (evaluate A gs k.0))
          (defining q V A gs n rs R t.of h.given).vanishes.value_is
          ∙ mul-zero q V A In L _ _ _) ∙ times-zero q V A L.space (t.scalar * x)

      -- (c s) s = c
      scalars : IsCongruent (suc q) (1 * ((t.scalar * x) * x)) t.scalar
      scalars = congruent_trans
          (congruent_eq (let z : 1 * ((t.scalar * x) * x) ≡ t.scalar * (x * x) = omega arith in z))
          (congruent_trans
          (congruent_mul_left t.scalar (sign-square q (swaps (degrees gs) (power i.0 1) k.0)))
          (congruent_eq (omega arith)))

      again : IsSame q (multiple q (degrees gs) 1 (power i.0 1) g)
          (multiple q (degrees gs) t.scalar t.by t.of.terms)
      again = same-trans (multiple-assoc q (degrees gs) (power i.0 1) k.0 1 (t.scalar * x) t.of.terms)
          (record { at = at })
        where
          one-by-one : (c : ℕ) (m : List ℕ) → coefficient (multiple q (degrees gs) c t.by t.of.terms) m
              ≡ c * coefficient (multiple q (degrees gs) 1 t.by t.of.terms) m
          one-by-one c m = ap (λ c. coefficient (multiple q (degrees gs) c t.by t.of.terms) m)
              (let z : c ≡ c * 1 = omega arith in z)
              ∙ multiple-scaled q (degrees gs) c 1 t.by t.of.terms m

          at : (m : List ℕ)
              → IsCongruent (suc q)
              (coefficient (multiple q (degrees gs) (1 * ((t.scalar * x) * x)) (joined (power i.0 1) k.0)
              t.of.terms) m)
              (coefficient (multiple q (degrees gs) t.scalar t.by t.of.terms) m)
          at m = rw k.1.product (congruent_trans (congruent_eq (one-by-one (1 * ((t.scalar * x) * x)) m))
              (congruent_trans
              (congruent_mul_right (coefficient (multiple q (degrees gs) 1 t.by t.of.terms) m) scalars)
              (congruent_eq (sym (one-by-one t.scalar m)))))

  kills-total : (ts : List Multiple) → Each (IsMultiple q (degrees gs) rs (suc n)) ts
      → linear B u (total q (degrees gs) ts) ≡ B.zero
  kills-total [] h = refl
  kills-total (t ∷ ts) h = linear-append q W B S u (multiple q (degrees gs) t.scalar t.by t.of.terms)
      (total q (degrees gs) ts)
      ∙ ap₂ B.add (kills-multiple t h.0) (kills-total ts h.1) ∙ S.add-zero B.zero

  pub kills-consequence : (f : List Term) → IsConsequence q A gs rs (suc n) f → linear B u f ≡ B.zero
  kills-consequence f c = linear-same q W B S u f (total q (degrees gs) c.ideal.multiples) c.ideal.sum
      ∙ kills-total c.ideal.multiples c.ideal.each
