-- The form of a product with a generator, by the products of the standard monomials.
use Rattle.std.proofs.Common.{◌≡◌, ℕ, suc, ◌+◌, ◌<◌, ◌≤◌, List, [], ◌∷◌, ◌++◌, arith, ap, ap₂, sym, ◌∙◌, refl}
use Rattle.std.specs.List.{AllByRecursion as Each}
use Rattle.linear_algebra.specs.Modular.{IsCongruent, IsFieldModulo}
use Rattle.graded_polynomials.specs.Monomials.{IsMonomial, joined, swaps, sign}
use Rattle.graded_polynomials.specs.Polynomials.{Term, Polynomial, scaled}
use Rattle.graded_polynomials.specs.Texts.{power}
use Rattle.graded_algebra.specs.Algebras.{Algebra, Generator, degrees, evaluate, value, linear, times}
use Rattle.graded_algebra.specs.Algebras.{IsSpace, IsGradedCommutative}
use Rattle.graded_algebra.specs.Presentations.{IsStandard, IsRelations}
use Rattle.graded_algebra.proofs.Evaluation.{evaluate-mul}
use Rattle.graded_algebra.proofs.Values.{linear-append, linear-scaled, linear-same, value-multiple}
use Rattle.graded_algebra.proofs.Vectors.{times-one, mul-zero, mul-times}
use Rattle.ring_completion.specs.Completions.{alone, generator_times, degree_of, IsGenerator, IsStandardOf}
use Rattle.ring_completion.specs.Completions.{IsReduced, AreProducts}
use Rattle.ring_completion.proofs.LinearForms.{sign-twice, linear-alone}
use Rattle.ring_completion.proofs.Lower.{known, standard-same, reduced-append, reduced-scaled}

module _ (q : ℕ) (V : Type 0) (A : Algebra V) (In : ℕ → V → Type 0) (L : IsGradedCommutative q V A In)
    (gs : List (Generator V))
    (field : IsFieldModulo (suc q)) (positive : Each (λ d. 0 < d) (degrees gs))
    (free : (c : ℕ) → times A c A.one ≡ A.zero → IsCongruent (suc q) c 0)
    (n : ℕ) (rs : List Polynomial) (R : IsRelations q A gs n rs)
    (W : Type 0) (B : Algebra W) (S : IsSpace q W B) (products : ℕ → List ℕ → List Term)
    (P : AreProducts q A gs (suc n) products) where
  abbrev pub s : List ℕ → List ℕ → ℕ
  s a b = sign q (swaps (degrees gs) a b)

  -- sums of standard monomials with the same value have the same image
  pub same-image : (e : ℕ) → e ≤ n → (u : List ℕ → W) (f g : List Term) → IsReduced q A gs e f
      → IsReduced q A gs e g → value A gs f ≡ value A gs g
      → linear B u f ≡ linear B u g
  same-image e l u f g F G v = linear-same q W B S u f g
      (standard-same q V A In L gs e (known q V A In L gs field positive free n rs R e l) f g F G v)

  -- generator j times a sum of standard monomials
  expanded : ℕ → List Term → List Term
  expanded j [] = []
  expanded j (t ∷ g) = scaled t.scalar (products j t.monomial) ++ expanded j g

  expanded-linear : (j : ℕ) (u : List ℕ → W) (g : List Term) → linear B u (expanded j g)
      ≡ linear B (λ m. linear B u (products j m)) g
  unfolding expanded
  expanded-linear j u [] = refl
  expanded-linear j u (t ∷ g) =
      linear-append q W B S u (scaled t.scalar (products j t.monomial)) (expanded j g)
      ∙ ap₂ B.add (linear-scaled q W B S u t.scalar (products j t.monomial)) (expanded-linear j u g)

  module _ (j e : ℕ) (G : IsGenerator q (degrees gs) j) (l : degree_of (degrees gs) j + e ≤ n) where
    std : (t : Term) → IsMonomial q (degrees gs) e t.monomial → IsStandard q A gs e t.monomial
        → IsStandardOf q A gs e t.monomial
    std t m h = record { monomial = m; standard = h }

    expanded-reduced : (g : List Term) → IsReduced q A gs e g
        → IsReduced q A gs (degree_of (degrees gs) j + e) (expanded j g)
    unfolding expanded
    expanded-reduced [] h = record { over = tt; standard = tt }
    expanded-reduced (t ∷ g) h = reduced-append q V A In L gs (degree_of (degrees gs) j + e)
        (scaled t.scalar (products j t.monomial)) (expanded j g)
        (reduced-scaled q V A In L gs (degree_of (degrees gs) j + e) t.scalar (products j t.monomial)
        (P.reduced j e t.monomial G (std t h.over.0 h.standard.0) (omega (arith, l))))
        (expanded-reduced g record { over = h.over.1; standard = h.standard.1 })

    product-value : (m : List ℕ) → IsMonomial q (degrees gs) e m
        → value A gs (generator_times q (degrees gs) j m)
        ≡ A.mul (degree_of (degrees gs) j) e (evaluate A gs (power j 1)) (evaluate A gs m)
    product-value m h = value-multiple q V A In L gs 1 (power j 1) (degree_of (degrees gs) j) e (alone m)
        refl (h, tt)
        ∙ times-one q V A L.space _ ∙ ap (A.mul (degree_of (degrees gs) j) e (evaluate A gs (power j 1)))
        (linear-alone q V A L.space (evaluate A gs) m)

    expanded-value : (g : List Term) → IsReduced q A gs e g
        → value A gs (expanded j g) ≡ A.mul (degree_of (degrees gs) j) e (evaluate A gs (power j 1))
        (value A gs g)
    unfolding expanded
    expanded-value [] h = sym (mul-zero q V A In L _ _ _)
    expanded-value (t ∷ g) h =
        linear-append q V A L.space (evaluate A gs) (scaled t.scalar (products j t.monomial)) (expanded j g)
        ∙ ap₂ A.add (linear-scaled q V A L.space (evaluate A gs) t.scalar (products j t.monomial)
        ∙ ap (times A t.scalar) (P.value_is j e t.monomial G (std t h.over.0 h.standard.0) (omega (arith, l))
        ∙ product-value t.monomial h.over.0)
        ∙ sym (mul-times q V A In L _ _ t.scalar _ _))
        (expanded-value g record { over = h.over.1; standard = h.standard.1 })
        ∙ sym (L.mul-right _ _ _ _ _)

    -- the form of a product with generator j, by the products of the standard monomials
    pub through : (u : List ℕ → W) (k : List ℕ) (g h : List Term) → IsMonomial q (degrees gs) e k
        → IsReduced q A gs e g → value A gs g ≡ evaluate A gs k
        → IsReduced q A gs (degree_of (degrees gs) j + e) h
        → value A gs h ≡ evaluate A gs (joined (power j 1) k)
        → linear B u h ≡ times B (s (power j 1) k) (linear B (λ m. linear B u (products j m)) g)
    through u k g h K G' v H w =
        same-image (degree_of (degrees gs) j + e) l u h (scaled (s (power j 1) k) (expanded j g)) H
        (reduced-scaled q V A In L gs (degree_of (degrees gs) j + e) (s (power j 1) k) (expanded j g)
        (expanded-reduced g G')) (w ∙ sym both)
        ∙ linear-scaled q W B S u (s (power j 1) k) (expanded j g)
        ∙ ap (times B (s (power j 1) k)) (expanded-linear j u g)
      where
        both : value A gs (scaled (s (power j 1) k) (expanded j g)) ≡ evaluate A gs (joined (power j 1) k)
        both = linear-scaled q V A L.space (evaluate A gs) (s (power j 1) k) (expanded j g)
            ∙ ap (times A (s (power j 1) k))
            (expanded-value g G' ∙ ap (A.mul (degree_of (degrees gs) j) e (evaluate A gs (power j 1))) v
            ∙ ap (λ d. A.mul (degree_of (degrees gs) j) d (evaluate A gs (power j 1)) (evaluate A gs k))
            (sym K.degree_is) ∙ evaluate-mul q V A In L gs (power j 1) k)
            ∙ sign-twice q V A L.space (swaps (degrees gs) (power j 1) k) _
