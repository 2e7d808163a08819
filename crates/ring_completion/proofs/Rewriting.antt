-- The form of a product by another factor, whose quotient is not standard.
use Rattle.std.proofs.Common.{◌≡◌, ◌≢◌, ℕ, suc, ◌+◌, ◌*◌, ◌<◌, List, [], ◌∷◌, ◌++◌, length, true, ◌⊎◌, inl}
use Rattle.std.proofs.Common.{inr, arith, ap, sym, ◌∙◌, refl}
use Rattle.std.specs.List.{AllByRecursion as Each}
use Rattle.std.proofs.lemmas.Bool.{cases_order}
use Rattle.linear_algebra.specs.Modular.{IsCongruent, IsFieldModulo}
use Rattle.linear_algebra.specs.Rows.{IsRow}
use Rattle.linear_algebra.proofs.Congruences.{congruent_eq, congruent_trans, congruent_sym}
use Rattle.linear_algebra.proofs.Congruences.{congruent_mul_left, congruent_mul_right}
use Rattle.graded_polynomials.specs.Monomials.{IsMonomial, fits, joined, swaps, sign}
use Rattle.graded_polynomials.specs.Polynomials.{Term, Polynomial, coefficient, multiple, scaled, IsOver}
use Rattle.graded_polynomials.specs.Polynomials.{IsSame}
use Rattle.graded_polynomials.specs.Texts.{power}
use Rattle.graded_polynomials.proofs.Monomials.{over-multiple}
use Rattle.graded_polynomials.proofs.Terms.{coefficient-scaled}
use Rattle.graded_algebra.specs.Algebras.{Generator, degrees, times, IsGradedCommutative}
use Rattle.graded_algebra.specs.Presentations.{IsRelations, IsConsequence}
use Rattle.graded_algebra.specs.Vectors.{Vector, vectors}
use Rattle.graded_algebra.proofs.VectorLemmas.{vector-comm}
use Rattle.presentation_rows.specs.RowPolynomials.{polynomial_of}
use Rattle.presentation_rows.specs.Values.{vector}
use Rattle.ring_completion.specs.Candidates.{AreSome}
use Rattle.ring_completion.specs.Completions.{alone, generator_times, degree_of, IsGenerator, IsStandardOf}
use Rattle.ring_completion.specs.Completions.{AreProducts, IsReduced}
use Rattle.ring_completion.specs.Eliminations.{form_of}
use Rattle.ring_completion.proofs.Quotients.{degree-positive}
use Rattle.ring_completion.proofs.LinearForms.{sign-square}
use Rattle.ring_completion.proofs.Rests.{IsRest, rest-zero, rest-plus, rest-same, rest-scaled, rest-moved}
use Rattle.ring_completion.proofs.Rests.{rest-of-row, row-of-rest, same-consequence, over-plus, at-plus}
use Rattle.ring_completion.proofs.CriticalRows.{multiple-front, multiple-of-scaled, difference}
use Rattle.ring_completion.proofs.CriticalRows.{difference-consequence, at-difference, exchanged}

module _ (q : ℕ) (field : IsFieldModulo (suc q)) (mul : ℕ → ℕ → Vector q → Vector q → Vector q)
    (In : ℕ → Vector q → Type 0)
    (L : IsGradedCommutative q (Vector q) (vectors q mul) In) (gs : List (Generator (Vector q)))
    (positive : Each (λ d. 0 < d) (degrees gs))
    (free : (c : ℕ) → times (vectors q mul) c (vectors q mul).one ≡ (vectors q mul).zero
    → IsCongruent (suc q) c 0)
    (n : ℕ) (rs : List Polynomial) (R : IsRelations q (vectors q mul) gs n rs) (ms : List (List ℕ))
    (C : AreSome q (degrees gs) (suc n) ms)
    (products : ℕ → List ℕ → List Term) (P : AreProducts q (vectors q mul) gs (suc n) products)
    (forms : ℕ → List ℕ → List ℕ) where
  abbrev δ : ℕ → ℕ
  δ i = degree_of (degrees gs) i

  abbrev times_x : ℕ → List Term → List Term
  times_x i f = multiple q (degrees gs) 1 (power i 1) f

  abbrev Rest : List Term → Vector q → Type 0
  Rest f v = IsRest q mul gs (suc n) rs ms C f v

  abbrev IsForm : ℕ → List ℕ → Type 0
  IsForm i s = IsRow (suc q) (length ms) (forms i s)
      × IsConsequence q (vectors q mul) gs rs (suc n)
      (generator_times q (degrees gs) i s ++ scaled q (polynomial_of ms (forms i s)))

  over-product : (i e : ℕ) (f : List Term) → IsGenerator q (degrees gs) i → δ i + e ≡ suc n
      → IsOver q (degrees gs) e f → IsOver q (degrees gs) (suc n) (times_x i f)
  over-product i e f I d o = over-multiple q (degrees gs) (δ i) e (suc n) 1 (power i 1) f I o d

  sum-rest : (j e : ℕ) → IsGenerator q (degrees gs) j → δ j + e ≡ suc n → (g : List Term)
      → IsOver q (degrees gs) e g → Each (λ t. IsForm j t.monomial) g
      → Rest (times_x j g) (form_of q mul gs forms j g)
  sum-rest j e J d [] o h = rest-zero q mul gs (suc n) rs ms C
  sum-rest j e J d (t ∷ g) o h =
      rw (vector-comm q mul (times (vectors q mul) t.scalar (vector q (forms j t.monomial)))
      (form_of q mul gs forms j g))
      (rest-same q mul gs (suc n) rs ms C
      (times_x j g ++ scaled t.scalar (generator_times q (degrees gs) j t.monomial)) (times_x j (t ∷ g)) _
      (over-product j e (t ∷ g) J d o) (multiple-front q (degrees gs) (power j 1) t g)
      (rest-plus q mul gs (suc n) rs ms C (times_x j g) (generator_times q (degrees gs) j t.monomial)
      (form_of q mul gs forms j g) (vector q (forms j t.monomial)) t.scalar
      (over-product j e g J d o.1) (over-product j e (alone t.monomial) J d (o.0, tt))
      (sum-rest j e J d g o.1 h.1)
      (rest-of-row q mul gs (suc n) rs ms C (generator_times q (degrees gs) j t.monomial) (forms j t.monomial)
      h.0.0 h.0.1)))

  module _ (i j e : ℕ) (r : List ℕ) (ne : i ≢ j) (I : IsGenerator q (degrees gs) i)
      (J : IsGenerator q (degrees gs) j) (X : IsStandardOf q (vectors q mul) gs e r)
      (d : δ i + (δ j + e) ≡ suc n) (f : fits q (degrees gs) (joined (power j 1) r) ≡ true)
      (h : Each (λ t. IsForm j t.monomial) (products i r)) where
    abbrev c : ℕ
    c = sign q (δ i * δ j)

    abbrev s : ℕ
    s = sign q (swaps (degrees gs) (power j 1) r)

    other : δ j + (δ i + e) ≡ suc n
    other = omega (arith, d)

    reduced : IsReduced q (vectors q mul) gs (δ i + e) (products i r)
    reduced = P.reduced i e r I X (let p = degree-positive (degrees gs) j positive J.within in
        omega (arith, p, d))

    over-x : IsOver q (degrees gs) (δ i + e) (generator_times q (degrees gs) i r)
    over-x = over-multiple q (degrees gs) (δ i) e (δ i + e) 1 (power i 1) (alone r) I (X.monomial, tt) refl

    -- x_j x_i r
    inner : Rest (times_x j (generator_times q (degrees gs) i r)) (form_of q mul gs forms j (products i r))
    inner = rest-moved q mul gs (suc n) rs ms C (times_x j (products i r))
        (times_x j (generator_times q (degrees gs) i r)) _
        (over-product j (δ i + e) (products i r) J other reduced.over)
        (over-product j (δ i + e) (generator_times q (degrees gs) i r) J other over-x)
        (same-consequence q mul gs (suc n) rs ms C
        (difference q field mul In L gs positive free n rs R ms C products P j i r)
        (times_x j (products i r) ++ scaled q (times_x j (generator_times q (degrees gs) i r)))
        (over-plus q mul gs (suc n) rs ms C (times_x j (products i r))
        (times_x j (generator_times q (degrees gs) i r)) q
        (over-product j (δ i + e) (products i r) J other reduced.over)
        (over-product j (δ i + e) (generator_times q (degrees gs) i r) J other over-x))
        (record {
          at = λ m. congruent_eq
              (at-plus q mul gs (suc n) rs ms C (times_x j (products i r))
              (times_x j (generator_times q (degrees gs) i r)) q m
              ∙ sym (at-difference q field mul In L gs positive free n rs R ms C products P j i r m));
        })
        (difference-consequence q field mul In L gs positive free n rs R ms C products P j i e r J I X other))
        (sum-rest j (δ i + e) J other (products i r) reduced.over h)

    -- the exchange of two generators, in either order
    turned : (m : List ℕ)
        → IsCongruent (suc q) (coefficient (times_x i (generator_times q (degrees gs) j r)) m)
        (c * coefficient (times_x j (generator_times q (degrees gs) i r)) m)
    turned m = go (cases_order i j)
      where
        go : (i ≡ j) ⊎ ((i < j) ⊎ (j < i))
            → IsCongruent (suc q) (coefficient (times_x i (generator_times q (degrees gs) j r)) m)
            (c * coefficient (times_x j (generator_times q (degrees gs) i r)) m)
        go (inl x) = absurd (ne x)
        go (inr (inl l)) = exchanged q field mul In L gs positive free n rs R ms C products P i j r m l
        go (inr (inr l)) = congruent_sym
            (congruent_trans
            (congruent_mul_left c
            (exchanged q field mul In L gs positive free n rs R ms C products P j i r m l))
            (congruent_trans
            (congruent_eq (ap (λ k. c * (sign q k * z)) (let y : δ j * δ i ≡ δ i * δ j = omega arith in y)
            ∙ (let y : c * (c * z) ≡ (c * c) * z = omega arith in y)))
            (congruent_trans (congruent_mul_right z (sign-square q (δ i * δ j)))
            (congruent_eq (omega arith)))))
          where
            z : ℕ
            z = coefficient (times_x i (generator_times q (degrees gs) j r)) m

    -- x_j r is the sign times the monomial
    by-sign : (m : List ℕ) → coefficient (times_x i (generator_times q (degrees gs) j r)) m
        ≡ s * coefficient (generator_times q (degrees gs) i (joined (power j 1) r)) m
    by-sign m = rw f
        (ap (λ k. coefficient (times_x i (record { scalar = k; monomial = joined (power j 1) r } ∷ [])) m)
        (let y : 1 * (s * 1) ≡ s * 1 = omega arith in y)
        ∙ multiple-of-scaled q (degrees gs) 1 s (power i 1) (alone (joined (power j 1) r)) m)

    same : IsSame q (generator_times q (degrees gs) i (joined (power j 1) r))
        (scaled (s * c) (times_x j (generator_times q (degrees gs) i r)))
    same = record { at = λ m. at m }
      where
        at : (m : List ℕ)
            → IsCongruent (suc q) (coefficient (generator_times q (degrees gs) i (joined (power j 1) r)) m)
            (coefficient (scaled (s * c) (times_x j (generator_times q (degrees gs) i r))) m)
        at m = congruent_sym
            (congruent_trans
            (congruent_eq (coefficient-scaled (s * c) (times_x j (generator_times q (degrees gs) i r)) m
            ∙ (let y : (s * c) * w ≡ s * (c * w) = omega arith in y)))
            (congruent_trans (congruent_mul_left s (congruent_sym (turned m)))
            (congruent_trans
            (congruent_eq
            (ap (λ z. s * z) (by-sign m) ∙ (let y : s * (s * v) ≡ (s * s) * v = omega arith in y)))
            (congruent_trans (congruent_mul_right v (sign-square q (swaps (degrees gs) (power j 1) r)))
            (congruent_eq (omega arith))))))
          where
            w : ℕ
            w = coefficient (times_x j (generator_times q (degrees gs) i r)) m

            v : ℕ
            v = coefficient (generator_times q (degrees gs) i (joined (power j 1) r)) m

    -- the form of x_i s, where s is x_j r, is that of the products of x_i r, times x_j
    pub form-by-factor : IsMonomial q (degrees gs) (δ j + e) (joined (power j 1) r) → (u : List ℕ)
        → vector q u ≡ times (vectors q mul) (sign q (swaps (degrees gs) (power j 1) r) * sign q (δ i * δ j))
        (form_of q mul gs forms j (products i r))
        → IsConsequence q (vectors q mul) gs rs (suc n)
        (generator_times q (degrees gs) i (joined (power j 1) r) ++ scaled q (polynomial_of ms u))
    form-by-factor M u v =
        row-of-rest q mul gs (suc n) rs ms C (generator_times q (degrees gs) i (joined (power j 1) r)) u over
        (rw v (rest-same q mul gs (suc n) rs ms C
        (scaled (s * c) (times_x j (generator_times q (degrees gs) i r)))
        (generator_times q (degrees gs) i (joined (power j 1) r)) _ over same
        (rest-scaled q mul gs (suc n) rs ms C (times_x j (generator_times q (degrees gs) i r)) _ (s * c)
        (over-product j (δ i + e) (generator_times q (degrees gs) i r) J other over-x) inner)))
      where
        over : IsOver q (degrees gs) (suc n) (generator_times q (degrees gs) i (joined (power j 1) r))
        over = over-product i (δ j + e) (alone (joined (power j 1) r)) I d (M, tt)
