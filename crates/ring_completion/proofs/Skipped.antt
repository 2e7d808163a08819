-- Where the product of two generators with a standard monomial is a candidate, their exchange is 0.
use Rattle.std.proofs.Common.{◌≡◌, ℕ, suc, ◌+◌, ◌*◌, ◌<◌, ◌≤◌, List, [], ◌++◌, true, arith, ap, ap₂, sym, ◌∙◌}
use Rattle.std.proofs.Common.{refl}
use Rattle.std.specs.List.{AllByRecursion as Each}
use Rattle.linear_algebra.specs.Modular.{IsCongruent, IsFieldModulo}
use Rattle.linear_algebra.proofs.Congruences.{congruent_refl, congruent_eq, congruent_trans, congruent_add}
use Rattle.linear_algebra.proofs.Congruences.{to_congruent}
use Rattle.graded_polynomials.specs.Monomials.{IsMonomial, fits, joined, swaps, sign}
use Rattle.graded_polynomials.specs.Polynomials.{Term, Polynomial, coefficient, multiple, scaled, IsSame}
use Rattle.graded_polynomials.specs.Texts.{power}
use Rattle.graded_polynomials.proofs.Monomials.{monomial-joined}
use Rattle.graded_algebra.specs.Algebras.{Generator, degrees, times, IsGradedCommutative}
use Rattle.graded_algebra.specs.Presentations.{IsRelations}
use Rattle.graded_algebra.specs.Vectors.{Vector, vectors}
use Rattle.graded_algebra.proofs.Values.{linear-same}
use Rattle.graded_algebra.proofs.VectorLemmas.{vector-space}
use Rattle.presentation_rows.specs.Values.{vector}
use Rattle.ring_completion.specs.Candidates.{IsListed, AreCandidates}
use Rattle.ring_completion.specs.Completions.{generator_times, degree_of, IsGenerator, IsStandardOf}
use Rattle.ring_completion.specs.Completions.{IsReduced, AreProducts}
use Rattle.ring_completion.specs.Eliminations.{AreForms, form_of, exchange}
use Rattle.ring_completion.proofs.CriticalRows.{exchanged, multiple-front}
use Rattle.ring_completion.proofs.Joins.{joined-assoc, joined-comm, fits-right}
use Rattle.ring_completion.proofs.ListVectors.{coefficients, coefficients-same, coefficients-plus}
use Rattle.ring_completion.proofs.ListVectors.{coefficients-empty}
use Rattle.ring_completion.proofs.Lower.{known, standard-same}
use Rattle.ring_completion.proofs.Quotients.{degree-positive}
use Rattle.graded_polynomials.proofs.Terms.{coefficient-append, coefficient-scaled}
use Rattle.graded_algebra.proofs.Vectors.{zero-add}

module _ (q : ℕ) (field : IsFieldModulo (suc q)) (mul : ℕ → ℕ → Vector q → Vector q → Vector q)
    (In : ℕ → Vector q → Type 0)
    (L : IsGradedCommutative q (Vector q) (vectors q mul) In) (gs : List (Generator (Vector q)))
    (positive : Each (λ d. 0 < d) (degrees gs))
    (free : (c : ℕ) → times (vectors q mul) c (vectors q mul).one ≡ (vectors q mul).zero
    → IsCongruent (suc q) c 0)
    (n : ℕ) (rs : List Polynomial) (R : IsRelations q (vectors q mul) gs n rs) (ms : List (List ℕ))
    (C : AreCandidates q (vectors q mul) gs (suc n) ms)
    (products : ℕ → List ℕ → List Term) (P : AreProducts q (vectors q mul) gs (suc n) products)
    (forms : ℕ → List ℕ → List ℕ) (F : AreForms q mul gs rs (suc n) ms forms) where
  abbrev δ : ℕ → ℕ
  δ i = degree_of (degrees gs) i

  -- the form of x_i (x_j s) is the row of that product
  form-at : (i j e : ℕ) (s : List ℕ) → IsGenerator q (degrees gs) i → IsGenerator q (degrees gs) j
      → IsStandardOf q (vectors q mul) gs e s
      → δ i + (δ j + e) ≡ suc n → IsListed ms (joined (power i 1) (joined (power j 1) s))
      → form_of q mul gs forms i (products j s)
      ≡ coefficients q mul ms (multiple q (degrees gs) 1 (power i 1) (generator_times q (degrees gs) j s))
  form-at i j e s I J X d l =
      linear-same q (Vector q) (vectors q mul) (vector-space q mul) (λ s. vector q (forms i s)) (products j s)
      (generator_times q (degrees gs) j s)
      (standard-same q (Vector q) (vectors q mul) In L gs (δ j + e)
      (known q (Vector q) (vectors q mul) In L gs field positive free n rs R (δ j + e) low)
      (products j s) (generator_times q (degrees gs) j s) (P.reduced j e s J X low') direct
      (P.value_is j e s J X low'))
      ∙ at-product
    where
      M : IsMonomial q (degrees gs) (suc n) (joined (power i 1) (joined (power j 1) s))
      M = let z = C.some.each l.0 l.1 in rw l.2 at z

      f : fits q (degrees gs) (joined (power j 1) s) ≡ true
      f = fits-right q (degrees gs) (power i 1) (joined (power j 1) s) M.fitting

      p : 0 < δ i
      p = degree-positive (degrees gs) i positive I.within

      low : δ j + e ≤ n
      low = omega (arith, p, d)

      low' : δ j + e < suc n
      low' = omega (arith, low)

      N : IsMonomial q (degrees gs) (δ j + e) (joined (power j 1) s)
      N = monomial-joined q (degrees gs) (δ j) e (δ j + e) (power j 1) s J X.monomial refl f

      standard : IsStandardOf q (vectors q mul) gs (δ j + e) (joined (power j 1) s)
      standard = record {
        monomial = N;
        standard =
            C.each l.0 i (δ j + e) (joined (power j 1) s) l.1
            (rw l.2 record { monomial = N; product = refl });
      }

      direct : IsReduced q (vectors q mul) gs (δ j + e) (generator_times q (degrees gs) j s)
      direct = rw f record { over = (N, tt); standard = (standard.standard, tt) }

      at-product : form_of q mul gs forms i (generator_times q (degrees gs) j s)
          ≡ coefficients q mul ms (multiple q (degrees gs) 1 (power i 1) (generator_times q (degrees gs) j s))
      at-product = rw f
          ((vector-space q mul).add-zero _
          ∙ ap (times (vectors q mul) c)
          (ap (vector q) (F.listed i (δ j + e) (joined (power j 1) s) I standard d l))
          ∙ sym (coefficients-same q mul ms
          (multiple-front q (degrees gs) (power i 1)
          (record { scalar = c; monomial = joined (power j 1) s }) [])
          ∙ coefficients-plus q mul ms [] (generator_times q (degrees gs) i (joined (power j 1) s)) c
          ∙ ap (λ v. (vectors q mul).add v
          (times (vectors q mul) c
          (coefficients q mul ms (generator_times q (degrees gs) i (joined (power j 1) s)))))
          (coefficients-empty q mul ms)
          ∙ zero-add q (Vector q) (vectors q mul) (vector-space q mul) _))
        where
          c : ℕ
          c = 1 * (sign q (swaps (degrees gs) (power j 1) s) * 1)

  pub exchange-at-candidate : (i j e : ℕ) (s : List ℕ) → i < j → IsGenerator q (degrees gs) i
      → IsGenerator q (degrees gs) j → IsStandardOf q (vectors q mul) gs e s
      → δ i + (δ j + e) ≡ suc n → IsListed ms (joined (power i 1) (joined (power j 1) s))
      → exchange q mul gs products forms i j s ≡ (vectors q mul).zero
  exchange-at-candidate i j e s b I J X d l =
      ap₂ (λ x y. (vectors q mul).add x (times (vectors q mul) (q * sign q (δ i * δ j)) y))
      (form-at i j e s I J X d l)
      (form-at j i e s J I X (omega (arith, d)) (rw turned l))
      ∙ sym (coefficients-plus q mul ms
      (multiple q (degrees gs) 1 (power i 1) (generator_times q (degrees gs) j s))
      (multiple q (degrees gs) 1 (power j 1) (generator_times q (degrees gs) i s)) (q * sign q (δ i * δ j)))
      ∙ coefficients-same q mul ms nothing ∙ coefficients-empty q mul ms
    where
      turned : joined (power j 1) (joined (power i 1) s) ≡ joined (power i 1) (joined (power j 1) s)
      turned = sym (joined-assoc (power j 1) (power i 1) s)
          ∙ ap (λ a. joined a s) (joined-comm (power j 1) (power i 1))
          ∙ joined-assoc (power i 1) (power j 1) s

      nothing : IsSame q (multiple q (degrees gs) 1 (power i 1) (generator_times q (degrees gs) j s)
          ++ scaled (q * sign q (δ i * δ j))
          (multiple q (degrees gs) 1 (power j 1) (generator_times q (degrees gs) i s))) []
      nothing = record { at = λ m. at m }
        where
          at : (m : List ℕ)
              → IsCongruent (suc q)
              (coefficient (multiple q (degrees gs) 1 (power i 1) (generator_times q (degrees gs) j s)
              ++ scaled (q * sign q (δ i * δ j))
              (multiple q (degrees gs) 1 (power j 1) (generator_times q (degrees gs) i s))) m) 0
          at m = congruent_trans
              (congruent_eq
              (coefficient-append (multiple q (degrees gs) 1 (power i 1) (generator_times q (degrees gs) j s))
              (scaled (q * sign q (δ i * δ j))
              (multiple q (degrees gs) 1 (power j 1) (generator_times q (degrees gs) i s))) m
              ∙ ap (λ z. coefficient
              (multiple q (degrees gs) 1 (power i 1) (generator_times q (degrees gs) j s)) m + z)
              (coefficient-scaled (q * sign q (δ i * δ j))
              (multiple q (degrees gs) 1 (power j 1) (generator_times q (degrees gs) i s)) m)))
              (congruent_trans
              (congruent_add
              (exchanged q field mul In L gs positive free n rs R ms C.some products P i j s m b)
              (congruent_refl _))
              (to_congruent 0
              (sign q (δ i * δ j) * coefficient
              (multiple q (degrees gs) 1 (power j 1) (generator_times q (degrees gs) i s)) m) (omega arith)))
