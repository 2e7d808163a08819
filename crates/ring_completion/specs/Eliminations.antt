-- The rows, over the candidates of a degree, whose reduced echelon list tells which candidates lead in the
-- consequences of lower relations (Becker and Weispfenning, "Groebner Bases", 5.3: critical pairs).
use Rattle.std.specs.Prelude.{◌≡◌, ℕ, suc, ◌+◌, ◌*◌, ◌<◌, ◌⊎◌, true, List, ◌++◌, length}
use Rattle.linear_algebra.specs.Rows.{row, IsRow, IsInSpan}
use Rattle.graded_polynomials.specs.Monomials.{joined, sign, is_exterior}
use Rattle.graded_polynomials.specs.Polynomials.{Term, Polynomial, scaled}
use Rattle.graded_polynomials.specs.Texts.{power}
use Rattle.graded_algebra.specs.Algebras.{Generator, degrees, linear, times}
use Rattle.graded_algebra.specs.Presentations.{IsConsequence}
use Rattle.graded_algebra.specs.Vectors.{Vector, vectors}
use Rattle.presentation_rows.specs.RowPolynomials.{polynomial_of, row_of}
use Rattle.presentation_rows.specs.Values.{vector}
use Rattle.ring_completion.specs.Candidates.{IsListed}
use Rattle.ring_completion.specs.Completions.{generator_times, degree_of, IsGenerator, IsStandardOf}
use Rattle.ring_completion.specs.Completions.{IsClearBefore}

module _ (q : ℕ) (mul : ℕ → ℕ → Vector q → Vector q → Vector q) (gs : List (Generator (Vector q))) where
  -- forms i s is a row over ms that differs from generator i times s, of degree d, by a consequence of rs;
  -- and it is the row of the product where that is on the list
  pub record AreForms (rs : List Polynomial) (d : ℕ) (ms : List (List ℕ))
      (forms : ℕ → List ℕ → List ℕ) : Type 0 where
    pub row : (i e : ℕ) (s : List ℕ) → IsGenerator q (degrees gs) i → IsStandardOf q (vectors q mul) gs e s
        → degree_of (degrees gs) i + e ≡ d
        → IsRow (suc q) (length ms) (forms i s)
    pub same : (i e : ℕ) (s : List ℕ) → IsGenerator q (degrees gs) i → IsStandardOf q (vectors q mul) gs e s
        → degree_of (degrees gs) i + e ≡ d
        → IsConsequence q (vectors q mul) gs rs d
        (generator_times q (degrees gs) i s ++ scaled q (polynomial_of ms (forms i s)))
    pub listed : (i e : ℕ) (s : List ℕ) → IsGenerator q (degrees gs) i → IsStandardOf q (vectors q mul) gs e s
        → degree_of (degrees gs) i + e ≡ d
        → IsListed ms (joined (power i 1) s) → forms i s ≡ row_of q ms (generator_times q (degrees gs) i s)

  -- the form of generator i times a sum of standard monomials
  abbrev pub form_of : (ℕ → List ℕ → List ℕ) → ℕ → List Term → Vector q
  form_of forms i g = linear (vectors q mul) (λ s. vector q (forms i s)) g

  -- the forms of x_i (x_j s) and of x_j (x_i s) with its sign, the second taken from the first
  abbrev pub exchange : (ℕ → List ℕ → List Term) → (ℕ → List ℕ → List ℕ) → ℕ → ℕ → List ℕ → Vector q
  exchange products forms i j s = (vectors q mul).add (form_of forms i (products j s))
      (times (vectors q mul) (q * sign q (degree_of (degrees gs) i * degree_of (degrees gs) j))
      (form_of forms j (products i s)))

  -- an exchange of the first generator of a monomial with a later one
  pub record IsExchange (d : ℕ) (products : ℕ → List ℕ → List Term) (forms : ℕ → List ℕ → List ℕ)
      (v : Vector q) : Type 0 where
    pub first : ℕ
    pub second : ℕ
    pub low : ℕ
    pub monomial : List ℕ
    pub ordered : first < second
    pub first_is : IsGenerator q (degrees gs) first
    pub second_is : IsGenerator q (degrees gs) second
    pub standard : IsStandardOf q (vectors q mul) gs low monomial
    pub clear : IsClearBefore first monomial
    pub degree_is : degree_of (degrees gs) first + (degree_of (degrees gs) second + low) ≡ d
    pub vector_is : v ≡ exchange products forms first second monomial

  -- the square of the first generator of a monomial
  pub record IsSquare (d : ℕ) (products : ℕ → List ℕ → List Term) (forms : ℕ → List ℕ → List ℕ)
      (v : Vector q) : Type 0 where
    pub generator : ℕ
    pub low : ℕ
    pub monomial : List ℕ
    pub generator_is : IsGenerator q (degrees gs) generator
    pub exterior : is_exterior q (degree_of (degrees gs) generator) ≡ true
    pub standard : IsStandardOf q (vectors q mul) gs low monomial
    pub clear : IsClearBefore generator monomial
    pub degree_is : degree_of (degrees gs) generator + (degree_of (degrees gs) generator + low) ≡ d
    pub vector_is : v ≡ form_of forms generator (products generator monomial)

  -- each of the rows is that of an exchange or of a square, and their span has all of them: rows that are 0
  -- can be left out
  pub record AreCritical (d : ℕ) (products : ℕ → List ℕ → List Term) (forms : ℕ → List ℕ → List ℕ)
      (rows : List (List ℕ)) : Type 0 where
    pub each : (k : ℕ) → k < length rows → IsExchange d products forms (vector q (row rows k))
        ⊎ IsSquare d products forms (vector q (row rows k))
    pub exchanges : (v : Vector q) → IsExchange d products forms v → IsInSpan (suc q) rows (λ j. (v j).0)
    pub squares : (v : Vector q) → IsSquare d products forms v → IsInSpan (suc q) rows (λ j. (v j).0)
