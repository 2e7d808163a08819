-- What is left of a list, and the data of one degree together.
use Rattle.std.specs.Prelude.{ℕ, suc, cond, List, [], ◌∷◌, ◌++◌, length}
use Rattle.graded_polynomials.specs.Polynomials.{Term, Polynomial, IsOver, scaled}
use Rattle.graded_algebra.specs.Algebras.{Algebra, Generator, degrees}
use Rattle.graded_algebra.specs.Presentations.{IsConsequence}
use Rattle.graded_algebra.specs.Vectors.{Vector, vectors}
use Rattle.linear_algebra.specs.Rows.{is_pivot, IsReduced, IsRow}
use Rattle.presentation_rows.specs.RowPolynomials.{polynomial_of}
use Rattle.ring_completion.specs.Candidates.{AreCandidates}
use Rattle.ring_completion.specs.Completions.{AreProducts}
use Rattle.ring_completion.specs.Eliminations.{AreForms, AreCritical}

-- the members of a list, counted from k on, whose place is the pivot of none of the rows
abbrev pub without_pivots : {A : Type 0} → List (List ℕ) → ℕ → List A → List A
without_pivots rows k [] = []
without_pivots rows k (x ∷ xs) =
    cond (is_pivot rows k) (without_pivots rows (suc k) xs) (x ∷ without_pivots rows (suc k) xs)

-- over the list ms the row u stands for f, a sum of terms of degree d, up to a consequence of rs
abbrev pub IsForm : (q : ℕ) {V : Type 0} → Algebra V → List (Generator V) → List Polynomial → ℕ
    → List (List ℕ) → List Term → List ℕ → Type 0
IsForm q A gs rs d ms f u = IsConsequence q A gs rs d (f ++ scaled q (polynomial_of ms u))

-- a row over the list ms that stands for f is, reduced by the rows, one over what is left of the list
abbrev pub AreFormsLeft : (q : ℕ) {V : Type 0} → Algebra V → List (Generator V) → List Polynomial → ℕ
    → List (List ℕ) → List (List ℕ) → Type 0
AreFormsLeft q A gs rs d ms rows = (f : List Term) (u w : List ℕ) → IsOver q (degrees gs) d f
    → IsRow (suc q) (length ms) u → IsForm q A gs rs d ms f u → IsReduced (suc q) rows u w
    → IsForm q A gs rs d (without_pivots rows 0 ms) f (without_pivots rows 0 w)

-- ms are the candidates of degree d, with the products and forms of standard monomials and the critical rows
pub record IsCompletion (q : ℕ) (mul : ℕ → ℕ → Vector q → Vector q → Vector q)
    (gs : List (Generator (Vector q))) (rs : List Polynomial) (d : ℕ)
    (ms : List (List ℕ)) (products : ℕ → List ℕ → List Term) (forms : ℕ → List ℕ → List ℕ)
    (rows : List (List ℕ)) : Type 0 where
  pub candidates : AreCandidates q (vectors q mul) gs d ms
  pub products_are : AreProducts q (vectors q mul) gs d products
  pub forms_are : AreForms q mul gs rs d ms forms
  pub critical : AreCritical q mul gs d products forms rows
