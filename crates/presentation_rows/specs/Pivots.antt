-- The relations that the rows of a reduced echelon list over a list of monomials stand for.
use Rattle.std.specs.Prelude.{ℕ, cond, List, [], ◌∷◌}
use Rattle.linear_algebra.specs.Rows.{pivot, is_pivot}
use Rattle.graded_polynomials.specs.Polynomials.{Polynomial}
use Rattle.presentation_rows.specs.RowPolynomials.{polynomial_of}

-- the rows of the kernel whose pivot is none of those of the multiples, as polynomials of degree d over the
-- monomials ms
abbrev pub new_relations : ℕ → List (List ℕ) → List (List ℕ) → List (List ℕ) → List Polynomial
new_relations d ms multiples [] = []
new_relations d ms multiples (u ∷ kernel) =
    cond (is_pivot multiples (pivot u)) (new_relations d ms multiples kernel)
    (record { degree = d; terms = polynomial_of ms u } ∷ new_relations d ms multiples kernel)
