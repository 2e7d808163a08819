-- What the tables of lower degrees tell of the next degree.
use Rattle.std.specs.Prelude.{ℕ, suc, ◌-◌, ◌<◌, List, [], ◌++◌, length, slice_index_or}
use Rattle.std.specs.List.{AllByRecursion as Each}
use Rattle.linear_algebra.specs.Modular.{IsFieldModulo}
use Rattle.linear_algebra.specs.Rows.{row}
use Rattle.graded_polynomials.specs.Polynomials.{Polynomial, scaled}
use Rattle.graded_algebra.specs.Algebras.{Generator, degrees}
use Rattle.graded_algebra.specs.Presentations.{IsConsequence, IsRelations}
use Rattle.graded_algebra.specs.Vectors.{Vector, GradedAlgebra, algebra}
use Rattle.presentation_rows.specs.RowPolynomials.{polynomial_of}
use Rattle.ring_completion.specs.Candidates.{AreCandidates, AreLeft}
use Rattle.ring_completion.specs.Completions.{generator_times}
use Rattle.ring_degree.specs.declared.table.Table.{Table}
use Rattle.ring_degree.specs.declared.step.Step.{Step}
use Rattle.ring_degree.specs.Tables.{at_generator, standard_at, rows_at, AreTablesOf}

-- gs and rs are generators and relations through degree n of the algebra, with these tables
pub record IsRingBelow (q : ℕ) (G : GradedAlgebra q) (gs : List (Generator (Vector q)))
    (rs : List Polynomial) (n : ℕ) (tables : List Table) : Type 0 where
  pub field : IsFieldModulo (suc q)
  pub positive : Each (λ e. 0 < e) (degrees gs)
  pub relations : IsRelations q (algebra q G) gs n rs
  pub tables_are : AreTablesOf q G gs n tables

-- x has the candidates of degree n + 1, the monomials that lead in no consequence of the relations, and for
-- each product of a generator with a standard monomial a row over these, from which it differs by a
-- consequence
pub record IsStep (q : ℕ) (G : GradedAlgebra q) (gs : List (Generator (Vector q)))
    (rs : List Polynomial) (n : ℕ) (tables : List Table) (x : Step) : Type 0 where
  pub candidates_are : AreCandidates q (algebra q G) gs (suc n) x.candidates
  pub left_are : AreLeft q (algebra q G) gs rs (suc n) x.left
  pub forms_are : (i k : ℕ) → i < length (degrees gs)
      → k < length (standard_at tables (suc n - at_generator (degrees gs) i))
      → IsConsequence q (algebra q G) gs rs (suc n)
      (generator_times q (degrees gs) i
      (slice_index_or (standard_at tables (suc n - at_generator (degrees gs) i)) k [])
      ++ scaled q (polynomial_of x.left (row (rows_at x.forms.items i) k)))
