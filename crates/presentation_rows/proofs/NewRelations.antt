-- The rows of the kernel whose pivots are none of the multiples' are the new relations.
use Rattle.std.proofs.Common.{ℕ, suc, ◌<◌, ◌↔◌, List, [], length}
use Rattle.std.specs.Prelude.{slice_index_or}
use Rattle.linear_algebra.specs.Rows.{IsPivot}
use Rattle.linear_algebra.specs.Kernels.{IsKernelOf}
use Rattle.graded_polynomials.specs.Monomials.{IsMonomials}
use Rattle.graded_polynomials.specs.Polynomials.{Polynomial}
use Rattle.graded_algebra.specs.Algebras.{Generator, degrees}
use Rattle.graded_algebra.specs.Presentations.{IsLeading, IsConsequence, IsRelationsFrom}
use Rattle.graded_algebra.specs.Vectors.{Vector, vectors}
use Rattle.presentation_rows.specs.Values.{AreValues}
use Rattle.presentation_rows.specs.Pivots.{new_relations}
use Rattle.presentation_rows.proofs.KernelLeads.{row-relation, relation-pivots, standard-pivots}
use Rattle.presentation_rows.proofs.KernelRelations.{relations-of-rows}

module _ (q d : ℕ) (mul : ℕ → ℕ → Vector q → Vector q
    → Vector q) (gs : List (Generator (Vector q))) (rs : List Polynomial)
    (ms values kernel multiples : List (List ℕ))
    (one : 1 < suc q) (M : IsMonomials q (degrees gs) d ms) (V : AreValues q (vectors q mul) gs ms values)
    (K : IsKernelOf (suc q) values kernel)
    (consequences : (k : ℕ) → k < length ms
    → IsLeading q (vectors q mul) (IsConsequence q (vectors q mul) gs rs d)
    (slice_index_or ms k []) ↔ IsPivot multiples k) where
  pub relations-from : IsRelationsFrom q (vectors q mul) gs rs d ms (new_relations d ms multiples kernel)
  relations-from = relations-of-rows q d (vectors q mul) gs rs ms kernel multiples M.each M.descending
      K.echelon (λ i l. rw (← V.count) (K.matrix i l)) (row-relation q d mul gs ms values kernel one M V K)
      (relation-pivots q d mul gs ms values kernel one M V K)
      (standard-pivots q d mul gs ms values kernel one M V K) consequences
