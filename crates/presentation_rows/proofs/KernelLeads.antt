-- The relations lead at the pivots of the kernel of the values.
use Rattle.std.proofs.Common.{ℕ, suc, ◌<◌, ◌↔◌, List, [], length, sym, ◌∙◌}
use Rattle.std.specs.Prelude.{slice_index_or}
use Rattle.linear_algebra.specs.Rows.{entry, row, IsRow, IsInSpan, IsPivot}
use Rattle.linear_algebra.specs.Kernels.{IsKernelOf}
use Rattle.graded_polynomials.specs.Monomials.{IsMonomials}
use Rattle.graded_polynomials.specs.Polynomials.{Term}
use Rattle.graded_algebra.specs.Algebras.{Generator, degrees, evaluate}
use Rattle.graded_algebra.specs.Presentations.{IsLeading, IsRelation, IsStandard}
use Rattle.graded_algebra.specs.Vectors.{Vector, vectors}
use Rattle.graded_algebra.proofs.Values.{linear-same}
use Rattle.graded_algebra.proofs.VectorLemmas.{vector-space}
use Rattle.presentation_rows.specs.RowPolynomials.{polynomial_of, row_of}
use Rattle.presentation_rows.specs.Values.{AreValues}
use Rattle.presentation_rows.proofs.RowTerms.{over-row, same-as-row, row-of-is-row}
use Rattle.presentation_rows.proofs.RowValues.{value-of-kernel, kernel-of-value}
use Rattle.presentation_rows.proofs.Leads.{pivot-of-member, leading-of-row}

module _ (q d : ℕ) (mul : ℕ → ℕ → Vector q → Vector q
    → Vector q) (gs : List (Generator (Vector q))) (ms values kernel : List (List ℕ))
    (one : 1 < suc q) (M : IsMonomials q (degrees gs) d ms) (V : AreValues q (vectors q mul) gs ms values)
    (K : IsKernelOf (suc q) values kernel) where
  pub row-relation : (i : ℕ) → i < length kernel
      → IsRelation q (vectors q mul) gs d (polynomial_of ms (row kernel i))
  row-relation i l = record {
    over = over-row M (row kernel i);
    vanishes = value-of-kernel q mul gs ms values V (row kernel i) (K.in_kernel i l);
  }

  relation-row : (f : List Term) → IsRelation q (vectors q mul) gs d f
      → IsInSpan (suc q) kernel (entry (row_of q ms f))
  relation-row f r = K.spans (row_of q ms f) is-row
      (kernel-of-value q mul gs ms values V (row_of q ms f)
      (sym (linear-same q (Vector q) (vectors q mul) (vector-space q mul) (evaluate (vectors q mul) gs) f
      (polynomial_of ms (row_of q ms f))
      (same-as-row M f r.over)) ∙ r.vanishes))
    where
      is-row : IsRow (suc q) (length values) (row_of q ms f)
      is-row = rw V.count (row-of-is-row q ms f)

  pub relation-pivots : (k : ℕ) → k < length ms
      → IsLeading q (vectors q mul) (IsRelation q (vectors q mul) gs d)
      (slice_index_or ms k []) ↔ IsPivot kernel k
  relation-pivots k l = (
    (λ h. pivot-of-member q ms M.descending one (vectors q mul) (IsRelation q (vectors q mul) gs d) kernel
        K.echelon h.member (relation-row h.member h.is_member) k l h.here h.above),
    (λ p. leading-of-row q ms M.descending one (vectors q mul) (IsRelation q (vectors q mul) gs d) kernel
        K.echelon p.0 k p.1 p.2 l (row-relation p.0 p.1)),
  )

  pub standard-pivots : (k : ℕ) → k < length ms
      → IsStandard q (vectors q mul) gs d (slice_index_or ms k []) ↔ (IsPivot kernel k → ⊥)
  standard-pivots k l = ((λ s p. s ((relation-pivots k l).1 p)), (λ n h. n ((relation-pivots k l).0 h)))
