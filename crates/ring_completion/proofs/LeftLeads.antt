-- Where the list has all monomials that lead in no consequence, the relations lead at the pivots of the
-- kernel of its values.
use Rattle.std.proofs.Common.{ℕ, suc, ◌<◌, ◌↔◌, List, [], length, ◌⊎◌, inl, inr, sym, ◌∙◌, refl}
use Rattle.std.specs.Prelude.{slice_index_or}
use Rattle.linear_algebra.specs.Modular.{IsFieldModulo}
use Rattle.linear_algebra.specs.Rows.{entry, row, IsRow, IsInSpan, IsPivot}
use Rattle.linear_algebra.specs.Kernels.{IsKernelOf}
use Rattle.graded_polynomials.specs.Monomials.{IsMonomial, IsMonomials}
use Rattle.graded_polynomials.specs.Polynomials.{Term, Polynomial}
use Rattle.graded_algebra.specs.Algebras.{Generator, degrees, evaluate, IsGradedCommutative}
use Rattle.graded_algebra.specs.Presentations.{IsLeading, IsRelation, IsConsequence, IsStandard, IsRelations}
use Rattle.graded_algebra.specs.Vectors.{Vector, vectors}
use Rattle.graded_algebra.proofs.Relations.{relation-plus, consequence-relation}
use Rattle.graded_algebra.proofs.Values.{linear-same}
use Rattle.graded_algebra.proofs.VectorLemmas.{vector-space}
use Rattle.presentation_rows.specs.RowPolynomials.{polynomial_of, row_of}
use Rattle.presentation_rows.specs.Values.{AreValues}
use Rattle.presentation_rows.proofs.Leads.{pivot-of-member, leading-of-row}
use Rattle.presentation_rows.proofs.RowTerms.{row-of-is-row}
use Rattle.presentation_rows.proofs.RowValues.{value-of-kernel, kernel-of-value}
use Rattle.ring_completion.specs.Candidates.{AreSome, IsListed}
use Rattle.ring_completion.proofs.Reduction.{Separates, IsClean, LeadsClean, leads-clean}
use Rattle.ring_completion.proofs.ListRows.{over-list, same-as-list}

module _ (q : ℕ) (field : IsFieldModulo (suc q)) (mul : ℕ → ℕ → Vector q → Vector q → Vector q)
    (In : ℕ → Vector q → Type 0)
    (L : IsGradedCommutative q (Vector q) (vectors q mul) In) (gs : List (Generator (Vector q))) (n : ℕ)
    (rs : List Polynomial)
    (R : IsRelations q (vectors q mul) gs n rs) (d : ℕ) (ns : List (List ℕ))
    (M : IsMonomials q (degrees gs) d ns)
    (ms values kernel : List (List ℕ)) (S : AreSome q (degrees gs) d ms)
    (separates : Separates q (degrees gs) (vectors q mul) (IsConsequence q (vectors q mul) gs rs d) d ms)
    (V : AreValues q (vectors q mul) gs ms values) (K : IsKernelOf (suc q) values kernel) where
  pub kernel-relation : (i : ℕ) → i < length kernel
      → IsRelation q (vectors q mul) gs d (polynomial_of ms (row kernel i))
  kernel-relation i l = record {
    over = over-list S (row kernel i);
    vanishes =
        value-of-kernel q mul gs ms values V (row kernel i) (K.in_kernel i l);
  }

  clean-row : (f : List Term) → IsRelation q (vectors q mul) gs d f
      → IsClean q field (degrees gs) d ns M (vectors q mul) (IsConsequence q (vectors q mul) gs rs d)
      (λ f c. c.over) ms separates f
      → IsInSpan (suc q) kernel (entry (row_of q ms f))
  clean-row f r c = K.spans (row_of q ms f) is-row
      (kernel-of-value q mul gs ms values V (row_of q ms f)
      (sym (linear-same q (Vector q) (vectors q mul) (vector-space q mul) (evaluate (vectors q mul) gs) f
      (polynomial_of ms (row_of q ms f))
      (same-as-list S f r.over c)) ∙ r.vanishes))
    where
      is-row : IsRow (suc q) (length values) (row_of q ms f)
      is-row = rw V.count (row-of-is-row q ms f)

  pub leads-at-pivots : (k : ℕ) → k < length ms
      → IsLeading q (vectors q mul) (IsRelation q (vectors q mul) gs d) (slice_index_or ms k []) ↔ IsPivot
      kernel k
  leads-at-pivots k l = (
    (λ h. let c = clean h in
        pivot-of-member q ms S.descending field.above_one (vectors q mul) (IsRelation q (vectors q mul) gs d) kernel K.echelon
        c.member (clean-row c.member c.is_member c.clean) k l c.here c.above),
    (λ p. leading-of-row q ms S.descending field.above_one (vectors q mul) (IsRelation q (vectors q mul) gs d) kernel
        K.echelon p.0 k p.1 p.2 l (kernel-relation p.0 p.1)),
  )
    where
      clean : IsLeading q (vectors q mul) (IsRelation q (vectors q mul) gs d) (slice_index_or ms k [])
          → LeadsClean q field (degrees gs) d ns M (vectors q mul) (IsConsequence q (vectors q mul) gs rs d)
          (λ f c. c.over) ms separates
          (IsRelation q (vectors q mul) gs d) (slice_index_or ms k [])
      clean h = leads-clean q field (degrees gs) d ns M (vectors q mul)
          (IsConsequence q (vectors q mul) gs rs d) (λ f c. c.over) ms separates
          (IsRelation q (vectors q mul) gs d) (λ f r. r.over)
          (λ f t c r s. relation-plus q (Vector q) (vectors q mul) L.space gs d f t c r
          (consequence-relation q (Vector q) (vectors q mul) In L gs n rs R d t s))
          (slice_index_or ms k []) (S.each k l) (k, l, refl) h

  pub standard-off-pivots : (k : ℕ) → k < length ms
      → IsStandard q (vectors q mul) gs d (slice_index_or ms k []) ↔ (IsPivot kernel k → ⊥)
  standard-off-pivots k l = ((λ s p. s ((leads-at-pivots k l).1 p)), (λ n h. n ((leads-at-pivots k l).0 h)))

  -- the standard monomials are on the list
  pub listed-if-standard : (m : List ℕ) → IsMonomial q (degrees gs) d m → IsStandard q (vectors q mul) gs d m
      → IsListed ms m
  listed-if-standard m x s = go (separates m x)
    where
      go : IsListed ms m
          ⊎ ((IsListed ms m → ⊥) × IsLeading q (vectors q mul) (IsConsequence q (vectors q mul) gs rs d) m)
          → IsListed ms m
      go (inl i) = i
      go (inr h) = absurd (s record {
        member = h.1.member;
        is_member = consequence-relation q (Vector q) (vectors q mul) In L gs n rs R d h.1.member
            h.1.is_member;
        here = h.1.here;
        above = h.1.above;
      })
