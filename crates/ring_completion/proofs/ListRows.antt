-- Rows over a descending list of some monomials of a degree, and the polynomials that they stand for.
use Rattle.std.proofs.Common.{◌≡◌, ℕ, suc, List, [], length, ◌⊎◌, inl, inr}
use Rattle.std.proofs.Common.{sym, ◌∙◌}
use Rattle.std.specs.Prelude.{slice_index_or}
use Rattle.linear_algebra.specs.Modular.{IsCongruent}
use Rattle.linear_algebra.specs.Rows.{IsRow}
use Rattle.linear_algebra.proofs.Congruences.{congruent_eq, congruent_trans, congruent_sym, congruent_mod}
use Rattle.graded_polynomials.specs.Monomials.{IsMonomial}
use Rattle.graded_polynomials.specs.Polynomials.{Term, coefficient, IsOver, IsPolynomial, IsSame}
use Rattle.graded_polynomials.proofs.Terms.{occurs}
use Rattle.presentation_rows.specs.RowPolynomials.{polynomial_of, row_of}
use Rattle.presentation_rows.proofs.RowTerms.{AreApart, descending-apart, coefficient-at, entry-row-of}
use Rattle.presentation_rows.proofs.RowTerms.{over-places, polynomial-of-places, placed-or-zero}
use Rattle.ring_completion.specs.Candidates.{AreSome, IsListed}

module _ {q d : ℕ} {ds : List ℕ} {ms : List (List ℕ)} (S : AreSome q ds d ms) where
  pub listed-apart : AreApart ms
  listed-apart = descending-apart ms S.descending

  pub over-list : (u : List ℕ) → IsOver q ds d (polynomial_of ms u)
  over-list = over-places q d ds ms S.each

  pub polynomial-of-list : (u : List ℕ) → IsRow (suc q) (length ms) u
      → IsPolynomial q ds d (polynomial_of ms u)
  polynomial-of-list = polynomial-of-places q d ds ms S.each S.descending

  -- what is not on the list does not occur
  pub listed-or-zero : (u m : List ℕ) → (coefficient (polynomial_of ms u) m ≡ 0) ⊎ IsListed ms m
  listed-or-zero = placed-or-zero ms

  -- a polynomial that is 0 off the list is the one that its row stands for
  pub same-as-list : (f : List Term) → IsOver q ds d f
      → ((m : List ℕ) → IsMonomial q ds d m → IsListed ms m ⊎ IsCongruent (suc q) (coefficient f m) 0)
      → IsSame q f (polynomial_of ms (row_of q ms f))
  same-as-list f o h = record { at = λ m. go m (occurs q ds d f o m) (listed-or-zero (row_of q ms f) m) }
    where
      at-listed : (m : List ℕ) → IsListed ms m
          → IsCongruent (suc q) (coefficient f m) (coefficient (polynomial_of ms (row_of q ms f)) m)
      at-listed m i = rw (← i.2)
          (congruent_trans (congruent_sym (congruent_mod (coefficient f (slice_index_or ms i.0 []))))
          (congruent_eq
          (sym (entry-row-of q ms f i.0 i.1) ∙ sym (coefficient-at ms (row_of q ms f) listed-apart i.0 i.1))))

      off : (m : List ℕ) → coefficient (polynomial_of ms (row_of q ms f)) m ≡ 0
          → IsListed ms m ⊎ IsCongruent (suc q) (coefficient f m) 0
          → IsCongruent (suc q) (coefficient f m) (coefficient (polynomial_of ms (row_of q ms f)) m)
      off m z (inl i) = at-listed m i
      off m z (inr c) = congruent_trans c (congruent_eq (sym z))

      go : (m : List ℕ) → IsMonomial q ds d m ⊎ (coefficient f m ≡ 0)
          → (coefficient (polynomial_of ms (row_of q ms f)) m ≡ 0) ⊎ IsListed ms m
          → IsCongruent (suc q) (coefficient f m) (coefficient (polynomial_of ms (row_of q ms f)) m)
      go m o (inr i) = at-listed m i
      go m (inr e) (inl z) = congruent_eq (e ∙ sym z)
      go m (inl x) (inl z) = off m z (h m x)
