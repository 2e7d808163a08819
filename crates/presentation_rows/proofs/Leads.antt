-- Polynomials lead at the pivots of the reduced echelon list of their rows.
use Rattle.std.proofs.Common.{◌≡◌, ◌≢◌, ℕ, suc, ◌%◌, ◌<◌, List, [], length, ◌⊎◌, inl, inr, arith, ap, sym, ◌∙◌}
use Rattle.std.specs.Prelude.{slice_index_or}
use Rattle.std.proofs.Math.Nat.{mod-eq_of_lt}
use Rattle.std.proofs.lemmas.Bool.{cases_order}
use Rattle.linear_algebra.specs.Modular.{IsCongruent}
use Rattle.linear_algebra.specs.Rows.{entry, row, pivot, IsEchelon, IsInSpan, IsPivot}
use Rattle.linear_algebra.proofs.Congruences.{congruent_eq, congruent_trans, congruent_sym, congruent_mod}
use Rattle.linear_algebra.proofs.PivotLemmas.{before_pivot}
use Rattle.linear_algebra.proofs.Pivots.{first_place_is_pivot}
use Rattle.linear_algebra.proofs.EchelonLists.{HasPivots-from_echelon, Combines-from_combination}
use Rattle.graded_polynomials.specs.Monomials.{IsGreater}
use Rattle.graded_polynomials.specs.Polynomials.{Term, coefficient}
use Rattle.graded_polynomials.proofs.Order.{greater-self, greater-both}
use Rattle.graded_algebra.specs.Algebras.{Algebra}
use Rattle.graded_algebra.specs.Presentations.{IsLeading}
use Rattle.graded_algebra.proofs.Leading.{not-zero}
use Rattle.presentation_rows.specs.RowPolynomials.{polynomial_of, row_of}
use Rattle.presentation_rows.proofs.RowTerms.{Descends, descending-apart, coefficient-at, entry-row-of}
use Rattle.presentation_rows.proofs.RowTerms.{placed-or-zero}

module _ (q : ℕ) (ms : List (List ℕ)) (D : Descends ms) (one : 1 < suc q) {V : Type 0} (A : Algebra V)
    (P : List Term → Type 0) (E : List (List ℕ)) (e : IsEchelon E) where
  -- a member of the span leads at a pivot
  pub pivot-of-member : (f : List Term) → IsInSpan (suc q) E (entry (row_of q ms f)) → (k : ℕ)
      → k < length ms
      → coefficient f (slice_index_or ms k []) % suc q ≢ 0
      → ((n : List ℕ) → IsGreater n (slice_index_or ms k []) → IsCongruent (suc q) (coefficient f n) 0)
      → IsPivot E k
  pivot-of-member f s k l here above =
      first_place_is_pivot (suc q) (length E) s.0 (λ i j. entry (row E i) j) (λ i. pivot (row E i))
      (entry (row_of q ms f))
      (HasPivots-from_echelon e) (Combines-from_combination s.1) k
      (λ j b. congruent_trans (at j (omega arith)) (above (slice_index_or ms j []) (D j k b l)))
      (λ z. not-zero (congruent_trans (congruent_sym (at k l)) z) here)
    where
      at : (j : ℕ) → j < length ms
          → IsCongruent (suc q) (entry (row_of q ms f) j) (coefficient f (slice_index_or ms j []))
      at j b = congruent_trans (congruent_eq (entry-row-of q ms f j b))
          (congruent_mod (coefficient f (slice_index_or ms j [])))

  -- a greater monomial stands before
  stands-before : (i k : ℕ) → i < length ms → k < length ms
      → IsGreater (slice_index_or ms i []) (slice_index_or ms k []) → i < k
  stands-before i k l r g = go (cases_order i k)
    where
      go : (i ≡ k) ⊎ ((i < k) ⊎ (k < i)) → i < k
      go (inl e) = absurd
          (greater-self (slice_index_or ms k [])
          (let h : IsGreater (slice_index_or ms k []) (slice_index_or ms k []) =
          rw (← e) (rw (← e) at g) in h))
      go (inr (inl b)) = b
      go (inr (inr b)) = absurd (greater-both _ _ g (D k i b l))

  -- a row leads at its pivot
  pub leading-of-row : (i k : ℕ) → i < length E → pivot (row E i) ≡ k → k < length ms
      → P (polynomial_of ms (row E i)) → IsLeading q A P (slice_index_or ms k [])
  leading-of-row i k b p l m = record {
    member = polynomial_of ms (row E i);
    is_member = m;
    here = λ z. absurd (let o : 1 % suc q ≡ 1 = mod-eq_of_lt one in let y : 1 % suc q ≡ 0 =
        ap (λ x. x % suc q) (sym here) ∙ z in omega (arith, o, y));
    above = λ n g. above n g (placed-or-zero ms (row E i) n);
  }
    where
      here : coefficient (polynomial_of ms (row E i)) (slice_index_or ms k []) ≡ 1
      here = coefficient-at ms (row E i) (descending-apart ms D) k l ∙ ap (entry (row E i)) (sym p)
          ∙ e.monic i b

      above : (n : List ℕ) → IsGreater n (slice_index_or ms k [])
          → (coefficient (polynomial_of ms (row E i)) n ≡ 0)
          ⊎ ((j : ℕ) × (j < length ms) × (slice_index_or ms j [] ≡ n))
          → IsCongruent (suc q) (coefficient (polynomial_of ms (row E i)) n) 0
      above n g (inl z) = congruent_eq z
      above n g (inr j) = let a : j.0 < k = stands-before j.0 k j.1 l (rw j.2 g) in rw (← j.2)
          (congruent_eq
          (coefficient-at ms (row E i) (descending-apart ms D) j.0 j.1
          ∙ before_pivot (row E i) j.0 (omega (arith, p, a))))
