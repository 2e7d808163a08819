-- Preimages that are 0 at the kernel's pivots are the rows of normal forms.
use Rattle.std.proofs.Common.{◌≡◌, ℕ, suc, ◌*◌, ◌<◌, ◌≤◌, List, length, ◌⊎◌, inl, inr, arith, ap, sym, ◌∙◌}
use Rattle.std.proofs.lemmas.Bool.{cases_lt}
use Rattle.std.proofs.lemmas.List.{get_or_past}
use Rattle.linear_algebra.specs.Modular.{IsCongruent, sum_below}
use Rattle.linear_algebra.specs.Rows.{entry, row, pivot, combination, IsRow, IsCombination, IsPivot}
use Rattle.linear_algebra.specs.Kernels.{IsKernelOf}
use Rattle.linear_algebra.specs.Choices.{IsPreimage, ArePreimages}
use Rattle.linear_algebra.proofs.AugmentLemmas.{entry_unit_same, entry_unit_other}
use Rattle.linear_algebra.proofs.Congruences.{congruent_eq, congruent_trans, congruent_sym, same_below}
use Rattle.linear_algebra.proofs.Sums.{sum_below-one, sum_below-vanishes}
use Rattle.linear_algebra.proofs.Combinations.{same_coefficients}
use Rattle.linear_algebra.proofs.Independence.{combine_combinations}
use Rattle.graded_polynomials.specs.Monomials.{IsMonomials}
use Rattle.graded_algebra.specs.Algebras.{Generator, degrees}
use Rattle.graded_algebra.specs.Presentations.{IsStandard, IsNormalForm}
use Rattle.graded_algebra.specs.Vectors.{Vector, vectors}
use Rattle.presentation_rows.specs.RowPolynomials.{polynomial_of}
use Rattle.presentation_rows.specs.Values.{vector, AreValues, AreUnitRows}
use Rattle.presentation_rows.proofs.RowTerms.{each-term, polynomial-of-row}
use Rattle.presentation_rows.proofs.RowValues.{value-of-combination}
use Rattle.presentation_rows.proofs.KernelLeads.{standard-pivots}

module _ (q d : ℕ) (mul : ℕ → ℕ → Vector q → Vector q
    → Vector q) (gs : List (Generator (Vector q))) (ms values kernel : List (List ℕ))
    (one : 1 < suc q) (M : IsMonomials q (degrees gs) d ms) (V : AreValues q (vectors q mul) gs ms values)
    (K : IsKernelOf (suc q) values kernel) where
  pub normal-form-of : (w u : List ℕ) → IsPreimage (suc q) values kernel w u
      → IsNormalForm q (vectors q mul) gs d (vector q w) (polynomial_of ms u)
  normal-form-of w u P = record {
    polynomial = polynomial-of-row M u (rw (← V.count) P.is_row);
    standard = each-term (λ t. IsStandard q (vectors q mul) gs d t.monomial) ms u
        (λ k c l e. (standard-pivots q d mul gs ms values kernel one M V K k l).1 (λ p. none k c e p));
    value_is = value-of-combination q mul gs ms values V u w P.maps;
  }
    where
      none : (k c : ℕ) → entry u k ≡ suc c → IsPivot kernel k → ⊥
      none k c e p = absurd (let z : entry u k ≡ 0 = ap (entry u) (sym p.2)
          ∙ P.zero_at_pivots p.0 p.1 in omega (arith, z, e))

module _ {p n : ℕ} {values kernel basis us : List (List ℕ)} (one : 1 < p) (U : AreUnitRows n basis)
    (P : ArePreimages p values kernel basis us)
    (K : IsKernelOf p values kernel) where
  -- the combination of the unit rows with the entries of a row is that row
  units-combine : (w : List ℕ) → IsRow p n w → (j : ℕ)
      → IsCongruent p (sum_below n (λ i. entry w i * entry (row basis i) j)) (entry w j)
  units-combine w r j = go (cases_lt j n)
    where
      zero-at : (i : ℕ) → i < n → (j ≡ i → ⊥) → IsCongruent p (entry w i * entry (row basis i) j) 0
      zero-at i l ne = congruent_eq (rw (U.each i l, entry_unit_other n i j ne) (omega arith))

      go : (j < n) ⊎ (n ≤ j) → IsCongruent p (sum_below n (λ i. entry w i * entry (row basis i) j))
          (entry w j)
      go (inl l) = congruent_trans (sum_below-one p n j (λ i. entry w i * entry (row basis i) j) l
          (λ i b ne. zero-at i b (λ e. ne (sym e))))
          (congruent_eq (rw (U.each j l, entry_unit_same n j l) (omega arith)))
      go (inr l) = congruent_trans (sum_below-vanishes p n (λ i. entry w i * entry (row basis i) j)
          (λ i b. zero-at i b (λ e. absurd (omega (arith, e)))))
          (congruent_eq (sym (get_or_past w j 0 (omega (arith, r.length_is)))))

  pub preimage-of-combination : (w u : List ℕ) → IsRow p n w → IsRow p (length values) u
      → IsCombination p (entry w) us (entry u)
      → IsPreimage p values kernel w u
  preimage-of-combination w u r s h = record {
    is_row = s;
    maps = record {
      each = λ j.
          congruent_trans (same_coefficients values (entry u) (combination (entry w) us)
          (λ t b. congruent_sym (h.each t)) j)
          (congruent_trans ((combine_combinations p (length us) (length values) (entry w)
          (λ i k. entry (row us i) k)
          (λ k j. entry (row values k) j) (λ i j. entry (row basis i) j)
          (λ i l. record { each = (P.each i (omega (arith, P.count, l))).maps.each })).each j)
          (congruent_trans (congruent_eq
          (ap (λ m. sum_below m (λ i. entry w i * entry (row basis i) j)) (P.count ∙ U.count)))
          (units-combine w r j)));
    };
    zero_at_pivots = λ i l. same_below (congruent_trans (congruent_sym (h.each (pivot (row kernel i))))
        (sum_below-vanishes p (length us) (λ k. entry w k * entry (row us k) (pivot (row kernel i)))
        (λ k b. congruent_eq (rw ((P.each k (omega (arith, P.count, b))).zero_at_pivots i l) (omega arith)))))
        (s.below (pivot (row kernel i)) (omega (arith, K.echelon.not_zero i l, (K.matrix i l).length_is)))
        (omega arith);
  }
