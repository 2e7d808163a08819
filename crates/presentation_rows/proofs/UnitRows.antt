-- The unit rows are the unit vectors, and the reduced echelon list of all rows of their width.
use Rattle.std.proofs.Common.{◌≡◌, ℕ, ◌<◌, List, length, cond, eqb, ◌⊎◌, inl, inr, arith, refl}
use Rattle.std.proofs.Math.Path.{fun_ext}
use Rattle.std.proofs.lemmas.Bool.{cases_eq}
use Rattle.linear_algebra.specs.Rows.{entry, row, pivot, IsMatrix, IsEchelon, IsEchelonOf}
use Rattle.linear_algebra.specs.Kernels.{unit_row}
use Rattle.linear_algebra.proofs.AugmentLemmas.{length-unit_row, entry_unit_same, entry_unit_other}
use Rattle.linear_algebra.proofs.PivotLemmas.{pivot_is}
use Rattle.linear_algebra.proofs.EchelonLists.{same_echelon}
use Rattle.graded_polynomials.proofs.Terms.{eqb-self, eqb-false}
use Rattle.graded_algebra.specs.Vectors.{residue, unit}
use Rattle.presentation_rows.specs.Values.{vector, AreUnitRows}

pub unit-vector : (q n i : ℕ) → i < n → vector q (unit_row n i) ≡ unit q i
unit-vector q n i l = fun_ext (λ j. go j (cases_eq j i))
  where
    go : (j : ℕ) → (j ≡ i) ⊎ (j ≡ i → ⊥) → residue q (entry (unit_row n i) j) ≡ residue q (cond (eqb j i) 1 0)
    go j (inl e) = rw (e, entry_unit_same n i l, eqb-self i) refl
    go j (inr ne) = rw (entry_unit_other n i j ne, eqb-false j i ne) refl

unit-pivot : (n i : ℕ) → i < n → pivot (unit_row n i) ≡ i
unit-pivot n i l = pivot_is (unit_row n i) i (λ j b. entry_unit_other n i j (omega arith))
    (λ z. absurd (omega (arith, z, entry_unit_same n i l)))

module _ {n : ℕ} {rows : List (List ℕ)} (U : AreUnitRows n rows) where
  pub unit-matrix : (p : ℕ) → 1 < p → IsMatrix p n rows
  unit-matrix p one i l = let b : i < n = omega (arith, U.count, l) in rw (U.each i b) (record {
    length_is = length-unit_row n i;
    below = λ j c. go i j b (cases_eq j i);
  })
    where
      go : (i j : ℕ) → i < n → (j ≡ i) ⊎ (j ≡ i → ⊥) → entry (unit_row n i) j < p
      go i j b (inl e) = rw (e, entry_unit_same n i b) one
      go i j b (inr ne) = rw (entry_unit_other n i j ne) (omega arith)

  pivot-at : (i : ℕ) → i < length rows → pivot (row rows i) ≡ i
  pivot-at i l = let b : i < n = omega (arith, U.count, l) in rw (U.each i b) (unit-pivot n i b)

  pub unit-echelon : IsEchelon rows
  unit-echelon = record {
    not_zero = λ i l. let b : i < n = omega (arith, U.count, l) in
        rw (pivot-at i l, U.each i b, length-unit_row n i) b;
    ascending = λ i k b l. rw (pivot-at i (omega arith), pivot-at k l) b;
    monic = λ i l. let b : i < n = omega (arith, U.count, l) in
        rw (pivot-at i l, U.each i b) (entry_unit_same n i b);
    cleared = λ i k l m ne. let b : k < n = omega (arith, U.count, m) in
        rw (pivot-at i l, U.each k b) (entry_unit_other n k i ne);
  }

  -- their reduced echelon list are the unit rows
  pub echelon-of-units : (p : ℕ) (E : List (List ℕ)) → 1 < p → IsEchelonOf p n rows E → E ≡ rows
  echelon-of-units p E one e = same_echelon one E rows e.matrix
      (unit-matrix p one) e.echelon unit-echelon e.spans e.spanned
