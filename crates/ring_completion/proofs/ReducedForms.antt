-- A form reduced by the kernel of the values is the product, as a sum of standard monomials.
use Rattle.std.proofs.Common.{◌≡◌, ℕ, suc, ◌+◌, ◌-◌, ◌*◌, List, length, arith, ap, sym, ◌∙◌}
use Rattle.std.proofs.Math.Path.{fun_ext}
use Rattle.linear_algebra.specs.Modular.{IsCongruent}
use Rattle.linear_algebra.specs.Rows.{entry, row, combination, IsInSpan, IsReduced}
use Rattle.linear_algebra.specs.Kernels.{IsKernelOf}
use Rattle.linear_algebra.proofs.Combinations.{same_coefficients}
use Rattle.linear_algebra.proofs.Congruences.{congruent_eq, congruent_trans, congruent_sym, congruent_cancel}
use Rattle.linear_algebra.proofs.Congruences.{to_congruent}
use Rattle.linear_algebra.proofs.Independence.{combine_combinations}
use Rattle.linear_algebra.proofs.Sums.{sum_below-add, sum_below-mul, sum_below-same, sum_below-vanishes}
use Rattle.graded_algebra.specs.Algebras.{Generator, value}
use Rattle.graded_algebra.specs.Vectors.{Vector, vectors}
use Rattle.presentation_rows.specs.RowPolynomials.{polynomial_of}
use Rattle.presentation_rows.specs.Values.{AreValues}
use Rattle.presentation_rows.proofs.RowValues.{value-row}
use Rattle.ring_completion.proofs.Remainders.{residue-same}

module _ (q : ℕ) (mul : ℕ → ℕ → Vector q → Vector q → Vector q) (gs : List (Generator (Vector q)))
    (ms values kernel : List (List ℕ))
    (V : AreValues q (vectors q mul) gs ms values) (K : IsKernelOf (suc q) values kernel) where
  -- a member of the kernel's span combines the values to 0
  spanned-vanishes : (f : ℕ → ℕ) → IsInSpan (suc q) kernel f → (j : ℕ)
      → IsCongruent (suc q) (combination f values j) 0
  spanned-vanishes f s j =
      congruent_trans
      (same_coefficients values f (combination s.0 kernel) (λ t b. congruent_sym (s.1.each t)) j)
      (congruent_trans
      ((combine_combinations (suc q) (length kernel) (length values) s.0 (λ i k. entry (row kernel i) k)
      (λ k j. entry (row values k) j) (λ i j. 0)
      (λ i l. record { each = K.in_kernel i l })).each j)
      (sum_below-vanishes (suc q) (length kernel) (λ i. s.0 i * 0) (λ i l. congruent_eq (omega arith))))

  -- rows that differ by it have the same value
  pub same-value : (r w : List ℕ) → IsReduced (suc q) kernel r w
      → value (vectors q mul) gs (polynomial_of ms w) ≡ value (vectors q mul) gs (polynomial_of ms r)
  same-value r w D = fun_ext (λ j. value-row q mul gs ms values V w j ∙ residue-same q (at j)
      ∙ sym (value-row q mul gs ms values V r j))
    where
      parts : (j : ℕ) → combination (λ k. entry w k + (suc q - 1) * entry r k) values j
          ≡ combination (entry w) values j + q * combination (entry r) values j
      parts j = sum_below-same (length values)
          (λ i. (entry w i + (suc q - 1) * entry r i) * entry (row values i) j)
          (λ i. entry w i * entry (row values i) j + q * (entry r i * entry (row values i) j))
          (λ i l. let e : suc q - 1 ≡ q = omega arith in rw e (omega arith))
          ∙ sum_below-add (length values) (λ i. entry w i * entry (row values i) j)
          (λ i. q * (entry r i * entry (row values i) j))
          ∙ ap (λ z. combination (entry w) values j + z)
          (sum_below-mul (length values) q (λ i. entry r i * entry (row values i) j))

      at : (j : ℕ) → IsCongruent (suc q) (combination (entry w) values j) (combination (entry r) values j)
      at j = congruent_cancel (q * combination (entry r) values j)
          (congruent_trans
          (congruent_trans (congruent_eq (sym (parts j)))
          (spanned-vanishes (λ k. entry w k + (suc q - 1) * entry r k) D.difference j))
          (congruent_sym (to_congruent 0 (combination (entry r) values j) (omega arith))))
