-- The value of a row over monomials is the combination of their values.
use Rattle.std.proofs.Common.{◌≡◌, ℕ, zero, suc, ◌+◌, ◌*◌, ◌%◌, ◌<◌, List, [], ◌∷◌, length, arith, ap, ap₂}
use Rattle.std.proofs.Common.{sym, ◌∙◌, refl}
use Rattle.std.specs.Prelude.{slice_index_or}
use Rattle.std.proofs.Math.Path.{fun_ext}
use Rattle.linear_algebra.specs.Modular.{sum_below}
use Rattle.linear_algebra.specs.Rows.{entry, row, combination, IsCombination}
use Rattle.linear_algebra.specs.Kernels.{IsInKernel}
use Rattle.linear_algebra.proofs.Congruences.{congruent_mul_left, congruent_mod}
use Rattle.linear_algebra.proofs.Sums.{sum_below-same, sum_below-zero}
use Rattle.graded_algebra.specs.Algebras.{Generator, evaluate, value, linear, times}
use Rattle.graded_algebra.specs.Vectors.{Below, Vector, residue, vectors}
use Rattle.graded_algebra.proofs.VectorLemmas.{below-path, times-at, plus-residue}
use Rattle.presentation_rows.specs.RowPolynomials.{polynomial_of}
use Rattle.presentation_rows.specs.Values.{vector, AreValues}

-- a sum from its first term on
pub sum_below-first : (n : ℕ) (f : ℕ → ℕ) → sum_below (suc n) f ≡ f 0 + sum_below n (λ i. f (suc i))
sum_below-first zero f = omega arith
sum_below-first (suc n) f = omega (arith, sum_below-first n f)

module _ (q : ℕ) (mul : ℕ → ℕ → Vector q → Vector q → Vector q) where
  pub times-residue : (c : ℕ) (v : Vector q) (j n : ℕ) → v j ≡ residue q n
      → times (vectors q mul) c v j ≡ residue q (c * n)
  times-residue c v j n e =
      times-at q mul c v j ∙ ap (λ (b : Below (suc q)). residue q (c * b.0)) e
      ∙ below-path (residue q (c * (n % suc q))) (residue q (c * n))
      (congruent_mul_left c (congruent_mod {p = suc q} n)).same_remainder

  -- the linear extension at a row, place by place
  linear-row : (ev : List ℕ → Vector q) (ms : List (List ℕ)) (u : List ℕ) (R : ℕ → ℕ → ℕ)
      → ((i : ℕ) → i < length ms → (j : ℕ) → ev (slice_index_or ms i []) j ≡ residue q (R i j))
      → (j : ℕ) → linear (vectors q mul) ev (polynomial_of ms u) j ≡ residue q
      (sum_below (length ms) (λ i. entry u i * R i j))
  linear-row ev [] u R h j = refl
  linear-row ev (m ∷ ms) [] R h j =
      ap (residue q) (sym (sum_below-same (suc (length ms)) (λ i. entry [] i * R i j) (λ i. 0)
      (λ i l. omega arith)
      ∙ sum_below-zero (suc (length ms))))
  linear-row ev (m ∷ ms) (zero ∷ u) R h j =
      linear-row ev ms u (λ i. R (suc i)) (λ i l. h (suc i) (omega arith)) j
      ∙ ap (residue q) (sym (sum_below-first (length ms) (λ i. entry (0 ∷ u) i * R i j)
      ∙ (let e : 0 * R 0 j + sum_below (length ms) (λ i. entry u i * R (suc i) j) ≡ sum_below (length ms)
      (λ i. entry u i * R (suc i) j) = omega arith in e)))
  linear-row ev (m ∷ ms) (suc c ∷ u) R h j =
      ap₂ (λ (x y : Below (suc q)). residue q (x.0 + y.0))
      (times-residue (suc c) (ev m) j (R 0 j) (h 0 (omega arith) j))
      (linear-row ev ms u (λ i. R (suc i)) (λ i l. h (suc i) (omega arith)) j)
      ∙ plus-residue q (suc c * R 0 j) (sum_below (length ms) (λ i. entry u i * R (suc i) j))
      ∙ ap (residue q) (sym (sum_below-first (length ms) (λ i. entry (suc c ∷ u) i * R i j)))

  module _ (gs : List (Generator (Vector q))) (ms values : List (List ℕ))
      (V : AreValues q (vectors q mul) gs ms values) where
    pub value-row : (u : List ℕ) (j : ℕ)
        → value (vectors q mul) gs (polynomial_of ms u) j ≡ residue q (combination (entry u) values j)
    value-row u j =
        linear-row (evaluate (vectors q mul) gs) ms u (λ i j. entry (row values i) j)
        (λ i l j. sym (ap (λ (v : Vector q). v j) (V.each i l))) j
        ∙ ap (λ n. residue q (sum_below n (λ i. entry u i * entry (row values i) j))) (sym V.count)

    pub value-of-combination : (u c : List ℕ) → IsCombination (suc q) (entry u) values (entry c)
        → value (vectors q mul) gs (polynomial_of ms u) ≡ vector q c
    value-of-combination u c h = fun_ext (λ j. value-row u j
        ∙ below-path (residue q (combination (entry u) values j)) (residue q (entry c j))
        (h.each j).same_remainder)

    pub value-of-kernel : (u : List ℕ) → IsInKernel (suc q) values (entry u)
        → value (vectors q mul) gs (polynomial_of ms u) ≡ (vectors q mul).zero
    value-of-kernel u h = fun_ext (λ j. value-row u j
        ∙ below-path (residue q (combination (entry u) values j)) (residue q 0) (h j).same_remainder)

    pub kernel-of-value : (u : List ℕ) → value (vectors q mul) gs (polynomial_of ms u) ≡ (vectors q mul).zero
        → IsInKernel (suc q) values (entry u)
    kernel-of-value u h j = record {
      same_remainder = ap (λ (b : Below (suc q)). b.0) (sym (value-row u j) ∙ ap (λ (v : Vector q). v j) h);
    }
