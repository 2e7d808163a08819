-- Combinations of the rows of a matrix, and of its rows each followed by its unit row.
use Rattle.std.proofs.Common.{◌≡◌, ℕ, ◌+◌, ◌*◌, ◌<◌, ◌≤◌, List, length, arith, ap, sym}
use Rattle.std.proofs.lemmas.List.{get_or_past}
use Rattle.linear_algebra.specs.Modular.{IsCongruent}
use Rattle.linear_algebra.specs.Rows.{entry, row, combination, IsMatrix}
use Rattle.linear_algebra.specs.Kernels.{IsAugmented}
use Rattle.linear_algebra.proofs.Congruences.{congruent_trans, congruent_eq, congruent_mul_right}
use Rattle.linear_algebra.proofs.Sums.{sum_below-one, sum_below-congruent, sum_below-same, sum_below-vanishes}

-- past the width each combination of the rows is 0
pub combination_past : {p width : ℕ} (rows : List (List ℕ)) → IsMatrix p width rows → (u : ℕ → ℕ) (j : ℕ)
    → width ≤ j → IsCongruent p (combination u rows j) 0
combination_past {p} rows M u j b = sum_below-vanishes p (length rows) (λ i. u i * entry (row rows i) j)
    (λ i l. congruent_eq (rw (get_or_past (row rows i) j 0 (let r = (M i l).length_is in omega (arith, r, b)))
    (omega arith)))

-- congruent coefficients give congruent combinations
pub same_coefficients : {p : ℕ} (rows : List (List ℕ)) (u w : ℕ → ℕ)
    → ((t : ℕ) → t < length rows → IsCongruent p (u t) (w t)) → (j : ℕ) →
    IsCongruent p (combination u rows j) (combination w rows j)
same_coefficients {p} rows u w h j = sum_below-congruent p (length rows) (λ i. u i * entry (row rows i) j)
    (λ i. w i * entry (row rows i) j)
    (λ i l. congruent_mul_right (entry (row rows i) j) (h i l))

-- a combination of the augmented rows, left and right
pub augmented_left : {width : ℕ} {rows A : List (List ℕ)} → IsAugmented width rows A → (u : ℕ → ℕ) (j : ℕ)
    → j < width → combination u A j ≡ combination u rows j
augmented_left {width} {rows} {A} a u j b = rw a.same_length
    (sum_below-same (length rows) (λ i. u i * entry (row A i) j) (λ i. u i * entry (row rows i) j)
    (λ i l. ap (λ x. u i * x) (a.left i j l b)))

pub augmented_right : {p width : ℕ} {rows A : List (List ℕ)} → IsAugmented width rows A → (u : ℕ → ℕ) (t : ℕ)
    → t < length rows →
    IsCongruent p (combination u A (width + t)) (u t)
augmented_right {p} {width} {rows} {A} a u t b = rw a.same_length (congruent_trans
    (sum_below-one p (length rows) t (λ i. u i * entry (row A i) (width + t)) b
    (λ i l ne. congruent_eq (rw (a.unit_zero i t l (λ e. ne (sym e))) (omega arith))))
    (congruent_eq (rw (a.unit_one t b) (omega arith))))
