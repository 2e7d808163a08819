-- The laws of the crate, from the lemmas.
use Rattle.std.proofs.Common.{◌≡◌, ◌≢◌, ℕ, zero, suc, ◌+◌, ◌-◌, ◌*◌, ◌%◌, ◌<◌, ◌≤◌, ◌⊎◌, List, [], ◌∷◌, ◌++◌}
use Rattle.std.proofs.Common.{length, map, drop, inl, inr, arith, sym, ◌∙◌, refl}
use Rattle.std.proofs.lemmas.Bool.{cases_lt}
use Rattle.std.proofs.lemmas.List.{get_or_past, length_push, append-nil, ext_get_or}
use mathlib.Core.Path.{subst}
use Rattle.linear_algebra.specs.Modular.{IsCongruent, IsFieldModulo}
use Rattle.linear_algebra.specs.Rows.{entry, row, pivot, combination, IsRow, IsMatrix, IsEchelon, IsEchelonOf}
use Rattle.linear_algebra.specs.Rows.{IsInSpan, IsCombination, IsReduced}
use Rattle.linear_algebra.specs.Kernels.{augment, IsInKernel, IsKernelOf}
use Rattle.linear_algebra.specs.Choices.{rows_at, IsGreedyBelow, IsGreedy}
use Rattle.linear_algebra.specs.Ranks.{IsIndependent}
use Rattle.linear_algebra.proofs.Congruences.{congruent_refl, congruent_add, congruent_trans, congruent_eq}
use Rattle.linear_algebra.proofs.Congruences.{congruent_sym, congruent_minus, congruent_cancel, same_below}
use Rattle.linear_algebra.proofs.Combinations.{combination_past}
use Rattle.linear_algebra.proofs.Spans.{in_span_add, row_push, row_before_push}
use Rattle.linear_algebra.proofs.Dimension.{Dependence, dependent}
use Rattle.linear_algebra.proofs.Existence.{decide_span, echelon}
use Rattle.linear_algebra.proofs.Pivots.{zero_at_pivots}
use Rattle.linear_algebra.proofs.EchelonLists.{HasPivots-from_echelon, same_echelon}
use Rattle.linear_algebra.proofs.AugmentLemmas.{augment_is, augmented_matrix}
use Rattle.linear_algebra.proofs.KernelLemmas.{kernel_from_augmented, right_parts}
use Rattle.linear_algebra.proofs.GreedyChoice.{append-push, rows-push}
use Rattle.linear_algebra.proofs.LinearMaps.{matrix_is_linear}
use Rattle.linear_algebra.proofs.RankNullity.{in_kernel_span}

-- more rows than places are dependent
pub dependent_rows : {p width : ℕ} (rows : List (List ℕ)) → IsFieldModulo p → IsMatrix p width rows
    → width < length rows →
    (u : ℕ → ℕ) × IsInKernel p rows u × (i : ℕ) × (i < length rows) × (u i % p ≢ 0)
dependent_rows {p} {width} rows F M l = go (dependent F width (length rows) (λ i j. entry (row rows i) j) l)
  where
    go : Dependence p (length rows) width (λ i j. entry (row rows i) j) → (u : ℕ → ℕ) × IsInKernel p rows u
        × (i : ℕ) × (i < length rows) × (u i % p ≢ 0)
    go d = (d.coefficients, (λ j. at j (cases_lt j width)), d.place, d.below, d.nonzero)
      where
        at : (j : ℕ) → (j < width) ⊎ (width ≤ j) → IsCongruent p (combination d.coefficients rows j) 0
        at j (inl b) = d.vanishes j b
        at j (inr b) = combination_past rows M d.coefficients j b

-- as many independent rows of the kernel and independent images as there are rows: those of the kernel span
-- it
pub kernel_by_count : {p : ℕ} (rows kernel chosen images : List (List ℕ)) → IsFieldModulo p →
    IsMatrix p (length rows) kernel → IsMatrix p (length rows) chosen
    → length kernel + length chosen ≡ length rows → length images ≡ length chosen →
    ((i : ℕ) → i < length kernel → IsInKernel p rows (entry (row kernel i))) → IsIndependent p kernel →
    ((i : ℕ) → i < length chosen → IsCombination p (entry (row chosen i)) rows (entry (row images i)))
    → IsIndependent p images →
    (u : List ℕ) → IsRow p (length rows) u → IsInKernel p rows (entry u) → IsInSpan p kernel (entry u)
kernel_by_count {p} rows kernel chosen images F K C count same inside free maps independent u r h = go
    (in_kernel_span F (matrix_is_linear p (length rows) (λ i j. entry (row rows i) j)) (length kernel)
    (length chosen)
    (λ i j. entry (row kernel i) j) (λ i j. entry (row chosen i) j) (λ i j. entry (row images i) j)
    (record { only_zero = λ a z. free a z })
    inside
    (record { only_zero = λ a z i l. independent a (λ j. rw same (z j)) i (rw same l) })
    (λ i l j. (maps i l).each j)
    (λ i j l b. past (row kernel i) (K i l) j b)
    (λ i j l b. past (row chosen i) (C i l) j b)
    (entry u)
    (λ j b. past u r j b)
    h)
  where
    past : (x : List ℕ) → IsRow p (length rows) x → (j : ℕ) → length kernel + length chosen ≤ j
        → IsCongruent p (entry x j) 0
    past x s j b = congruent_eq (get_or_past x j 0 (let e = s.length_is in omega (arith, e, count, b)))

    go : (a : ℕ → ℕ) × Rattle.linear_algebra.proofs.Pivots.Combines p (length kernel) a
        (λ i j. entry (row kernel i) j) (entry u) → IsInSpan p kernel (entry u)
    go (a, c) = (a, record { each = c.each })

matrix_push : {p width : ℕ} (rows : List (List ℕ)) (r : List ℕ) → IsMatrix p width rows → IsRow p width r
    → IsMatrix p width (rows ++ r ∷ [])
matrix_push {p} {width} rows r M h i l = at (cases_lt i (length rows))
  where
    at : (i < length rows) ⊎ (length rows ≤ i) → IsRow p width (row (rows ++ r ∷ []) i)
    at (inl b) = subst (IsRow p width) (sym (row_before_push rows r i b)) (M i b)
    at (inr b) = subst (λ k. IsRow p width (row (rows ++ r ∷ []) k))
        (let e : length rows ≡ i = (let c : length
        (rows ++ r ∷ []) ≡ length rows + 1 = length_push rows r in omega (arith, c, l, b)) in e)
        (subst (IsRow p width) (sym (row_push rows r)) h)

-- the greedy choice exists
module _ {p width : ℕ} (s t : List (List ℕ)) (F : IsFieldModulo p) (S : IsMatrix p width s)
    (T : IsMatrix p width t) where
  taken : (n : ℕ) → n ≤ length s → (xs : List ℕ) × IsGreedyBelow p s t n xs
      × IsMatrix p width (t ++ rows_at s xs)
  taken zero l = ([], refl, subst (IsMatrix p width) (sym (append-nil t)) T)
  taken (suc n) l = go (taken n (omega (arith, l)))
    where
      go : (xs : List ℕ) × IsGreedyBelow p s t n xs × IsMatrix p width (t ++ rows_at s xs) → (xs : List ℕ)
          × IsGreedyBelow p s t (suc n) xs × IsMatrix p width (t ++ rows_at s xs)
      go (xs, g, M) = at (decide_span F (t ++ rows_at s xs) M (row s n) (S n (omega (arith, l))))
        where
          at : IsInSpan p (t ++ rows_at s xs) (entry (row s n))
              ⊎ (IsInSpan p (t ++ rows_at s xs) (entry (row s n)) → ⊥) →
              (xs : List ℕ) × IsGreedyBelow p s t (suc n) xs × IsMatrix p width (t ++ rows_at s xs)
          at (inl i) = (xs, inl (g, i), M)
          at (inr o) = (
            xs ++ n ∷ [],
            inr (xs, g, o, refl),
            rw (rows-push s xs n, append-push t (rows_at s xs) (row s n))
                (matrix_push (t ++ rows_at s xs) (row s n) M (S n (omega (arith, l)))),
          )

  pub greedy_exists : (xs : List ℕ) × IsGreedy p s t xs
  greedy_exists = go (taken (length s) (omega arith))
    where
      go : (xs : List ℕ) × IsGreedyBelow p s t (length s) xs × IsMatrix p width (t ++ rows_at s xs)
          → (xs : List ℕ) × IsGreedy p s t xs
      go (xs, g, M) = (xs, g)

-- a vector has one reduced form
pub reduced_is_one : {p width : ℕ} (E : List (List ℕ)) (v w x : List ℕ) → 1 < p → IsEchelon E
    → IsRow p width w → IsRow p width x → IsReduced p E v w → IsReduced p E v x → w ≡ x
reduced_is_one {p} {width} E v w x one e a b r s =
    ext_get_or 0 w x (a.length_is ∙ sym b.length_is) (λ j l. same j (rw a.length_is at l))
  where
    difference : IsInSpan p E (λ j. entry w j + (p - 1) * entry v j + (p - 1) *
        (entry x j + (p - 1) * entry v j))
    difference = in_span_add (p - 1) r.difference s.difference

    same_as : (j : ℕ) → IsCongruent p (entry w j + (p - 1) * entry v j + (p - 1) *
        (entry x j + (p - 1) * entry v j)) (entry w j + (p - 1) * entry x j)
    same_as j = congruent_trans (congruent_eq (rearranged (p - 1)))
        (congruent_trans (congruent_add (congruent_refl (entry w j + (p - 1) * entry x j))
        (congruent_minus ((p - 1) * entry v j) one)) (congruent_eq (omega arith)))
      where
        rearranged : (m : ℕ) → entry w j + m * entry v j + m *
            (entry x j + m * entry v j) ≡ entry w j + m * entry x j + (m * entry v j + m * (m * entry v j))
        rearranged m = omega arith

    vanishes : (j : ℕ) → IsCongruent p (entry w j + (p - 1) * entry x j) 0
    vanishes = zero_at_pivots p (length E) difference.0 (λ i j. entry (row E i) j) (λ i. pivot (row E i))
        (λ j. entry w j + (p - 1) * entry x j)
        (HasPivots-from_echelon e) (record { each = λ j. congruent_trans (difference.1.each j) (same_as j) })
        (λ i l. congruent_eq (rw (r.zero_at_pivots i l, s.zero_at_pivots i l) (omega arith)))

    same : (j : ℕ) → j < width → entry w j ≡ entry x j
    same j l = same_below (congruent_cancel ((p - 1) * entry x j)
        (congruent_trans (vanishes j) (congruent_sym (congruent_minus (entry x j) one)))) (a.below j l)
        (b.below j l)

-- the first row whose pivot is not below the width, among the first n
first_past : (width : ℕ) (F : List (List ℕ)) → IsEchelon F → (n : ℕ) → n ≤ length F →
    (first : ℕ) × (first ≤ n) × ((i : ℕ) → i < first → pivot (row F i) < width)
    × (first < n → width ≤ pivot (row F first))
first_past width F e zero l = (
  0,
  (omega arith),
  (λ i b. absurd (omega (arith, b))),
  λ b. absurd (omega (arith, b)),
)
first_past width F e (suc n) l = go (cases_lt (pivot (row F n)) width)
    (first_past width F e n (omega (arith, l)))
  where
    go : (pivot (row F n) < width) ⊎ (width ≤ pivot (row F n)) →
        (first : ℕ) × (first ≤ n) × ((i : ℕ) → i < first → pivot (row F i) < width)
        × (first < n → width ≤ pivot (row F first)) →
        (first : ℕ) × (first ≤ suc n) × ((i : ℕ) → i < first → pivot (row F i) < width)
        × (first < suc n → width ≤ pivot (row F first))
    go (inl b) h = (suc n, (omega arith), (λ i m. below i m (cases_lt i n)), λ m. absurd (omega (arith, m)))
      where
        below : (i : ℕ) → i < suc n → (i < n) ⊎ (n ≤ i) → pivot (row F i) < width
        below i m (inl k) = let z : pivot (row F i) < pivot (row F n) =
            e.ascending i n k (omega (arith, l)) in omega (arith, z, b)
        below i m (inr k) = subst (λ x. pivot (row F x) < width) (let z : n ≡ i = omega (arith, m, k) in z) b
    go (inr a) (first, m, before, here) = (first, (omega (arith, m)), before, λ b. at b (cases_lt first n))
      where
        at : first < suc n → (first < n) ⊎ (n ≤ first) → width ≤ pivot (row F first)
        at b (inl k) = here k
        at b (inr k) = subst (λ x. width ≤ pivot (row F x)) (let z : n ≡ first = omega (arith, b, k) in z) a

-- each list of rows has a kernel, and one
pub kernel_exists : {p width : ℕ} (rows : List (List ℕ)) → IsFieldModulo p → IsMatrix p width rows
    → (kernel : List (List ℕ)) × IsKernelOf p rows kernel
kernel_exists {p} {width} rows F M = go (echelon F (augment rows) (augmented_matrix rows F.above_one M))
  where
    go : (E : List (List ℕ)) × IsEchelonOf p (width + length rows) (augment rows) E → (kernel : List (List ℕ))
        × IsKernelOf p rows kernel
    go (E, h) = at (first_past width E h.echelon (length E) (omega arith))
      where
        at : (first : ℕ) × (first ≤ length E) × ((i : ℕ) → i < first → pivot (row E i) < width)
            × (first < length E → width ≤ pivot (row E first)) →
            (kernel : List (List ℕ)) × IsKernelOf p rows kernel
        at (first, l, before, here) = (
          map (drop width) (drop first E),
          kernel_from_augmented F.above_one M (augment_is rows M) h
              (right_parts width first h.echelon l before here),
        )

pub kernel_is_one : {p : ℕ} (rows K L : List (List ℕ)) → 1 < p → IsKernelOf p rows K → IsKernelOf p rows L
    → K ≡ L
kernel_is_one rows K L one a b = same_echelon one K L a.matrix b.matrix a.echelon b.echelon
    (λ i l. a.spans (row L i) (b.matrix i l) (b.in_kernel i l))
    (λ i l. b.spans (row K i) (a.matrix i l) (a.in_kernel i l))
