-- The augmented rows.
use Rattle.std.proofs.Common.{◌≡◌, ◌≢◌, ℕ, zero, suc, ◌+◌, ◌-◌, ◌<◌, ◌≤◌, ◌⊎◌, List, [], ◌∷◌, ◌++◌, length}
use Rattle.std.proofs.Common.{replicate, inl, inr, arith, ap, ◌∙◌, refl}
use Rattle.std.proofs.lemmas.Bool.{cases_eq, cases_lt}
use Rattle.std.proofs.lemmas.List.{get_or_append_left, get_or-append_right, get_or-set_same, get_or-set_other}
use Rattle.std.proofs.lemmas.List.{get_or-replicate, get_or_past, length-set, length-replicate, length-append}
use Rattle.linear_algebra.specs.Rows.{entry, row, IsMatrix}
use Rattle.linear_algebra.specs.Kernels.{unit_row, augment_from, augment, IsAugmented}

pub length-unit_row : (n i : ℕ) → length (unit_row n i) ≡ n
length-unit_row n i = length-set (replicate n 0) i 1 ∙ length-replicate n 0

pub entry_unit_same : (n i : ℕ) → i < n → entry (unit_row n i) i ≡ 1
entry_unit_same n i l = get_or-set_same (replicate n 0) i 1 0 (rw length-replicate l)

pub entry_unit_other : (n i t : ℕ) → t ≢ i → entry (unit_row n i) t ≡ 0
entry_unit_other n i t ne = get_or-set_other (replicate n 0) i t 1 0 ne ∙ go (cases_lt t n)
  where
    go : (t < n) ⊎ (n ≤ t) → entry (replicate n 0) t ≡ 0
    go (inl l) = get_or-replicate n t 0 0 l
    go (inr l) = get_or_past (replicate n 0) t 0 (rw length-replicate l)

pub length-augment_from : (n k : ℕ) (rows : List (List ℕ)) → length (augment_from n k rows) ≡ length rows
length-augment_from n k [] = refl
length-augment_from n k (r ∷ rows) = ap suc (length-augment_from n (suc k) rows)

pub row-augment_from : (n k : ℕ) (rows : List (List ℕ)) (i : ℕ) → i < length rows
    → row (augment_from n k rows) i ≡ row rows i ++ unit_row n (k + i)
row-augment_from n k [] i l = absurd (omega arith)
row-augment_from n k (r ∷ rows) zero l = ap (λ x. r ++ unit_row n x) (omega arith)
row-augment_from n k (r ∷ rows) (suc i) l = row-augment_from n (suc k) rows i (omega arith)
    ∙ ap (λ x. row rows i ++ unit_row n x) (let e : suc k + i ≡ k + suc i = omega arith in e)

pub row-augment : (rows : List (List ℕ)) (i : ℕ) → i < length rows
    → row (augment rows) i ≡ row rows i ++ unit_row (length rows) i
row-augment rows i l = row-augment_from (length rows) 0 rows i l
    ∙ ap (λ x. row rows i ++ unit_row (length rows) x) (let e : 0 + i ≡ i = omega arith in e)

pub augment_is : {p width : ℕ} (rows : List (List ℕ)) → IsMatrix p width rows
    → IsAugmented width rows (augment rows)
augment_is {p} {width} rows M = record {
  same_length = length-augment_from (length rows) 0 rows;
  left = λ i j l b. ap (λ r. entry r j) (row-augment rows i l)
      ∙ get_or_append_left (row rows i) (unit_row (length rows) i) 0 j (omega (arith, (M i l).length_is));
  unit_one = λ i l. right i i l ∙ entry_unit_same (length rows) i l;
  unit_zero = λ i t l ne. right i t l ∙ entry_unit_other (length rows) i t ne;
}
  where
    right : (i t : ℕ) → i < length rows → entry (row (augment rows) i) (width + t) ≡ entry
        (unit_row (length rows) i) t
    right i t l = ap (λ r. entry r (width + t)) (row-augment rows i l)
        ∙ get_or-append_right (row rows i) (unit_row (length rows) i) width (width + t) 0 ((M i l).length_is)
        (omega arith)
        ∙ ap (entry (unit_row (length rows) i)) (let e : width + t - width ≡ t = omega arith in e)

pub augmented_matrix : {p width : ℕ} (rows : List (List ℕ)) → 1 < p → IsMatrix p width rows
    → IsMatrix p (width + length rows) (augment rows)
augmented_matrix {p} {width} rows one M i l = let m : i < length rows = rw length-augment_from at l in
    record {
      length_is = ap length (row-augment rows i m) ∙ length-append (row rows i) (unit_row (length rows) i)
          ∙ (let a = (M i m).length_is in omega (arith, length-unit_row (length rows) i));
      below = λ j b. go i m j b (cases_lt j width) (cases_eq (j - width) i);
    }
  where
    go : (i : ℕ) → i < length rows → (j : ℕ) → j < width + length rows → (j < width) ⊎ (width ≤ j)
        → (j - width ≡ i) ⊎ (j - width ≡ i → ⊥) → entry (row (augment rows) i) j < p
    go i m j b (inl c) _ = rw ((augment_is rows M).left i j m c) ((M i m).below j c)
    go i m j b (inr c) (inl e) = let s : j ≡ width + i = omega arith in
        rw (s, (augment_is rows M).unit_one i m) one
    go i m j b (inr c) (inr ne) = let s : j ≡ width + (j - width) = omega arith in
        omega (arith, ap (entry (row (augment rows) i)) s, (augment_is rows M).unit_zero i (j - width) m ne)
