-- The elimination of rows from the last to the first.
use Rattle.std.proofs.Common.{◌≡◌, ◌≢◌, ℕ, zero, suc, ◌+◌, ◌*◌, ◌%◌, ◌-◌, ◌<◌, ◌≤◌, ◌⊎◌, inl, inr, List, []}
use Rattle.std.proofs.Common.{◌∷◌, ◌++◌, length, map, set, replicate, reverse, arith, ap, sym, ◌∙◌, refl}
use Rattle.std.specs.Prelude.{insert}
use Rattle.std.proofs.lemmas.Bool.{cases_lt, cases_order, cases_eq}
use Rattle.std.proofs.lemmas.List.{length_push, length-replicate, get_or-replicate, reverse-append}
use Rattle.std.proofs.lemmas.List.{get_or-set_same, get_or-set_other, get_or-map, get_or_past, length-map}
use Rattle.std.proofs.lemmas.List.Edits.{length-insert, get_or-insert_below, get_or-insert_at}
use Rattle.std.proofs.lemmas.List.Edits.{get_or-insert_above}
use Rattle.std.proofs.Math.Nat.{mod-eq_of_lt, mod-lt, zero-mod}
use Rattle.linear_algebra.specs.Modular.{IsCongruent, IsFieldModulo, sum_below}
use Rattle.linear_algebra.specs.Rows.{entry, row, pivot, add_multiple, IsRow, IsMatrix, IsEchelon}
use Rattle.linear_algebra.specs.Rows.{IsEchelonOf, IsCombination, IsInSpan}
use Rattle.linear_algebra.specs.Elimination.{AreCleared, IsPrepared, IsPlace}
use Rattle.linear_algebra.specs.Kernels.{unit_row, IsInKernel, IsKernelOf}
use Rattle.linear_algebra.specs.Choices.{ArePreimages}
use Rattle.linear_algebra.specs.Ranks.{IsIndependent}
use Rattle.linear_algebra.proofs.Laws.{kernel_by_count}
use Rattle.linear_algebra.proofs.PivotLemmas.{before_pivot, pivot_is}
use Rattle.linear_algebra.proofs.Pivots.{coefficient_at_pivot}
use Rattle.linear_algebra.proofs.EchelonLists.{HasPivots-from_echelon}
use Rattle.linear_algebra.proofs.Congruences.{congruent_sym, congruent_trans, congruent_eq, congruent_add}
use Rattle.linear_algebra.proofs.Congruences.{congruent_mul_left, congruent_mod}
use Rattle.linear_algebra.proofs.Combinations.{same_coefficients}
use Rattle.linear_algebra.proofs.Reducing.{entry_congruent}
use Rattle.linear_algebra.proofs.RowLemmas.{entry-add_multiple, length-add_multiple}
use Rattle.linear_algebra.proofs.Sums.{sum_below-vanishes, update, update_same, update_other}
use Rattle.linear_algebra.proofs.AugmentLemmas.{entry_unit_same, entry_unit_other}
use Rattle.linear_algebra.proofs.Spans.{unit_combination, in_span_trans, row_push, row_before_push}
use Rattle.linear_algebra.proofs.AddedRow.{added_row}
use Rattle.fp_rows.specs.Solving.{IsSolvedFrom}

-- the rows of a reduced echelon list are independent
pub echelon_independent : {p : ℕ} (E : List (List ℕ)) → IsEchelon E → IsIndependent p E
echelon_independent {p} E e u h i l = coefficient_at_pivot p (length E) u (λ i j. entry (row E i) j)
    (λ i. pivot (row E i)) (λ j. 0) (HasPivots-from_echelon e) (record { each = h }) i l

-- ---- what is left at the first row
pub solved_kernel : {p width : ℕ} {rows L R K : List (List ℕ)} → IsFieldModulo p
    → IsSolvedFrom p width rows 0 L R K → IsKernelOf p rows K
solved_kernel {p} {width} {rows} {L} {R} {K} F h = record {
  matrix = h.kernel_rows;
  echelon = h.kernel_echelon;
  in_kernel = h.in_kernel;
  spans = kernel_by_count rows K R L F h.kernel_rows h.made_rows (omega (arith, h.count, h.same_count))
      (sym h.same_count) h.in_kernel (echelon_independent K h.kernel_echelon)
      (λ i l. h.made i (omega (arith, l, h.same_count))) (echelon_independent L h.echelon);
}

pub solved_image : {p width : ℕ} {rows L R K : List (List ℕ)} → IsSolvedFrom p width rows 0 L R K
    → IsEchelonOf p width rows L
solved_image {R = R} h = record {
  matrix = h.matrix;
  echelon = h.echelon;
  spanned = λ i l. (entry (row R i), h.made i l);
  spans = λ t l. h.spans t (omega arith) l;
}

pub solved_preimages : {p width : ℕ} {rows L R K : List (List ℕ)} → IsSolvedFrom p width rows 0 L R K
    → ArePreimages p rows K L R
solved_preimages h = record {
  count = h.same_count;
  each = λ i l. record {
    is_row = h.made_rows i (omega (arith, l, h.same_count));
    maps = h.made i l;
    zero_at_pivots = λ j n. h.apart i j (omega (arith, l, h.same_count)) n;
  };
}

-- ---- the start
pub solved_none : {p width : ℕ} (rows : List (List ℕ)) → IsSolvedFrom p width rows (length rows) [] [] []
solved_none rows = record {
  matrix = λ i l. absurd (omega arith);
  echelon = none;
  same_count = refl;
  made_rows = λ i l. absurd (omega arith);
  made = λ i l. absurd (omega arith);
  later = λ i t l. absurd (omega arith);
  apart = λ i j l. absurd (omega arith);
  kernel_rows = λ i l. absurd (omega arith);
  kernel_echelon = none;
  kernel_later = λ j l. absurd (omega arith);
  in_kernel = λ j l. absurd (omega arith);
  spans = λ t a b. absurd (omega arith);
  count = omega arith;
}
  where
    none : IsEchelon []
    none = record {
      not_zero = λ i l. absurd (omega arith);
      ascending = λ i k a l. absurd (omega arith);
      monic = λ i l. absurd (omega arith);
      cleared = λ i k l. absurd (omega arith);
    }

-- ---- a row in the span of the rows after it
module _ {p width k : ℕ} {rows L R K : List (List ℕ)} (h : IsSolvedFrom p width rows (suc k) L R K)
    (u : List ℕ) (is_row : IsRow p (length rows) u)
    (one : entry u k ≡ 1) (before : (s : ℕ) → s < k → entry u s ≡ 0) (zeros : (j : ℕ) → j < length K
    → entry u (pivot (row K j)) ≡ 0)
    (kernel : IsInKernel p rows (entry u)) (span : IsInSpan p L (entry (row rows k))) where
  pivot_k : pivot u ≡ k
  pivot_k = pivot_is u k before (λ z. let e : 1 ≡ 0 = sym one ∙ z in omega arith)

  below_rows : k < length rows
  below_rows = omega (arith, h.count)

  each : (P : List ℕ → Type 0) → P u → ((j : ℕ) → j < length K → P (row K j)) → (j : ℕ) → j < length (u ∷ K)
      → P (row (u ∷ K) j)
  each P a b zero l = a
  each P a b (suc j) l = b j (omega arith)

  ascends : (i j : ℕ) → i < j → j < length (u ∷ K) → pivot (row (u ∷ K) i) < pivot (row (u ∷ K) j)
  ascends i zero a l = absurd (omega arith)
  ascends zero (suc j) a l = let b : suc k ≤ pivot (row K j) = h.kernel_later j (omega arith) in
      omega (arith, b, pivot_k)
  ascends (suc i) (suc j) a l = h.kernel_echelon.ascending i j (omega arith) (omega arith)

  clears : (i j : ℕ) → i < length (u ∷ K) → j < length (u ∷ K) → i ≢ j
      → entry (row (u ∷ K) j) (pivot (row (u ∷ K) i)) ≡ 0
  clears zero zero a b n = absurd (n refl)
  clears zero (suc j) a b n = before_pivot (row K j) (pivot u)
      (let c : suc k ≤ pivot (row K j) = h.kernel_later j (omega arith) in omega (arith, c, pivot_k))
  clears (suc i) zero a b n = zeros i (omega arith)
  clears (suc i) (suc j) a b n = h.kernel_echelon.cleared i j (omega arith) (omega arith) (λ e. n (ap suc e))

  apart_from : (i j : ℕ) → i < length R → j < length (u ∷ K) → entry (row R i) (pivot (row (u ∷ K) j)) ≡ 0
  apart_from i zero a b = ap (entry (row R i)) pivot_k ∙ h.later i k a (omega arith)
  apart_from i (suc j) a b = h.apart i j a (omega arith)

  spans_from : (t : ℕ) → k ≤ t → t < length rows → (t ≡ k) ⊎ (t ≡ k → ⊥) → IsInSpan p L (entry (row rows t))
  spans_from t a b (inl e) = rw e span
  spans_from t a b (inr n) = h.spans t (omega arith) b

  pub solved_dependent : IsSolvedFrom p width rows k L R (u ∷ K)
  solved_dependent = record {
    matrix = h.matrix;
    echelon = h.echelon;
    same_count = h.same_count;
    made_rows = h.made_rows;
    made = h.made;
    later = λ i t l m. h.later i t l (omega arith);
    apart = apart_from;
    kernel_rows = each (IsRow p (length rows)) is_row h.kernel_rows;
    kernel_echelon = record {
      not_zero = each (λ r. pivot r < length r)
          (omega (arith, pivot_k, is_row.length_is, below_rows)) h.kernel_echelon.not_zero;
      ascending = ascends;
      monic = each (λ r. entry r (pivot r) ≡ 1) (ap (entry u) pivot_k ∙ one) h.kernel_echelon.monic;
      cleared = clears;
    };
    kernel_later = each (λ r. k ≤ pivot r) (omega (arith, pivot_k))
        (λ j l. let b : suc k ≤ pivot (row K j) = h.kernel_later j l in omega arith);
    in_kernel = each (λ r. IsInKernel p rows (entry r)) kernel h.in_kernel;
    spans = λ t a b. spans_from t a b (cases_eq t k);
    count = omega (arith, h.count);
  }

-- ---- a row outside the span of the rows after it
-- what holds of the rows at each position of two lists, and of two rows that are put into both at one
-- position
pub insert_both : (Q : List ℕ → List ℕ → Type 0) (D S : List (List ℕ)) (pos : ℕ) (s u : List ℕ)
    → length S ≡ length D → pos ≤ length D →
    ((i : ℕ) → i < length D → Q (row D i) (row S i)) → Q s u → (i : ℕ) → i < length (insert D pos s)
    → Q (row (insert D pos s) i) (row (insert S pos u) i)
insert_both Q D S pos s u e b each new i l = go (cases_order i pos)
  where
    go : (i ≡ pos) ⊎ ((i < pos) ⊎ (pos < i)) → Q (row (insert D pos s) i) (row (insert S pos u) i)
    go (inl m) = rw (m, get_or-insert_at D pos s [] b, get_or-insert_at S pos u [] (omega (arith, e, b))) new
    go (inr (inl m)) = rw (
      get_or-insert_below D pos s [] i m b,
      get_or-insert_below S pos u [] i m (omega (arith, e, b)),
    ) (each i (omega arith))
    go (inr (inr m)) = let k : i ≡ i - 1 + 1 = omega arith in
        rw (
          k,
          get_or-insert_above D pos s [] (i - 1) (omega arith) b,
          get_or-insert_above S pos u [] (i - 1) (omega arith) (omega (arith, e, b)),
        )
        (each (i - 1) (omega (arith, length-insert D pos s b)))

module _ {p width k : ℕ} {rows L R K : List (List ℕ)} (D S : List (List ℕ))
    (h : IsSolvedFrom p width rows (suc k) L R K) (s u : List ℕ) (t pos : ℕ) (one : 1 < p)
    (prepared : IsPrepared p width L (row rows k) s) (tp : t ≡ pivot s) (inside : t < width)
    (cl : AreCleared p width t s L D) (P : IsPlace t pos L)
    (count : length S ≡ length R) (S_rows : IsMatrix p (length rows) S)
    (S_made : (i : ℕ) → i < length R → IsCombination p (entry (row S i)) rows (entry (row D i)))
    (kept : (i x : ℕ) → i < length R → entry u x ≡ 0 → entry (row S i) x ≡ entry (row R i) x)
    (is_row : IsRow p (length rows) u) (u_made : IsCombination p (entry u) rows (entry s))
    (before : (x : ℕ) → x < k → entry u x ≡ 0) (zeros : (j : ℕ) → j < length K
    → entry u (pivot (row K j)) ≡ 0) where
  basis : IsEchelonOf p width (L ++ row rows k ∷ []) (insert D pos s)
  basis = added_row (row rows k) s t pos one h.matrix h.echelon prepared tp inside cl P

  pos_D : pos ≤ length D
  pos_D = omega (arith, P.within, cl.same_length)

  same_D : length S ≡ length D
  same_D = omega (arith, count, h.same_count, cl.same_length)

  pos_S : pos ≤ length S
  pos_S = omega (arith, pos_D, same_D)

  same_insert : length (insert S pos u) ≡ length (insert D pos s)
  same_insert = omega (arith, same_D, length-insert S pos u pos_S, length-insert D pos s pos_D)

  both : (Q : List ℕ → List ℕ → Type 0) → ((i : ℕ) → i < length R → Q (row D i) (row S i)) → Q s u → (i : ℕ)
      → i < length (insert D pos s) → Q (row (insert D pos s) i) (row (insert S pos u) i)
  both Q each new = insert_both Q D S pos s u same_D pos_D
      (λ i l. each i (omega (arith, l, same_D, count))) new

  lifted : (f : ℕ → ℕ) → IsInSpan p L f → IsInSpan p (insert D pos s) f
  lifted f = in_span_trans (λ i l. rw (row_before_push L (row rows k) i l) at
      (basis.spans i (omega (arith, l, length_push L (row rows k)))))

  pub solved_independent : IsSolvedFrom p width rows k (insert D pos s) (insert S pos u) K
  solved_independent = record {
    matrix = basis.matrix;
    echelon = basis.echelon;
    same_count = same_insert;
    made_rows = λ i l. both (λ d r. IsRow p (length rows) r)
        (λ i l. S_rows i (omega (arith, l, count))) is_row i (omega (arith, l, same_insert));
    made = both (λ d r. IsCombination p (entry r) rows (entry d)) S_made u_made;
    later = λ i x l m. both (λ d r. entry r x ≡ 0) (λ i l. kept i x l (before x m)
        ∙ h.later i x l (omega arith)) (before x m) i (omega (arith, l, same_insert));
    apart = λ i j l m. both (λ d r. entry r (pivot (row K j)) ≡ 0)
        (λ i l. kept i (pivot (row K j)) l (zeros j m)
        ∙ h.apart i j l m) (zeros j m) i (omega (arith, l, same_insert));
    kernel_rows = h.kernel_rows;
    kernel_echelon = h.kernel_echelon;
    kernel_later = λ j l. let b : suc k ≤ pivot (row K j) = h.kernel_later j l in omega arith;
    in_kernel = h.in_kernel;
    spans = λ x a b. spans_from x a b (cases_eq x k);
    count = omega (arith, h.count, length-insert D pos s pos_D, cl.same_length);
  }
    where
      spans_from : (x : ℕ) → k ≤ x → x < length rows → (x ≡ k) ⊎ (x ≡ k → ⊥)
          → IsInSpan p (insert D pos s) (entry (row rows x))
      spans_from x a b (inl e) = rw e (rw (row_push L (row rows k)) at
          (basis.spans (length L) (omega (arith, length_push L (row rows k)))))
      spans_from x a b (inr n) = lifted (entry (row rows x)) (h.spans x (omega arith) b)

-- ---- rows and the combinations that make them
pub sum_of_combinations : {p : ℕ} (c : ℕ) (gens : List (List ℕ)) (a b f g : ℕ → ℕ) → IsCombination p a gens f
    → IsCombination p b gens g → IsCombination p (λ i. a i + c * b i) gens (λ j. f j + c * g j)
sum_of_combinations {p} c gens a b f g ha hb = record {
  each = λ j. congruent_trans (congruent_eq (apart (length gens) (λ i. entry (row gens i) j)))
      (congruent_add (ha.each j) (congruent_mul_left c (hb.each j)));
}
  where
    apart : (n : ℕ) (r : ℕ → ℕ) → sum_below n (λ i. (a i + c * b i) * r i) ≡ sum_below n
        (λ i. a i * r i) + c * sum_below n (λ i. b i * r i)
    apart zero r = omega arith
    apart (suc n) r = omega (arith, apart n r)

-- the sum of two rows, and of the coefficients that make them
pub combination_added : {p n width : ℕ} (c : ℕ) (gens : List (List ℕ)) (a b v r : List ℕ) → IsRow p n a
    → IsRow p n b → IsRow p width v → IsRow p width r →
    IsCombination p (entry a) gens (entry v) → IsCombination p (entry b) gens (entry r)
    → IsCombination p (entry (add_multiple p c a b)) gens (entry (add_multiple p c v r))
combination_added {p} c gens a b v r ra rb rv rr ha hb = record {
  each = λ j.
      congruent_trans (same_coefficients gens (entry (add_multiple p c a b)) (λ i. entry a i + c * entry b i)
      (λ i l. entry_congruent c a b ra rb i) j)
      (congruent_trans ((sum_of_combinations c gens (entry a) (entry b) (entry v) (entry r) ha hb).each j)
      (congruent_sym (entry_congruent c v r rv rr j)));
}

pub combination_scaled : {p : ℕ} (c : ℕ) (gens : List (List ℕ)) (a v : List ℕ)
    → IsCombination p (entry a) gens (entry v) →
    IsCombination p (entry (map (λ x. c * x % p) a)) gens (entry (map (λ x. c * x % p) v))
combination_scaled {p} c gens a v h = record {
  each = λ j.
      congruent_trans (same_coefficients gens (entry (map (λ x. c * x % p) a)) (λ i. 0 + c * entry a i)
      (λ i l. scaled_entry c a i) j)
      (congruent_trans ((sum_of_combinations c gens (λ i. 0) (entry a) (λ j. 0) (entry v) zeros h).each j)
      (congruent_sym (scaled_entry c v j)));
}
  where
    zeros : IsCombination p (λ i. 0) gens (λ j. 0)
    zeros = record {
      each = λ j. sum_below-vanishes p (length gens) (λ i. 0 * entry (row gens i) j)
          (λ i l. congruent_eq (omega arith));
    }

    scaled_entry : (c : ℕ) (a : List ℕ) (i : ℕ)
        → IsCongruent p (entry (map (λ x. c * x % p) a) i) (0 + c * entry a i)
    scaled_entry c a i = go (cases_lt i (length a))
      where
        go : (i < length a) ⊎ (length a ≤ i)
            → IsCongruent p (entry (map (λ x. c * x % p) a) i) (0 + c * entry a i)
        go (inl l) = congruent_trans (congruent_eq (get_or-map (λ x. c * x % p) a i 0 0 l))
            (congruent_trans (congruent_mod (c * entry a i)) (congruent_eq (omega arith)))
        go (inr l) = congruent_eq (rw (
          get_or_past (map (λ x. c * x % p) a) i 0 (rw length-map l),
          get_or_past a i 0 l,
        ) (omega arith))

pub zero_added : (p c : ℕ) (a b : List ℕ) (x : ℕ) → length b ≡ length a → entry b x ≡ 0
    → ((j : ℕ) → j < length a → entry a j < p) → entry (add_multiple p c a b) x ≡ entry a x
zero_added p c a b x e z below = go (cases_lt x (length a))
  where
    go : (x < length a) ⊎ (length a ≤ x) → entry (add_multiple p c a b) x ≡ entry a x
    go (inl l) = entry-add_multiple p c a b x e l
        ∙ (rw z (ap (λ y. y % p) (let s : entry a x + c * 0 ≡ entry a x = omega arith in s)
        ∙ mod-eq_of_lt (below x l)))
    go (inr l) = get_or_past (add_multiple p c a b) x 0 (rw length-add_multiple l) ∙ sym (get_or_past a x 0 l)

-- what holds of the rows at each position of two lists, and of two rows that are written into both at one
-- position
pub set_both : (Q : List ℕ → List ℕ → Type 0) (n : ℕ) (D S : List (List ℕ)) (i : ℕ) (d s : List ℕ)
    → i < length D → i < length S →
    ((j : ℕ) → j < n → Q (row D j) (row S j)) → Q d s → (j : ℕ) → j < n
    → Q (row (set D i d) j) (row (set S i s) j)
set_both Q n D S i d s a b each new j l = go (cases_eq j i)
  where
    go : (j ≡ i) ⊎ (j ≡ i → ⊥) → Q (row (set D i d) j) (row (set S i s) j)
    go (inl e) = rw (e, get_or-set_same D i d [] a, get_or-set_same S i s [] b) new
    go (inr ne) = rw (get_or-set_other D i j d [] ne, get_or-set_other S i j s [] ne) (each j l)

pub set_kept : (D E : List (List ℕ)) (i x j : ℕ) (d : List ℕ) → i < length D
    → entry (row D j) x ≡ entry (row E j) x → entry d x ≡ entry (row E i) x
    → entry (row (set D i d) j) x ≡ entry (row E j) x
set_kept D E i x j d l old new = go (cases_eq j i)
  where
    go : (j ≡ i) ⊎ (j ≡ i → ⊥) → entry (row (set D i d) j) x ≡ entry (row E j) x
    go (inl e) = rw (e, get_or-set_same D i d [] l) new
    go (inr ne) = rw (get_or-set_other D i j d [] ne) old

pub scaled_row : {p n : ℕ} (c : ℕ) (a : List ℕ) → 0 < p → IsRow p n a → IsRow p n (map (λ x. c * x % p) a)
scaled_row {p} c a l h = record {
  length_is = length-map a (λ x. c * x % p) ∙ h.length_is;
  below = λ j b. rw (get_or-map (λ x. c * x % p) a j 0 0 (omega (arith, b, h.length_is)))
      (mod-lt (c * entry a j) l);
}

pub zero_scaled : (p c : ℕ) (a : List ℕ) (x : ℕ) → entry a x ≡ 0 → entry (map (λ x. c * x % p) a) x ≡ 0
zero_scaled p c a x z = go (cases_lt x (length a))
  where
    go : (x < length a) ⊎ (length a ≤ x) → entry (map (λ x. c * x % p) a) x ≡ 0
    go (inl l) = get_or-map (λ x. c * x % p) a x 0 0 l
        ∙ (rw z (ap (λ y. y % p) (let s : c * 0 ≡ 0 = omega arith in s) ∙ zero-mod p))
    go (inr l) = get_or_past (map (λ x. c * x % p) a) x 0 (rw length-map l)

-- the unit row makes its row
pub unit_makes : {p : ℕ} (rows : List (List ℕ)) (k : ℕ) → k < length rows
    → IsCombination p (entry (unit_row (length rows) k)) rows (entry (row rows k))
unit_makes {p} rows k l = record {
  each = λ j. congruent_trans (same_coefficients rows (entry (unit_row (length rows) k)) (update k 1 (λ i. 0))
      (λ t b. congruent_eq (same t (cases_eq t k))) j) ((unit_combination rows k l).each j);
}
  where
    same : (t : ℕ) → (t ≡ k) ⊎ (t ≡ k → ⊥) → entry (unit_row (length rows) k) t ≡ update k 1 (λ i. 0) t
    same t (inl e) = rw e (entry_unit_same (length rows) k l ∙ sym (update_same k 1 (λ i. 0)))
    same t (inr n) = entry_unit_other (length rows) k t n ∙ sym (update_other k 1 (λ i. 0) t n)

-- a row with no pivot is 0
pub zero_without_pivot : (s : List ℕ) (j : ℕ) → length s ≤ pivot s → entry s j ≡ 0
zero_without_pivot s j h = go (cases_lt j (length s))
  where
    go : (j < length s) ⊎ (length s ≤ j) → entry s j ≡ 0
    go (inl l) = before_pivot s j (omega arith)
    go (inr l) = get_or_past s j 0 l

pub reversed_push : {X : Type 0} (xs : List X) (y : X) → reverse (xs ++ y ∷ []) ≡ y ∷ reverse xs
reversed_push xs y = reverse-append xs (y ∷ [])

-- ---- the preimage of a member of the span
pub entry_zeros : (n x : ℕ) → entry (replicate n 0) x ≡ 0
entry_zeros n x = go (cases_lt x n)
  where
    go : (x < n) ⊎ (n ≤ x) → entry (replicate n 0) x ≡ 0
    go (inl l) = get_or-replicate n x 0 0 l
    go (inr l) = get_or_past (replicate n 0) x 0
        (let e : length (replicate n 0) ≡ n = length-replicate {A = ℕ} n 0 in omega (arith, e))

pub zeros_row : (p n : ℕ) → 0 < p → IsRow p n (replicate n 0)
zeros_row p n l = record { length_is = length-replicate {A = ℕ} n 0; below = λ j b. rw (entry_zeros n j) l }

pub zeros_make : {p : ℕ} (n : ℕ) (rows : List (List ℕ))
    → IsCombination p (entry (replicate n 0)) rows (λ j. 0)
zeros_make {p} n rows = record {
  each = λ j. sum_below-vanishes p (length rows)
      (λ i. entry (replicate n 0) i * entry (row rows i) j)
      (λ i l. congruent_eq (rw entry_zeros (omega arith)));
}

pub more_made : {p n : ℕ} (c : ℕ) (rows : List (List ℕ)) (u r : List ℕ) (f g : ℕ → ℕ) → IsRow p n u
    → IsRow p n r → IsCombination p (entry u) rows f → IsCombination p (entry r) rows g →
    IsCombination p (entry (add_multiple p c u r)) rows (λ j. f j + c * g j)
more_made {p} c rows u r f g ru rr hu hr = record {
  each = λ j. congruent_trans (same_coefficients rows (entry (add_multiple p c u r))
      (λ i. entry u i + c * entry r i) (λ i l. entry_congruent c u r ru rr i) j)
      ((sum_of_combinations c rows (entry u) (entry r) f g hu hr).each j);
}
