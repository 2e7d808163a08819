-- The preimage that is 0 at the pivots of the kernel: it exists, and elimination of the other augmented rows
-- finds it.
use Rattle.std.proofs.Common.{◌≡◌, ◌≢◌, ℕ, zero, suc, ◌+◌, ◌*◌, ◌-◌, ◌%◌, ◌<◌, ◌≤◌, ◌⊎◌, List, [], ◌∷◌, ◌++◌}
use Rattle.std.proofs.Common.{length, map, drop, replicate, inl, inr, arith, ap, sym, ◌∙◌, refl}
use Rattle.std.proofs.lemmas.Bool.{cases_lt}
use Rattle.std.proofs.lemmas.List.{get_or-map, get_or-drop, get_or_append_left, get_or-append-add}
use Rattle.std.proofs.lemmas.List.{get_or-replicate, get_or_past, length-map, length-drop, length-replicate}
use Rattle.std.proofs.lemmas.List.{length_push, ext_get_or}
use Rattle.std.proofs.Math.Nat.{mod-lt}
use mathlib.Core.Path.{subst}
use Rattle.linear_algebra.specs.Modular.{IsCongruent, sum_below}
use Rattle.linear_algebra.specs.Rows.{entry, row, combination, pivot, IsRow, IsMatrix, IsCombination}
use Rattle.linear_algebra.specs.Rows.{IsInSpan, IsReduced}
use Rattle.linear_algebra.specs.Kernels.{IsInKernel, IsKernelOf, IsAugmented, IsAmong, IsEchelonOfOthers}
use Rattle.linear_algebra.specs.Choices.{IsPreimage, ArePreimages}
use Rattle.linear_algebra.proofs.Congruences.{congruent_refl, congruent_add, congruent_trans, congruent_eq}
use Rattle.linear_algebra.proofs.Congruences.{congruent_sym, congruent_mul_left, congruent_minus}
use Rattle.linear_algebra.proofs.Congruences.{congruent_cancel, congruent_mod, same_below}
use Rattle.linear_algebra.proofs.Sums.{sum_below-vanishes, sum_below-one, find_below}
use Rattle.linear_algebra.proofs.Pivots.{HasPivots, zero_at_pivots}
use Rattle.linear_algebra.proofs.PivotLemmas.{before_pivot}
use Rattle.linear_algebra.proofs.Independence.{combine_combinations}
use Rattle.linear_algebra.proofs.EchelonLists.{HasPivots-from_echelon, Combines-from_combination}
use Rattle.linear_algebra.proofs.EchelonLists.{one_not_zero}
use Rattle.linear_algebra.proofs.Combinations.{combination_past, same_coefficients, augmented_left}
use Rattle.linear_algebra.proofs.Combinations.{augmented_right}
use Rattle.linear_algebra.proofs.Spans.{in_span_add, in_span_row, row_push, row_before_push}
use Rattle.linear_algebra.proofs.Others.{IsOtherCombination, other_combination, in_span_sum}
use Rattle.linear_algebra.proofs.Tables.{table, length-table, entry-table}

module _ {p : ℕ} {rows K : List (List ℕ)} (one : 1 < p) (k : IsKernelOf p rows K) where
  pivots : HasPivots (length K) (λ i. pivot (row K i)) (λ i j. entry (row K i) j)
  pivots = HasPivots-from_echelon k.echelon

  -- coefficients less their value at the kernel's pivots times the kernel's rows
  lowered : (ℕ → ℕ) → ℕ → ℕ
  lowered s t = s t + (p - 1) * combination (λ i. s (pivot (row K i))) K t

  lowered_zero : (s : ℕ → ℕ) (i : ℕ) → i < length K → IsCongruent p (lowered s (pivot (row K i))) 0
  unfolding lowered
  lowered_zero s i l = congruent_trans (congruent_add (congruent_refl (s q)) (congruent_mul_left (p - 1)
      (congruent_trans (sum_below-one p (length K) i (λ m. s (pivot (row K m)) * entry (row K m) q) l
      (λ m b ne. congruent_eq (rw (pivots.cleared i m l b (λ e. ne (sym e))) (omega arith))))
      (congruent_eq (rw (pivots.monic i l) (let z : s q * 1 ≡ s q = omega arith in z))))))
      (congruent_minus (s q) one)
    where
      q : ℕ
      q = pivot (row K i)

  lowered_maps : (s x : ℕ → ℕ) → IsCombination p s rows x → IsCombination p (lowered s) rows x
  unfolding lowered
  lowered_maps s x h = record {
    each = λ j. congruent_trans (congruent_eq
        (apart (length rows) (p - 1) s (combination (λ i. s (pivot (row K i))) K)
        (λ t. entry (row rows t) j)))
        (congruent_trans (congruent_add (h.each j) (congruent_mul_left (p - 1) (none j)))
        (congruent_eq (omega arith)));
  }
    where
      apart : (n c : ℕ) (u w r : ℕ → ℕ) → sum_below n (λ i. (u i + c * w i) * r i) ≡ sum_below n
          (λ i. u i * r i) + c * sum_below n (λ i. w i * r i)
      apart zero c u w r = omega arith
      apart (suc n) c u w r = omega (arith, apart n c u w r)

      none : (j : ℕ) → IsCongruent p (sum_below (length rows)
          (λ t. combination (λ i. s (pivot (row K i))) K t * entry (row rows t) j)) 0
      none j = congruent_trans ((combine_combinations p (length K) (length rows) (λ i. s (pivot (row K i)))
          (λ i t. entry (row K i) t) (λ t j. entry (row rows t) j) (λ i j. 0)
          (λ i l. record { each = k.in_kernel i l })).each j)
          (sum_below-vanishes p (length K) (λ i. s (pivot (row K i)) * 0) (λ i l. congruent_eq (omega arith)))

  -- a vector of the kernel that is 0 at its pivots is 0
  kernel_zero : (u : ℕ → ℕ) → IsInKernel p rows u
      → ((i : ℕ) → i < length K → IsCongruent p (u (pivot (row K i))) 0) → (t : ℕ) → t < length rows
      → IsCongruent p (u t) 0
  kernel_zero u h z t l = congruent_trans (congruent_sym (listed t l))
      (zero_at_pivots p (length K) s.0 (λ i j. entry (row K i) j) (λ i. pivot (row K i)) (entry ul)
      pivots (Combines-from_combination s.1)
      (λ i b. congruent_trans (listed (pivot (row K i)) (inside i b)) (z i b)) t)
    where
      ul : List ℕ
      ul = table (length rows) (λ t. u t % p)

      inside : (i : ℕ) → i < length K → pivot (row K i) < length rows
      inside i b = let n = k.echelon.not_zero i b in let w = (k.matrix i b).length_is in omega (arith, n, w)

      listed : (t : ℕ) → t < length rows → IsCongruent p (entry ul t) (u t)
      listed t l = rw (entry-table (length rows) (λ t. u t % p) t l) (congruent_mod (u t))

      is_row : IsRow p (length rows) ul
      is_row = record {
        length_is = length-table (length rows) (λ t. u t % p);
        below = λ t l. rw (entry-table (length rows) (λ t. u t % p) t l) (mod-lt (u t) (omega (arith, one)));
      }

      s : IsInSpan p K (entry ul)
      s = k.spans ul is_row (λ j. congruent_trans (same_coefficients rows (entry ul) u listed j) (h j))

  -- a target in the span has a preimage
  pub preimage_exists : (target : List ℕ) → IsInSpan p rows (entry target) → (u : List ℕ)
      × IsPreimage p rows K target u
  preimage_exists target s = (
    ul,
    record {
      is_row = record {
        length_is = length-table (length rows) (λ t. lowered s.0 t % p);
        below = λ t l. rw (entry-table (length rows) (λ t. lowered s.0 t % p) t l)
            (mod-lt (lowered s.0 t) (omega (arith, one)));
      };
      maps = record {
        each = λ j. congruent_trans (same_coefficients rows (entry ul) (lowered s.0) listed j)
            ((lowered_maps s.0 (entry target) s.1).each j);
      };
      zero_at_pivots = λ i l. same_below
          (congruent_trans (listed (pivot (row K i)) (inside i l)) (lowered_zero s.0 i l))
          (rw (entry-table (length rows) (λ t. lowered s.0 t % p) (pivot (row K i)) (inside i l))
          (mod-lt (lowered s.0 (pivot (row K i))) (omega (arith, one))))
          (omega (arith, one));
    },
  )
    where
      ul : List ℕ
      ul = table (length rows) (λ t. lowered s.0 t % p)

      inside : (i : ℕ) → i < length K → pivot (row K i) < length rows
      inside i b = let n = k.echelon.not_zero i b in let w = (k.matrix i b).length_is in omega (arith, n, w)

      listed : (t : ℕ) → t < length rows → IsCongruent p (entry ul t) (lowered s.0 t)
      listed t l = rw (entry-table (length rows) (λ t. lowered s.0 t % p) t l) (congruent_mod (lowered s.0 t))

  -- a target has one preimage
  pub preimage_is_one : (target u v : List ℕ) → IsPreimage p rows K target u → IsPreimage p rows K target v
      → u ≡ v
  preimage_is_one target u v a b = ext_get_or 0 u v (a.is_row.length_is
      ∙ sym b.is_row.length_is) (λ t l. same t (rw a.is_row.length_is at l))
    where
      z : ℕ → ℕ
      z t = entry u t + (p - 1) * entry v t

      apart : (n c : ℕ) (u w r : ℕ → ℕ) → sum_below n (λ i. (u i + c * w i) * r i) ≡ sum_below n
          (λ i. u i * r i) + c * sum_below n (λ i. w i * r i)
      apart zero c u w r = omega arith
      apart (suc n) c u w r = omega (arith, apart n c u w r)

      in_kernel : IsInKernel p rows z
      in_kernel j = congruent_trans (congruent_eq
          (apart (length rows) (p - 1) (entry u) (entry v) (λ t. entry (row rows t) j)))
          (congruent_trans (congruent_add (a.maps.each j) (congruent_mul_left (p - 1) (b.maps.each j)))
          (congruent_minus (entry target j) one))

      at_pivots : (i : ℕ) → i < length K → IsCongruent p (z (pivot (row K i))) 0
      at_pivots i l = congruent_eq (rw (a.zero_at_pivots i l, b.zero_at_pivots i l) (omega arith))

      same : (t : ℕ) → t < length rows → entry u t ≡ entry v t
      same t l = same_below (congruent_cancel ((p - 1) * entry v t)
          (congruent_trans (kernel_zero z in_kernel at_pivots t l)
          (congruent_sym (congruent_minus (entry v t) one))))
          (a.is_row.below t l) (b.is_row.below t l)

  module _ {width : ℕ} {A F : List (List ℕ)} (M : IsMatrix p width rows) (a : IsAugmented width rows A)
      (f : IsEchelonOfOthers p (width + length rows) A (map pivot K) (length rows) F) where
    among : (i : ℕ) → i < length K → IsAmong (map pivot K) (pivot (row K i))
    among i l = (i, rw length-map l, get_or-map pivot K i [] 0 l)

    -- a member of the span of F that is 0 left is 0
    left_zero : (x : ℕ → ℕ) → IsInSpan p F x → ((j : ℕ) → j < width → IsCongruent p (x j) 0) → (j : ℕ)
        → IsCongruent p (x j) 0
    left_zero x s z j = congruent_trans (congruent_sym (o.2.each j))
        (congruent_trans (same_coefficients A o.0 (λ t. 0) (λ t l. zeros t (rw a.same_length at l)) j)
        (sum_below-vanishes p (length A) (λ t. 0 * entry (row A t) j) (λ t l. congruent_eq (omega arith))))
      where
        o : IsOtherCombination p A (map pivot K) x
        o = other_combination (map pivot K) F f.spanned s

        in_kernel : IsInKernel p rows o.0
        in_kernel j = go (cases_lt j width)
          where
            go : (j < width) ⊎ (width ≤ j) → IsCongruent p (combination o.0 rows j) 0
            go (inl l) = congruent_trans (congruent_eq (sym (augmented_left a o.0 j l)))
                (congruent_trans (o.2.each j) (z j l))
            go (inr l) = combination_past rows M o.0 j l

        zeros : (t : ℕ) → t < length rows → IsCongruent p (o.0 t) 0
        zeros = kernel_zero o.0 in_kernel (λ i l. o.1 (pivot (row K i)) (among i l))

    pivots_left : (i : ℕ) → i < length F → pivot (row F i) < width
    pivots_left i l = go (cases_lt (pivot (row F i)) width)
      where
        go : (pivot (row F i) < width) ⊎ (width ≤ pivot (row F i)) → pivot (row F i) < width
        go (inl b) = b
        go (inr b) = absurd (one_not_zero one (congruent_trans (congruent_eq (sym (f.echelon.monic i l)))
            (left_zero (entry (row F i)) (in_span_row F i l)
            (λ j m. congruent_eq (before_pivot (row F i) j (omega (arith, m, b)))) (pivot (row F i)))))

    -- the augmented rows with coefficients that are 0 at the kernel's pivots
    others_in_span : (c : ℕ → ℕ) → ((i : ℕ) → i < length K → IsCongruent p (c (pivot (row K i))) 0)
        → IsInSpan p F (combination c A)
    others_in_span c z = subst (λ n. IsInSpan p F (λ j. sum_below n (λ t. c t * entry (row A t) j)))
        (sym a.same_length) (in_span_sum (length rows) c (λ t j. entry (row A t) j)
        (λ t l. go t l (find_below (length K) t (λ i. pivot (row K i)))))
      where
        go : (t : ℕ) → t < length rows → ((i : ℕ) × (i < length K) × (pivot (row K i) ≡ t))
            ⊎ ((i : ℕ) → i < length K → pivot (row K i) ≢ t) →
            IsCongruent p (c t) 0 ⊎ IsInSpan p F (entry (row A t))
        go t l (inl (i, b, e)) = inl (subst (λ t. IsCongruent p (c t) 0) e (z i b))
        go t l (inr none) = inr (f.spans t l
            (λ (i, b, e). let m : i < length K = rw length-map at b in none i m
            (sym (get_or-map pivot K i [] 0 m) ∙ e)))

    -- the target with zeros right, reduced: its right part is minus the preimage
    pub preimage_reduced : (target v w u : List ℕ) → IsRow p width target → IsInSpan p rows (entry target) →
        ((j : ℕ) → j < width → entry v j ≡ entry target j) → ((t : ℕ) → entry v (width + t) ≡ 0) →
        IsRow p (width + length rows) w → IsReduced p F v w →
        length u ≡ length rows → ((t : ℕ) → t < length rows → entry u t ≡ (p - 1) * entry w (width + t) % p)
        → IsPreimage p rows K target u
    preimage_reduced target v w u r s left right wr d count values = record {
      is_row = record {
        length_is = count;
        below = λ t l. rw (values t l) (mod-lt ((p - 1) * entry w (width + t)) (omega (arith, one)));
      };
      maps = record {
        each = λ j. congruent_trans (same_coefficients rows (entry u) c agree j)
            ((lowered_maps s.0 (entry target) s.1).each j);
      };
      zero_at_pivots = λ i l. same_below
          (congruent_trans (agree (pivot (row K i)) (inside i l)) (lowered_zero s.0 i l))
          (rw (values (pivot (row K i)) (inside i l))
          (mod-lt ((p - 1) * entry w (width + pivot (row K i))) (omega (arith, one))))
          (omega (arith, one));
    }
      where
        c : ℕ → ℕ
        c = lowered s.0

        inside : (i : ℕ) → i < length K → pivot (row K i) < length rows
        inside i b = let n = k.echelon.not_zero i b in let m = (k.matrix i b).length_is in omega (arith, n, m)

        y : ℕ → ℕ
        y j = entry w j + (p - 1) * entry v j + 1 * combination c A j

        y_in_span : IsInSpan p F y
        y_in_span = in_span_add 1 d.difference (others_in_span c (lowered_zero s.0))

        y_at_pivots : (i : ℕ) → i < length F → IsCongruent p (y (pivot (row F i))) 0
        y_at_pivots i l = let q : ℕ = pivot (row F i) in let b : q < width = pivots_left i l in
            congruent_trans (congruent_add
            (congruent_eq (ap (λ z. z + (p - 1) * entry v q) (d.zero_at_pivots i l)))
            (congruent_refl (1 * combination c A q)))
            (congruent_trans (congruent_eq (rw (left q b, augmented_left a c q b) (omega arith)))
            (congruent_trans (congruent_add (congruent_refl ((p - 1) * entry target q))
            ((lowered_maps s.0 (entry target) s.1).each q))
            (congruent_trans (congruent_eq (omega arith)) (congruent_minus (entry target q) one))))

        y_zero : (j : ℕ) → IsCongruent p (y j) 0
        y_zero j = zero_at_pivots p (length F) y_in_span.0 (λ i j. entry (row F i) j) (λ i. pivot (row F i)) y
            (HasPivots-from_echelon f.echelon) (Combines-from_combination y_in_span.1) y_at_pivots j

        agree : (t : ℕ) → t < length rows → IsCongruent p (entry u t) (c t)
        agree t l = congruent_trans (congruent_eq (values t l)) (congruent_trans (congruent_mod ((p - 1) * x))
            (congruent_trans (congruent_sym
            (congruent_trans (congruent_add (y_zero (width + t)) (congruent_refl ((p - 1) * x)))
            (congruent_eq (omega arith))))
            (congruent_trans (congruent_eq rearranged)
            (congruent_trans (congruent_add (congruent_minus x one) (augmented_right a c t l))
            (congruent_eq (omega arith))))))
          where
            x : ℕ
            x = entry w (width + t)

            rearranged : y (width + t) + (p - 1) * x ≡ x + (p - 1) * x + combination c A (width + t)
            rearranged = let e : (p - 1) * entry v (width + t) ≡ (p - 1) * 0 =
                ap (λ z. (p - 1) * z) (right t) in omega (arith, e)

    -- the same with the zeros written out, and the right part as a list
    pub preimage_padded : (target w u : List ℕ) (n : ℕ) → IsRow p width target
        → IsInSpan p rows (entry target) →
        IsRow p (width + length rows) w → IsReduced p F (target ++ replicate n 0) w
        → u ≡ map (λ x. (p - 1) * x % p) (drop width w) → IsPreimage p rows K target u
    preimage_padded target w u n r s wr d e = preimage_reduced target (target ++ replicate n 0) w u r s
        (λ j l. get_or_append_left target (replicate n 0) 0 j (omega (arith, l, r.length_is)))
        (λ t. ap (λ k. entry (target ++ replicate n 0) (k + t)) (sym r.length_is)
        ∙ get_or-append-add target (replicate n 0) t 0 ∙ zeros t (cases_lt t n))
        wr d (ap length e ∙ count) (λ t l. ap (λ x. entry x t) e
        ∙ get_or-map (λ x. (p - 1) * x % p) (drop width w) t 0 0
        (omega (arith, l, length-drop width w, wr.length_is))
        ∙ ap (λ x. (p - 1) * x % p) (get_or-drop width w t 0))
      where
        zeros : (t : ℕ) → (t < n) ⊎ (n ≤ t) → entry (replicate n 0) t ≡ 0
        zeros t (inl l) = get_or-replicate n t 0 0 l
        zeros t (inr l) = get_or_past (replicate n 0) t 0 (rw length-replicate l)

        count : length (map (λ x. (p - 1) * x % p) (drop width w)) ≡ length rows
        count = length-map (drop width w) (λ x. (p - 1) * x % p) ∙ length-drop width w
            ∙ (let h = wr.length_is in omega (arith, h))

-- one more target and its preimage
pub preimages_push : {p : ℕ} {rows K targets us : List (List ℕ)} (target u : List ℕ)
    → ArePreimages p rows K targets us → IsPreimage p rows K target u →
    ArePreimages p rows K (targets ++ target ∷ []) (us ++ u ∷ [])
preimages_push {p} {rows} {K} {targets} {us} target u h k =
    record { count = omega (arith, c, d, h.count); each = λ i l. at i l (cases_lt i (length targets)) }
  where
    c : length (us ++ u ∷ []) ≡ length us + 1
    c = length_push us u

    d : length (targets ++ target ∷ []) ≡ length targets + 1
    d = length_push targets target

    at : (i : ℕ) → i < length (targets ++ target ∷ []) → (i < length targets) ⊎ (length targets ≤ i)
        → IsPreimage p rows K (row (targets ++ target ∷ []) i) (row (us ++ u ∷ []) i)
    at i l (inl b) = rw (
      row_before_push targets target i b,
      row_before_push us u i (omega (arith, b, h.count)),
    ) (h.each i b)
    at i l (inr b) = let e : i ≡ length targets = omega (arith, l, b, d) in let f : i ≡ length us =
        omega (arith, e, h.count) in
        rw (
          ap (row (targets ++ target ∷ [])) e ∙ row_push targets target,
          ap (row (us ++ u ∷ [])) f
              ∙ row_push us u,
        ) k

pub preimages_none : {p : ℕ} {rows K : List (List ℕ)} → ArePreimages p rows K [] []
preimages_none = record { count = refl; each = λ i l. absurd (omega (arith, l)) }
