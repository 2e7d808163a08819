-- The kernel from the reduced echelon list of the augmented rows.
use Rattle.std.proofs.Common.{◌≡◌, ℕ, zero, suc, ◌+◌, ◌-◌, ◌*◌, ◌<◌, ◌≤◌, ◌⊎◌, List, [], ◌∷◌, length, map}
use Rattle.std.proofs.Common.{drop, get_or, inl, inr, arith, ap, sym, ◌∙◌}
use Rattle.std.proofs.lemmas.Bool.{cases_eq, cases_lt}
use Rattle.std.proofs.lemmas.List.{get_or-drop, length-drop, get_or_past, get_or-map, length-map, ext_get_or}
use Rattle.linear_algebra.specs.Modular.{IsCongruent, sum_below}
use Rattle.linear_algebra.specs.Rows.{entry, row, combination, pivot, IsRow, IsMatrix, IsEchelon, IsEchelonOf}
use Rattle.linear_algebra.specs.Rows.{IsInSpan}
use Rattle.linear_algebra.specs.Kernels.{augment, IsAmong, IsEchelonOfOthers, IsInKernel, IsKernelOf}
use Rattle.linear_algebra.specs.Kernels.{IsAugmented, AreRightParts}
use Rattle.linear_algebra.proofs.AugmentLemmas.{augment_is, length-augment_from}
use Rattle.linear_algebra.proofs.Others.{others_all}
use mathlib.Core.Path.{subst}
use Rattle.linear_algebra.proofs.Congruences.{congruent_refl, congruent_add, congruent_trans, congruent_eq}
use Rattle.linear_algebra.proofs.Congruences.{congruent_sym, congruent_mul_right}
use Rattle.linear_algebra.proofs.Sums.{sum_below-parts, sum_below-same, sum_below-vanishes}
use Rattle.linear_algebra.proofs.Pivots.{coefficient_at_pivot}
use Rattle.linear_algebra.proofs.PivotLemmas.{before_pivot}
use Rattle.linear_algebra.proofs.EchelonLists.{HasPivots-from_echelon, Combines-from_combination}
use Rattle.linear_algebra.proofs.Spans.{in_span_trans}
use Rattle.linear_algebra.proofs.Combinations.{combination_past, same_coefficients, augmented_left}
use Rattle.linear_algebra.proofs.Combinations.{augmented_right}

pub pivot-drop : (w : ℕ) (r : List ℕ) → w ≤ pivot r → pivot (drop w r) + w ≡ pivot r
pivot-drop zero r l = omega arith
pivot-drop (suc w) [] l = absurd (omega arith)
pivot-drop (suc w) (zero ∷ xs) l = omega (arith, pivot-drop w xs (omega arith))
pivot-drop (suc w) (suc x ∷ xs) l = absurd (omega arith)

module _ {p width first : ℕ} {gens A F E : List (List ℕ)} (one : 1 < p) (M : IsMatrix p width gens)
    (a : IsAugmented width gens A)
    (f : IsEchelonOf p (width + length gens) A F) (parts : AreRightParts width first F E) where
  inside : (i : ℕ) → i < length E → first + i < length F
  inside i l = let c = parts.count in omega arith

  part_entry : (i j : ℕ) → i < length E → entry (row E i) j ≡ entry (row F (first + i)) (width + j)
  part_entry i j l = ap (λ r. entry r j) (parts.each i l) ∙ get_or-drop width (row F (first + i)) j 0

  part_pivot : (i : ℕ) → i < length E → pivot (row E i) + width ≡ pivot (row F (first + i))
  part_pivot i l = ap (λ r. pivot r + width) (parts.each i l)
      ∙ pivot-drop width (row F (first + i)) (parts.after i l)

  part_at_pivot : (i k : ℕ) → i < length E → k < length E
      → entry (row E k) (pivot (row E i)) ≡ entry (row F (first + k)) (pivot (row F (first + i)))
  part_at_pivot i k l m = part_entry k (pivot (row E i)) m
      ∙ ap (entry (row F (first + k))) (omega (arith, part_pivot i l))

  part_row : IsMatrix p (length gens) E
  part_row i l = let r = f.matrix (first + i) (inside i l) in record {
    length_is = ap length (parts.each i l) ∙ length-drop width (row F (first + i))
        ∙ (let h = r.length_is in omega arith);
    below = λ j b. rw (part_entry i j l) (r.below (width + j) (omega arith));
  }

  part_echelon : IsEchelon E
  part_echelon = record {
    not_zero = λ i l. let r = (f.matrix (first + i) (inside i l)).length_is in let n =
        f.echelon.not_zero (first + i) (inside i l) in
        omega (arith, part_pivot i l, (part_row i l).length_is);
    ascending = λ i k l m. let c = f.echelon.ascending (first + i) (first + k) (omega arith) (inside k m) in
        omega (arith, part_pivot i (omega arith), part_pivot k m);
    monic = λ i l. part_at_pivot i i l l ∙ f.echelon.monic (first + i) (inside i l);
    cleared = λ i k l m ne. part_at_pivot i k l m
        ∙ f.echelon.cleared (first + i) (first + k) (inside i l) (inside k m) (omega arith);
  }

  part_in_kernel : (i : ℕ) → i < length E → IsInKernel p gens (entry (row E i))
  part_in_kernel i l j = go (cases_lt j width)
    where
      c : IsInSpan p A (entry (row F (first + i)))
      c = f.spanned (first + i) (inside i l)

      coefficients : (t : ℕ) → t < length gens → IsCongruent p (entry (row E i) t) (c.0 t)
      coefficients t b = congruent_trans (congruent_eq (part_entry i t l))
          (congruent_trans (congruent_sym (c.1.each (width + t))) (augmented_right a c.0 t b))

      go : (j < width) ⊎ (width ≤ j) → IsCongruent p (combination (entry (row E i)) gens j) 0
      go (inr b) = combination_past gens M (entry (row E i)) j b
      go (inl b) = congruent_trans (same_coefficients gens (entry (row E i)) c.0 coefficients j)
          (congruent_trans (congruent_eq (sym (augmented_left a c.0 j b)))
          (congruent_trans (c.1.each j) (congruent_eq
          (before_pivot (row F (first + i)) j (let h = parts.after i l in omega arith)))))

  part_spans : (u : List ℕ) → IsRow p (length gens) u → IsInKernel p gens (entry u) → IsInSpan p E (entry u)
  part_spans u r k = ((λ i. s.0 (first + i)), record { each = λ t. go t (cases_lt t (length gens)) })
    where
      z : ℕ → ℕ
      z j = combination (entry u) A j

      s : IsInSpan p F z
      s = in_span_trans f.spans (entry u, record { each = λ j. congruent_refl (z j) })

      first_zero : (i : ℕ) → i < first → IsCongruent p (s.0 i) 0
      first_zero i b = let l : i < length F = (let c = parts.count in omega arith) in
          congruent_trans (coefficient_at_pivot p (length F) s.0 (λ i j. entry (row F i) j)
          (λ i. pivot (row F i)) z (HasPivots-from_echelon f.echelon) (Combines-from_combination s.1) i l)
          (congruent_trans (congruent_eq (augmented_left a (entry u) (pivot (row F i)) (parts.before i b)))
          (k (pivot (row F i))))

      total : (t : ℕ) → combination s.0 F (width + t) ≡ sum_below first
          (λ i. s.0 i * entry (row F i) (width + t)) + sum_below (length E)
          (λ i. s.0 (first + i) * entry (row F (first + i)) (width + t))
      total t = rw (← parts.count) (sum_below-parts first (length E)
          (λ i. s.0 i * entry (row F i) (width + t)))

      to_E : (t : ℕ) → sum_below (length E)
          (λ i. s.0 (first + i) * entry (row F (first + i)) (width + t)) ≡ combination
          (λ i. s.0 (first + i)) E t
      to_E t = sum_below-same (length E) (λ i. s.0 (first + i) * entry (row F (first + i)) (width + t))
          (λ i. s.0 (first + i) * entry (row E i) t)
          (λ i l. ap (λ x. s.0 (first + i) * x) (sym (part_entry i t l)))

      go : (t : ℕ) → (t < length gens) ⊎ (length gens ≤ t)
          → IsCongruent p (combination (λ i. s.0 (first + i)) E t) (entry u t)
      go t (inl b) = congruent_trans (congruent_sym
          (congruent_trans (congruent_eq (total t)) (congruent_trans (congruent_add
          (sum_below-vanishes p first (λ i. s.0 i * entry (row F i) (width + t))
          (λ i l. congruent_trans (congruent_mul_right (entry (row F i) (width + t)) (first_zero i l))
          (congruent_eq (omega arith))))
          (congruent_eq (to_E t))) (congruent_eq (omega arith)))))
          (congruent_trans (s.1.each (width + t)) (augmented_right a (entry u) t b))
      go t (inr b) = congruent_trans (sum_below-vanishes p (length E)
          (λ i. s.0 (first + i) * entry (row E i) t)
          (λ i l. congruent_eq (rw (get_or_past (row E i) t 0 (omega (arith, (part_row i l).length_is)))
          (omega arith))))
          (congruent_eq (sym (get_or_past u t 0 (omega (arith, r.length_is)))))

  pub kernel_from_augmented : IsKernelOf p gens E
  kernel_from_augmented = record {
    matrix = part_row;
    echelon = part_echelon;
    in_kernel = part_in_kernel;
    spans = part_spans;
  }

-- the right parts of the rows from the first one whose pivot is not below the width
pub right_parts : {F : List (List ℕ)} (width first : ℕ) → IsEchelon F → first ≤ length F
    → ((i : ℕ) → i < first → pivot (row F i) < width) →
    (first < length F → width ≤ pivot (row F first))
    → AreRightParts width first F (map (drop width) (drop first F))
right_parts {F} width first e l before here = record {
  count = omega (arith, l, count);
  before = before;
  after = λ i b. after i (rw length-map at b) (cases_eq i 0);
  each = λ i b. let m : i < length (drop first F) = rw length-map at b in
      get_or-map (drop width) (drop first F) i [] [] m ∙ ap (drop width) (get_or-drop first F i []);
}
  where
    count : length (map (drop width) (drop first F)) ≡ length F - first
    count = length-map (drop first F) (drop width) ∙ length-drop first F

    after : (i : ℕ) → i < length (drop first F) → (i ≡ 0) ⊎ (i ≡ 0 → ⊥) → width ≤ pivot (row F (first + i))
    after i b (inl z) = let m : first < length F = omega (arith, b, length-drop first F, z) in
        subst (λ k. width ≤ pivot (row F k)) (let q : first ≡ first + i = omega (arith, z) in q) (here m)
    after i b (inr n) = let m : first + i < length F = omega (arith, b, length-drop first F) in
        let h : width ≤ pivot (row F first) = here (omega (arith, m)) in
        let g : pivot (row F first) < pivot (row F (first + i)) =
        e.ascending first (first + i) (omega (arith, n)) m in omega (arith, h, g)

-- the same, from the pivots that are kept in a list
pub right_parts_placed : (F : List (List ℕ)) (ps : List ℕ) (width first : ℕ) → IsEchelon F → ps ≡ map pivot F
    → first ≤ length ps → ((i : ℕ) → i < first → get_or ps i 0 < width) →
    (first < length ps → width ≤ get_or ps first 0)
    → AreRightParts width first F (map (drop width) (drop first F))
right_parts_placed F ps width first e q l below here = right_parts width first e (omega (arith, l, count))
    (λ i b. let k : get_or ps i 0 < width = below i b in omega (
      arith,
      k,
      kept i (omega (arith, b, l, count)),
    ))
    (λ b. let k : width ≤ get_or ps first 0 = here (omega (arith, b, count)) in omega (
      arith,
      k,
      kept first b,
    ))
  where
    count : length ps ≡ length F
    count = ap length q ∙ length-map F pivot

    kept : (i : ℕ) → i < length F → get_or ps i 0 ≡ pivot (row F i)
    kept i b = ap (λ xs. get_or xs i 0) q ∙ get_or-map pivot F i [] 0 b

-- the pivots of the right parts
pub right_pivots : {width first : ℕ} {F E : List (List ℕ)} → AreRightParts width first F E → (ps : List ℕ)
    → ps ≡ map pivot F → map (λ q. q - width) (drop first ps) ≡ map pivot E
right_pivots {width} {first} {F} {E} h ps q =
    ext_get_or 0 (map (λ q. q - width) (drop first ps)) (map pivot E)
    (lengths ∙ sym (length-map E pivot)) (λ i l. at i (omega (arith, l, lengths)))
  where
    lengths : length (map (λ q. q - width) (drop first ps)) ≡ length E
    lengths = let c = h.count in let n : length ps ≡ length F = ap length q ∙ length-map F pivot in
        length-map (drop first ps) (λ q. q - width) ∙ length-drop first ps
        ∙ (let z : length ps - first ≡ length E = omega (arith, c, n) in z)

    at : (i : ℕ) → i < length E → get_or (map (λ q. q - width) (drop first ps)) i 0 ≡ get_or (map pivot E) i 0
    at i l = get_or-map (λ q. q - width) (drop first ps) i 0 0
        (omega (arith, l, lengths, length-map (drop first ps) (λ q. q - width)))
        ∙ ap (λ x. x - width) (get_or-drop first ps i 0 ∙ ap (λ xs. get_or xs (first + i) 0) q
        ∙ get_or-map pivot F (first + i) [] 0 (let c = h.count in omega (arith, c, l)))
        ∙ (let p : pivot (drop width (row F (first + i))) + width ≡ pivot
        (row F (first + i)) = pivot-drop width (row F (first + i)) (h.after i l) in
        let z : pivot (row F (first + i)) - width ≡ pivot (drop width (row F (first + i))) =
        omega (arith, p) in z)
        ∙ ap pivot (sym (h.each i l)) ∙ sym (get_or-map pivot E i [] 0 l)

-- the kernel from the elimination of all rows, each with its unit row
pub kernel_of_rows : {p width n : ℕ} {rows F E : List (List ℕ)} {skipped : List ℕ} → 1 < p
    → IsMatrix p width rows → ((t : ℕ) → IsAmong skipped t → ⊥) → length rows ≤ n →
    IsEchelonOfOthers p (width + length rows) (augment rows) skipped n F → (first : ℕ)
    × AreRightParts width first F E → IsKernelOf p rows E
kernel_of_rows {p} {width} {n} {rows} one M none all h (first, parts) =
    kernel_from_augmented one M (augment_is rows M)
    (others_all none (let c : length (augment rows) ≡ length rows = length-augment_from
    (length rows) 0 rows in omega (arith, c, all)) h) parts
