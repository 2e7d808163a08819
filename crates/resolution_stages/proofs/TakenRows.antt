-- Rows that are taken at ascending positions: the combinations of the first of them, and when they are the
-- greedy choice.
use Rattle.std.proofs.Common.{◌≡◌, ◌≢◌, ℕ, zero, suc, ◌*◌, ◌<◌, ◌≤◌, ◌⊎◌, List, [], ◌∷◌, ◌++◌}
use Rattle.std.proofs.Common.{length, get_or, take, inl, inr, arith, ap, sym, ◌∙◌, refl}
use Rattle.std.proofs.lemmas.Bool.{cases_eq, cases_lt}
use Rattle.std.proofs.lemmas.List.{length-map, get_or-map, get_or-take, length-take-le}
use Rattle.std.proofs.Math.Seq.{take-suc}
use mathlib.Core.Path.{subst}
use Rattle.group_modules.specs.Field.{Below}
use Rattle.linear_algebra.specs.Modular.{IsCongruent, sum_below}
use Rattle.linear_algebra.specs.Rows.{entry, row, combination, IsInSpan}
use Rattle.linear_algebra.specs.Choices.{rows_at, IsGreedyBelow}
use Rattle.linear_algebra.proofs.Sums.{sum_below-same}
use Rattle.linear_algebra.proofs.Congruences.{congruent_trans, congruent_eq, congruent_mul_right}
use Rattle.resolution_stages.proofs.Sequences.{sum_below-prefix}

module _ (q : ℕ) (E : List (List ℕ)) (positions : List ℕ) where
  abbrev m : ℕ
  m = length positions

  abbrev pos : ℕ → ℕ
  pos i = get_or positions i 0

  -- the first k of the rows
  abbrev firsts : ℕ → List (List ℕ)
  firsts k = rows_at E (take k positions)

  abbrev taken : List (List ℕ)
  taken = rows_at E positions

  full-form : (u : ℕ → ℕ) (j : ℕ) → combination u taken j ≡ sum_below m (λ i. u i * entry (row E (pos i)) j)
  full-form u j = ap (λ k. sum_below k (λ i. u i * entry (row taken i) j)) (length-map positions (row E))
      ∙ sum_below-same m (λ i. u i * entry (row taken i) j) (λ i. u i * entry (row E (pos i)) j)
      (λ i l. ap (λ r. u i * entry r j) (get_or-map (row E) positions i 0 [] l))

  pub firsts-form : (u : ℕ → ℕ) (k : ℕ) → k ≤ m → (j : ℕ)
      → combination u (firsts k) j ≡ sum_below k (λ i. u i * entry (row E (pos i)) j)
  firsts-form u k l j = ap (λ x. sum_below x (λ i. u i * entry (row (firsts k) i) j))
      (length-map (take k positions) (row E) ∙ length-take-le k positions l)
      ∙ sum_below-same k (λ i. u i * entry (row (firsts k) i) j) (λ i. u i * entry (row E (pos i)) j)
      (λ i d. ap (λ r. u i * entry r j) (get_or-map (row E) (take k positions) i 0 []
      (subst (λ x. i < x) (sym (length-take-le k positions l)) d)
      ∙ ap (row E) (get_or-take k positions i 0 d)))

  -- coefficients that are 0 from k on
  pub firsts-only : (u : ℕ → ℕ) (k : ℕ) → k ≤ m → ((i : ℕ) → k ≤ i → i < m → IsCongruent (suc q) (u i) 0)
      → (j : ℕ) → IsCongruent (suc q) (combination u taken j) (combination u (firsts k) j)
  firsts-only u k l h j = congruent_trans (congruent_eq (full-form u j))
      (congruent_trans (sum_below-prefix (suc q) k m (λ i. u i * entry (row E (pos i)) j) l
      (λ i c d. congruent_trans (congruent_mul_right (entry (row E (pos i)) j) (h i c d))
      (congruent_eq (let z : 0 * entry (row E (pos i)) j ≡ 0 = omega arith in z))))
      (congruent_eq (sym (firsts-form u k l j))))

  -- each position's row is outside the span of t and the rows taken before, and every other row is in it
  pub record AreChosen (t : List (List ℕ)) : Type 0 where
    pub ascending : (i j : ℕ) → i < j → j < m → pos i < pos j
    pub outside : (k : ℕ) → k < m → IsInSpan (suc q) (t ++ firsts k) (entry (row E (pos k))) → ⊥
    pub within : (x : ℕ) → x < length E → ((i : Below m) → pos i.0 ≢ x) → (k : ℕ) → k ≤ m
        → ((i : ℕ) → k ≤ i → i < m → x < pos i) → IsInSpan (suc q) (t ++ firsts k) (entry (row E x))

  module _ (t : List (List ℕ)) (C : AreChosen t) where
    -- so the positions are the greedy choice
    pub greedy : (x k : ℕ) → x ≤ length E → k ≤ m → ((i : ℕ) → i < k → pos i < x)
        → ((i : ℕ) → k ≤ i → i < m → x ≤ pos i) → IsGreedyBelow (suc q) E t x (take k positions)
    greedy zero zero d l below above = refl
    greedy zero (suc k) d l below above =
        absurd (let z : pos 0 < 0 = below 0 (omega arith) in omega (arith, z))
    greedy (suc x) zero d l below above =
        inl (
          greedy x zero (let y : x ≤ length E = omega (arith, d) in y) l (λ i z. absurd (omega (arith, z)))
              (λ i c h. let z : suc x ≤ pos i = above i c h in omega (arith, z)),
          C.within x d (λ i e. let z : suc x ≤ pos i.0 = above i.0 (omega arith) i.1 in absurd
              (omega (arith, z, e))) zero l (λ i c h. above i c h),
        )
    greedy (suc x) (suc k) d l below above =
        at-end (cases_eq (pos k) x) (λ j c u v. greedy x j
        (let y : x ≤ length E = omega (arith, d) in y) c u v)
      where
        at-end : (pos k ≡ x) ⊎ (pos k ≡ x → ⊥)
            → ((j : ℕ) → j ≤ m → ((i : ℕ) → i < j → pos i < x) → ((i : ℕ) → j ≤ i → i < m → x ≤ pos i)
            → IsGreedyBelow (suc q) E t x (take j positions))
            → IsGreedyBelow (suc q) E t (suc x) (take (suc k) positions)
        at-end (inl e) ih = inr (
          take k positions,
          ih k (omega (arith, l)) (λ i c. let z : pos i < pos k = C.ascending i k c l in omega (
            arith,
            z,
            e,
          )) (λ i c h. at-or-after i c h (cases_eq i k)),
          (λ s. C.outside k l (subst (λ y. IsInSpan (suc q) (t ++ firsts k) (entry (row E y))) (sym e) s)),
          take-suc positions k 0 l ∙ ap (λ y. take k positions ++ y ∷ []) e,
        )
          where
            at-or-after : (i : ℕ) → k ≤ i → i < m → (i ≡ k) ⊎ (i ≡ k → ⊥) → x ≤ pos i
            at-or-after i c h (inl u) = let z : pos i ≡ x = ap pos u ∙ e in omega (arith, z)
            at-or-after i c h (inr u) = let z : pos k < pos i = C.ascending k i (omega (arith, c, u)) h in
                omega (arith, z, e)
        at-end (inr e) ih = inl (
          ih (suc k) l (λ i c. smaller i c (cases_eq i k))
              (λ i c h. let z : suc x ≤ pos i = above i c h in omega (arith, z)),
          C.within x d (λ i u. apart i u (cases_lt i.0 (suc k))) (suc k) l above,
        )
          where
            last : pos k < x
            last = let z : pos k < suc x = below k (omega arith) in omega (arith, z, e)

            smaller : (i : ℕ) → i < suc k → (i ≡ k) ⊎ (i ≡ k → ⊥) → pos i < x
            smaller i c (inl u) = subst (λ y. pos y < x) (sym u) last
            smaller i c (inr u) = let z : pos i < pos k = C.ascending i k (omega (arith, c, u)) l in
                let w : pos k < x = last in omega (arith, z, w)

            apart : (i : Below m) → pos i.0 ≡ x → (i.0 < suc k) ⊎ (suc k ≤ i.0) → ⊥
            apart i u (inl c) = let z : pos i.0 < x = smaller i.0 c (cases_eq i.0 k) in omega (arith, z, u)
            apart i u (inr c) = let z : suc x ≤ pos i.0 = above i.0 c i.1 in omega (arith, z, u)
