-- The section by its table: the sum over the pivots.
use Rattle.std.proofs.Common.{◌≡◌, ℕ, suc, ◌+◌, ◌*◌, ◌<◌, List, length, arith, ap, ap₂, sym, ◌∙◌, refl}
use mathlib.Core.Path.{subst, fun_ext}
use Rattle.group_modules.specs.Module.{Module, sub, times}
use Rattle.group_modules.proofs.Laws.{map-times, map-sub, sub-self, sub-eq}
use Rattle.group_modules.specs.Field.{Below}
use Rattle.group_modules.specs.Sums.{below, total}
use Rattle.group_modules.proofs.SumLaws.{map-total}
use Rattle.group_modules.specs.Tables.{Group, monoid, Table}
use Rattle.group_modules.proofs.MapLaws.{terms-linear}
use Rattle.radical_layers.specs.Coordinates.{Coordinates}
use Rattle.radical_layers.proofs.Bridge.{at-zero, at-sub, same-table, tabs, at-tabs}
use Rattle.linear_algebra.specs.Modular.{IsCongruent, IsFieldModulo}
use Rattle.linear_algebra.specs.Rows.{entry, row, pivot, combination, IsRow, IsMatrix, IsEchelon, IsInSpan}
use Rattle.linear_algebra.proofs.Sums.{sum_below-congruent, sum_below-vanishes}
use Rattle.linear_algebra.proofs.Congruences.{congruent_trans, congruent_eq, congruent_sym}
use Rattle.linear_algebra.proofs.Congruences.{congruent_mul_right, same_below}
use Rattle.linear_algebra.proofs.CombinationRows.{combination_row-is_row, combination_row-each}
use Rattle.linear_algebra.proofs.Pivots.{coefficient_at_pivot, zero_at_pivots}
use Rattle.linear_algebra.proofs.EchelonLists.{HasPivots-from_echelon, Combines-from_combination}
use Rattle.resolution_stages.specs.Checks.{StageParts, IsNextStage, del, chosen_row}
use Rattle.resolution_stages.specs.Chain.{section_row}

module _ {n : ℕ} (q : ℕ) (F : IsFieldModulo (suc q)) (Γ : Group n) (K : Coordinates q Γ) (b : ℕ)
    (E : List (List ℕ)) (M : IsMatrix (suc q) (n * b) E) (e : IsEchelon E)
    (Q : StageParts) (N : IsNextStage q Γ K b E Q) where
  abbrev m : ℕ
  m = length Q.positions

  abbrev T : Module (suc q) (monoid Γ)
  T = Table q Γ b

  abbrev T' : Module (suc q) (monoid Γ)
  T' = Table q Γ (length Q.positions)

  abbrev ∂ : (Table q Γ (length Q.positions)).of → (Table q Γ b).of
  ∂ u = del q Γ K b E Q u

  positive : 0 < suc q
  positive = omega arith

  -- two rows with the same boundary, 0 at the pivots of the kernel, are equal
  pub values-one : (u w : List ℕ) → IsRow (suc q) (n * m) u → IsRow (suc q) (n * m) w
      → ∂ ((K m).table u) ≡ ∂ ((K m).table w)
      → ((i : ℕ) → i < length Q.kernel → entry u (pivot (row Q.kernel i)) ≡ 0)
      → ((i : ℕ) → i < length Q.kernel → entry w (pivot (row Q.kernel i)) ≡ 0) → u ≡ w
  values-one u w r s h a z = sym ((K m).row-table u r) ∙ ap (K m).row tables-same ∙ (K m).row-table w s
    where
      d : (Table q Γ (length Q.positions)).of
      d = sub (Table q Γ (length Q.positions)) ((K (length Q.positions)).table u)
          ((K (length Q.positions)).table w)

      d-zero : ∂ d ≡ T.zero
      d-zero = map-sub T' T (λ v. del q Γ K b E Q v) (terms-linear q Γ m T (chosen_row q Γ K b E Q)).on-add
          ((K m).table u) ((K m).table w)
          ∙ ap (sub T (∂ ((K m).table u))) (sym h) ∙ sub-self T (∂ ((K m).table u))

      c : IsInSpan (suc q) Q.kernel (entry ((K m).row d))
      c = N.kernel_is.spans ((K m).row d) (
        (K m).row-is d,
        subst (λ v. ∂ v ≡ T.zero) (sym ((K m).table-row d)) d-zero,
      )

      at-pivots : (j : ℕ) → j < length Q.kernel
          → IsCongruent (suc q) (entry ((K m).row d) (pivot (row Q.kernel j))) 0
      at-pivots j l = congruent_trans (at-sub q Γ (n * m) T' (K m) ((K m).table u) ((K m).table w)
          (pivot (row Q.kernel j)))
          (congruent_eq (ap₂ (λ x y. entry x (pivot (row Q.kernel j)) + q * entry y (pivot (row Q.kernel j)))
          ((K m).row-table u r) ((K m).row-table w s)
          ∙ ap₂ (λ x y. x + q * y) (a j l) (z j l) ∙ (let o : ◌≡◌ {A = ℕ} (0 + q * 0) 0 = omega arith in o)))

      tables-same : (K m).table u ≡ (K m).table w
      tables-same = sub-eq T' ((K m).table u) ((K m).table w) (same-table q Γ (n * m) T' (K m) d T'.zero
          (λ j. congruent_trans (zero_at_pivots (suc q) (length Q.kernel) c.0
          (λ i j. entry (row Q.kernel i) j) (λ i. pivot (row Q.kernel i)) (entry ((K m).row d))
          (HasPivots-from_echelon N.kernel_is.echelon) (Combines-from_combination c.1) at-pivots j)
          (congruent_sym (at-zero q Γ (n * m) T' (K m) j))))

  module _ (x : List ℕ) (r : IsRow (suc q) (n * b) x) (s : IsInSpan (suc q) E (entry x)) where
    abbrev c : ℕ → ℕ
    c k = entry x (pivot (row E k))

    abbrev u : List ℕ
    u = section_row (suc q) (n * length Q.positions) E Q.sections x

    pub value-is_row : IsRow (suc q) (n * m) u
    value-is_row = combination_row-is_row (suc q) (n * m) positive c Q.sections N.section_rows

    pub value-zero : (i : ℕ) → i < length Q.kernel → entry u (pivot (row Q.kernel i)) ≡ 0
    value-zero i l = same_below
        (congruent_trans (combination_row-each (suc q) (n * m) positive c Q.sections N.section_rows
        (pivot (row Q.kernel i)))
        (sum_below-vanishes (suc q) (length Q.sections)
        (λ k. c k * entry (row Q.sections k) (pivot (row Q.kernel i)))
        (λ k h. congruent_eq (ap (λ y. c k * y)
        (N.zero_at_pivots k i (subst (λ y. k < y) N.section_count h) l)
        ∙ (let z : c k * 0 ≡ 0 = omega arith in z)))))
        (value-is_row.below (pivot (row Q.kernel i))
        (let a : pivot (row Q.kernel i) < length
        (row Q.kernel i) = N.kernel_is.echelon.not_zero i l in
        let w : length (row Q.kernel i) ≡ n * m = (N.kernel_is.matrix i l).length_is in
        omega (arith, a, w)))
        positive

    -- x is the combination of the rows of E with its entries at the pivots
    x-each : (j : ℕ) → IsCongruent (suc q) (combination c E j) (entry x j)
    x-each j = congruent_trans
        (sum_below-congruent (suc q) (length E) (λ k. c k * entry (row E k) j)
        (λ k. s.0 k * entry (row E k) j)
        (λ k l. congruent_mul_right (entry (row E k) j)
        (congruent_sym (coefficient_at_pivot (suc q) (length E) s.0 (λ i j. entry (row E i) j)
        (λ i. pivot (row E i)) (entry x) (HasPivots-from_echelon e)
        (Combines-from_combination s.1) k l))))
        (s.1.each j)

    table-of-u : (K m).table u ≡ tabs q Γ (n * m) T' (K m) Q.sections c (length E)
    table-of-u = same-table q Γ (n * m) T' (K m) ((K m).table u)
        (tabs q Γ (n * m) T' (K m) Q.sections c (length E)) (λ j.
        congruent_trans (congruent_eq (ap (λ y. entry y j) ((K m).row-table u value-is_row)))
        (congruent_trans (combination_row-each (suc q) (n * m) positive c Q.sections N.section_rows j)
        (congruent_sym (at-tabs q Γ (n * m) T' (K m) Q.sections N.section_rows c (length E)
        (sym N.section_count) j))))

    table-of-x : (K b).table x ≡ tabs q Γ (n * b) T (K b) E c (length E)
    table-of-x = same-table q Γ (n * b) T (K b) ((K b).table x) (tabs q Γ (n * b) T (K b) E c (length E))
        (λ j.
        congruent_trans (congruent_eq (ap (λ y. entry y j) ((K b).row-table x r)))
        (congruent_trans (congruent_sym (x-each j))
        (congruent_sym (at-tabs q Γ (n * b) T (K b) E M c (length E) refl j))))

    pub value-boundary : ∂ ((K m).table u) ≡ (K b).table x
    value-boundary = ap ∂ table-of-u
        ∙ map-total T' T (λ v. del q Γ K b E Q v) on-add (below (length E))
        (λ i. times T'.add T'.zero (c i.0) ((K m).table (row Q.sections i.0)))
        ∙ ap (total T (below (length E)))
        (fun_ext (λ (i : Below (length E)). map-times T' T (λ v. del q Γ K b E Q v) on-add (c i.0)
        ((K m).table (row Q.sections i.0))
        ∙ ap (times T.add T.zero (c i.0)) (N.sections_to_rows i.0 i.1)))
        ∙ sym table-of-x
      where
        on-add : (v w : (Table q Γ (length Q.positions)).of) → ∂ (T'.add v w) ≡ T.add (∂ v) (∂ w)
        on-add = (terms-linear q Γ m T (chosen_row q Γ K b E Q)).on-add
