-- The lists of the powers of the augmentation ideal.
use Rattle.std.proofs.Common.{◌≡◌, ◌≢◌, ℕ, suc, ◌*◌, ◌<◌, ◌≤◌, ◌⊎◌, List, length, inl, inr}
use Rattle.std.proofs.Common.{arith, ap, sym, ◌∙◌, refl}
use Rattle.std.proofs.lemmas.Bool.{cases_lt}
use Rattle.std.proofs.lemmas.List.{get_or_past}
use mathlib.Core.Path.{subst}
use Rattle.group_table.specs.Tables.{order, product}
use Rattle.group_modules.specs.Field.{Below}
use Rattle.linear_algebra.specs.Modular.{IsCongruent, sum_below}
use Rattle.linear_algebra.specs.Rows.{entry, row, pivot, IsRow, IsMatrix, IsEchelon, IsCombination, IsInSpan}
use Rattle.linear_algebra.specs.Rows.{IsEchelonOf}
use Rattle.linear_algebra.specs.Kernels.{unit_row}
use Rattle.linear_algebra.proofs.AugmentLemmas.{entry_unit_same, entry_unit_other}
use Rattle.linear_algebra.proofs.Congruences.{congruent_trans, congruent_eq}
use Rattle.linear_algebra.proofs.EchelonLists.{same_echelon}
use Rattle.linear_algebra.proofs.PivotLemmas.{pivot_is}
use Rattle.linear_algebra.proofs.Spans.{in_span_trans}
use Rattle.radical_layers.proofs.UnitRow.{unit-is-row}
use Rattle.linear_algebra.proofs.Sums.{sum_below-one, sum_below-vanishes}
use Rattle.radical_layers.specs.Layers.{IsPowerList}
use Rattle.radical_layers.specs.Moves.{moves_by}
use Rattle.p_groups.specs.PGroups.{PGroup, largest_residue, group}
use Rattle.group_algebra.specs.Products.{AreGenerators, IsProductOf, numbers}
use Rattle.group_algebra.proofs.GeneratorMoves.{IsNumbered, elements, next-by-generators}
use Rattle.p_groups.proofs.Fields.{residues}
use Rattle.group_algebra.specs.Coordinates.{sum_coordinates, free_module}

-- each row is the combination of the unit rows with its entries
module _ (p n : ℕ) (M : List (List ℕ)) (len : length M ≡ n) (units : (k : ℕ) → k < n
    → row M k ≡ unit_row n k) where
  pub units-combination : (x : List ℕ) → IsRow p n x → IsCombination p (entry x) M (entry x)
  units-combination x r = record { each = λ j. rw len (at j (cases_lt j n)) }
    where
      other : (j i : ℕ) → i < n → i ≢ j → IsCongruent p (entry x i * entry (row M i) j) 0
      other j i l d = congruent_eq (ap (λ y. entry x i * entry y j) (units i l)
          ∙ ap (λ y. entry x i * y) (entry_unit_other n i j (λ e. d (sym e)))
          ∙ (let z : entry x i * 0 ≡ 0 = omega arith in z))

      at : (j : ℕ) → (j < n) ⊎ (n ≤ j) → IsCongruent p (sum_below n (λ i. entry x i * entry (row M i) j))
          (entry x j)
      at j (inl l) = congruent_trans (sum_below-one p n j (λ i. entry x i * entry (row M i) j) l
          (λ i m d. other j i m d))
          (congruent_eq (ap (λ y. entry x j * entry y j) (units j l)
          ∙ ap (λ y. entry x j * y) (entry_unit_same n j l)
          ∙ (let z : entry x j * 1 ≡ entry x j = omega arith in z)))
      at j (inr l) = congruent_trans (sum_below-vanishes p n (λ i. entry x i * entry (row M i) j)
          (λ i m. other j i m (omega (arith, l, m))))
          (congruent_eq (sym (get_or_past x j 0 (let e : length x ≡ n = r.length_is in omega (arith, e, l)))))

  pub in-units : (x : List ℕ) → IsRow p n x → IsInSpan p M (entry x)
  in-units x r = (entry x, units-combination x r)

  module _ (above : 1 < p) where
    unit-pivot : (i : ℕ) → i < n → pivot (unit_row n i) ≡ i
    unit-pivot i l = pivot_is (unit_row n i) i
        (λ j m. entry_unit_other n i j (let z : j ≢ i = omega (arith, m) in z))
        (λ e. let z : entry (unit_row n i) i ≡ 1 = entry_unit_same n i l in omega (arith, e, z))

    pivot-at : (i : ℕ) → i < length M → pivot (row M i) ≡ i
    pivot-at i l = let m : i < n = omega (arith, l, len) in ap pivot (units i m) ∙ unit-pivot i m

    units-matrix : IsMatrix p n M
    units-matrix i l = let m : i < n = omega (arith, l, len) in
        subst (IsRow p n) (sym (units i m)) (unit-is-row p n i above m)

    units-echelon : IsEchelon M
    units-echelon = record {
      not_zero = λ i l. let e : pivot (row M i) ≡ i = pivot-at i l in
          let f : length (row M i) ≡ n = (units-matrix i l).length_is in omega (arith, e, f, l, len);
      ascending = λ i k l m. let e : pivot (row M i) ≡ i = pivot-at i (omega (arith, l, m)) in
          let f : pivot (row M k) ≡ k = pivot-at k m in omega (arith, e, f, l);
      monic = λ i l. let m : i < n = omega (arith, l, len) in ap (entry (row M i)) (pivot-at i l)
          ∙ ap (λ x. entry x i) (units i m) ∙ entry_unit_same n i m;
      cleared = λ i k l m d. ap (entry (row M k)) (pivot-at i l)
          ∙ ap (λ x. entry x i) (units k (omega (arith, m, len))) ∙ entry_unit_other n k i d;
    }

    -- the echelon list of the unit rows is their list
    pub units-one : (E : List (List ℕ)) → IsEchelonOf p n M E → E ≡ M
    units-one E e = same_echelon above E M e.matrix units-matrix e.echelon units-echelon e.spans e.spanned

module _ (G : PGroup) where
  abbrev IsPower : ℕ → List (List ℕ) → Type 0
  IsPower i E = IsPowerList (largest_residue G) (group G) (sum_coordinates G) i E

  pub whole-is : (M E : List (List ℕ)) → length M ≡ order G.table
      → ((k : ℕ) → k < order G.table → row M k ≡ unit_row (order G.table) k)
      → IsEchelonOf G.table.p (order G.table) M E → IsPower 0 E
  whole-is M E len units e = go (subst (λ p. IsEchelonOf p (order G.table) M E) (sym (residues G)) e)
    where
      go : IsEchelonOf (suc (largest_residue G)) (order G.table) M E → IsPower 0 E
      go e = record {
        matrix = e.matrix;
        echelon = e.echelon;
        members = λ i l. (e.matrix i l, tt);
        spans = λ x r. in_span_trans e.spans
            (in-units (suc (largest_residue G)) (order G.table) M len units x r.0);
      }

  numbered : IsNumbered (group G) (product G.table)
  numbered = record { one-is = refl; mul-is = λ g k. refl }

  pub next-is : (i : ℕ) (E M E' : List (List ℕ)) → IsPower i E → (gens : List ℕ) → AreGenerators G.table gens
      → ((gs : List (Below (order G.table))) → numbers gs ≡ gens
      → M ≡ moves_by (group G) (free_module G 1) (sum_coordinates G) gs E)
      → IsEchelonOf G.table.p (order G.table) M E' → IsPower (suc i) E'
  next-is i E M E' P gens A m e = go (elements (order G.table) gens A.below)
    where
      go : (gs : List (Below (order G.table))) × (numbers gs ≡ gens) → IsPower (suc i) E'
      go (gs, n) = next-by-generators (group G) (product G.table) numbered (order G.table) (free_module G 1)
          (sum_coordinates G) i E P gs
          (λ x l. subst (λ ys. IsProductOf (product G.table) ys x) (sym n) (A.generate x l)) E'
          (subst (λ N. IsEchelonOf (suc (largest_residue G)) (order G.table) N E') (m gs n)
          (subst (λ p. IsEchelonOf p (order G.table) M E') (sym (residues G)) e))
