-- The echelon list of the unit rows but the first is that of K_0.
use Rattle.std.proofs.Common.{◌≡◌, ℕ, suc, ◌+◌, ◌*◌, ◌<◌, List, length, arith, ap, ap₂, sym, ◌∙◌}
use mathlib.Core.Path.{subst}
use Rattle.group_table.specs.Tables.{order}
use Rattle.group_modules.specs.Field.{residue}
use Rattle.linear_algebra.specs.Rows.{entry, row, IsRow, IsMatrix, IsEchelonOf}
use Rattle.linear_algebra.specs.Kernels.{unit_row}
use Rattle.linear_algebra.proofs.AugmentLemmas.{entry_unit_same, entry_unit_other}
use Rattle.linear_algebra.proofs.EchelonLists.{same_echelon}
use Rattle.radical_layers.proofs.UnitRow.{unit-is-row}
use Rattle.resolution_stages.specs.Chain.{IsFirstList, IsUnitList}
use Rattle.resolution_stages.proofs.FirstLists.{first-of-units}
use Rattle.resolution_stages.proofs.ChainLaws.{stage-claims}
use Rattle.p_groups.specs.PGroups.{PGroup, largest_residue, group}
use Rattle.p_groups.proofs.Fields.{residues, field}
use Rattle.group_algebra.specs.Coordinates.{layer_coordinates}
use Rattle.group_algebra.proofs.LayerLaws.{layer_claims, sum_coordinates_are}
use Rattle.fp_rows.specs.Values.{MatrixValue}
use Rattle.min_res.specs.Stages.{stage_rows}
use Rattle.min_res.proofs.StageRows.{stage_rows_are}
use Rattle.min_res.specs.Defined.{kernel_value}

-- matrices by their parts
pub matrix-value : (a b : MatrixValue) → a.p ≡ b.p → a.width ≡ b.width → a.rows ≡ b.rows → a ≡ b
matrix-value a b e f g = ap (λ (x : ℕ). made x a.width a.rows) e
    ∙ ap₂ (λ (x : ℕ) (y : List (List ℕ)). made b.p x y) f g
  where
    made : ℕ → ℕ → List (List ℕ) → MatrixValue
    made x y z = record { p = x; width = y; rows = z }

module _ (G : PGroup) (units : List (List ℕ)) (count : length units + 1 ≡ order G.table)
    (each : (i : ℕ) → i < length units → row units i ≡ unit_row (order G.table) (i + 1)) where
  abbrev q : ℕ
  q = largest_residue G

  inside : (i : ℕ) → i < length units → i + 1 < order G.table
  inside i l = omega (arith, l, count)

  unit-list : IsUnitList (suc q) (order G.table * 1) units
  unit-list = record {
    matrix = λ i l. subst (λ n. IsRow (suc q) n (row units i))
        (let z : order G.table ≡ order G.table * 1 = omega arith in z)
        (subst (λ x. IsRow (suc q) (order G.table) x) (sym (each i l))
        (unit-is-row (suc q) (order G.table) (i + 1) (field G).above_one (inside i l)));
    count = omega (arith, count);
    own = λ i l. ap (λ x. entry x (suc i)) (each i l)
        ∙ ap (λ k. entry (unit_row (order G.table) k) (suc i)) (let z : i + 1 ≡ suc i = omega arith in z)
        ∙ entry_unit_same (order G.table) (suc i)
        (let z : suc i < order G.table = omega (arith, inside i l) in z);
    others = λ i j l d. ap (λ x. entry x j) (each i l)
        ∙ entry_unit_other (order G.table) (i + 1) j (λ e. d (let z : j ≡ suc i = omega (arith, e) in z));
  }

  first : IsFirstList q (group G) (layer_coordinates G) units
  first = first-of-units q (group G) (layer_coordinates G)
      (λ v. sym ((layer_claims G).sums (sum_coordinates_are G).first G.law.law.some 1 v
      (residue 0 0))) units unit-list

  pub first-kernel : (list : List (List ℕ)) → IsEchelonOf G.table.p (order G.table) units list
      → list ≡ (stage_rows G).kernel 0
  first-kernel list e = same_echelon (field G).above_one list units e'.matrix matrix e'.echelon first.echelon
      e'.spans e'.spanned
      ∙ (stage-claims q (field G) (group G) (layer_coordinates G) (stage_rows G)
      (stage_rows_are G)).first_list units first
    where
      e' : IsEchelonOf (suc q) (order G.table) units list
      e' = subst (λ p. IsEchelonOf p (order G.table) units list) (sym (residues G)) e

      matrix : IsMatrix (suc q) (order G.table) units
      matrix i l = subst (λ n. IsRow (suc q) n (row units i))
          (let z : order G.table * 1 ≡ order G.table = omega arith in z) (unit-list.matrix i l)

pub first-value : (G : PGroup) (units e : MatrixValue) → units.p ≡ G.table.p → units.width ≡ order G.table
    → length units.rows + 1 ≡ order G.table
    → ((i : ℕ) → i < length units.rows → row units.rows i ≡ unit_row (order G.table) (i + 1)) → e.p ≡ units.p
    → e.width ≡ units.width → IsEchelonOf units.p units.width units.rows e.rows
    → e ≡ kernel_value G 0
first-value G units e p w count each p' w' list =
    matrix-value e (kernel_value G 0) (p' ∙ p) (w' ∙ w
    ∙ (let z : order G.table ≡ order G.table * 1 = omega arith in z))
    (first-kernel G units.rows count each e.rows
    (subst (λ n. IsEchelonOf G.table.p n units.rows e.rows) w
    (subst (λ n. IsEchelonOf n units.width units.rows e.rows) p list)))
