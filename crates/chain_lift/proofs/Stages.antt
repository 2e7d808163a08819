-- The rows of a stage, its section and its width.
use Rattle.std.proofs.Common.{◌≡◌, ℕ, suc, ◌*◌, ◌<◌, List, [], get_or, arith, ap, ap₂, sym}
use Rattle.std.proofs.lemmas.List.{get_or-map}
use mathlib.Core.Path.{subst}
use Rattle.group_table.specs.Tables.{order}
use Rattle.linear_algebra.specs.Rows.{row, IsRow}
use Rattle.linear_algebra.specs.Choices.{rows_at}
use Rattle.resolution_stages.specs.Definitions.{images}
use Rattle.fp_rows.specs.Values.{MatrixValue}
use Rattle.p_groups.specs.PGroups.{PGroup, largest_residue}
use Rattle.p_groups.proofs.Fields.{residues}
use Rattle.min_res.specs.Stages.{stage_rows, rank_of}
use Rattle.min_res.proofs.StageRows.{stage_rows_are}
use Rattle.min_res.specs.Values.{StageValue}
use Rattle.min_res.specs.Defined.{IsStageAt}
use Rattle.min_res.proofs.StageAbove.{positions-inside}
use Rattle.min_res.proofs.StageReadings.{boundary-at}
use Rattle.chain_lift.specs.RowMaps.{image_row}

module _ (G : PGroup) (d : ℕ) where
  -- a row of the boundary of degree d + 1
  pub boundary-row : (i : ℕ) → i < rank_of G (suc d)
      → IsRow (suc (largest_residue G)) (order G.table * rank_of G d) (row (images (stage_rows G) d) i)
  boundary-row i l = subst (λ x. IsRow (suc (largest_residue G)) (order G.table * rank_of G d) x)
      (sym (get_or-map (row ((stage_rows G).kernel d)) ((stage_rows G).positions d) i 0 [] l))
      (((stage_rows_are G).kernel_is d).matrix (get_or ((stage_rows G).positions d) i 0)
      (positions-inside G d i l))

  module _ (s : StageValue) (L : IsStageAt G (suc d) s) where
    pub image-is : (i : ℕ) → image_row s i ≡ row (images (stage_rows G) d) i
    image-is i = ap₂ (λ (E : List (List ℕ)) (xs : List ℕ). row (rows_at E xs) i)
        (ap (λ (m : MatrixValue). m.rows) (boundary-at G d s L).source_is) (boundary-at G d s L).positions_are

    pub image-is-row : (i : ℕ) → i < s.rank → IsRow G.table.p (order G.table * rank_of G d) (image_row s i)
    image-is-row i l = subst (λ x. IsRow G.table.p (order G.table * rank_of G d) x) (sym (image-is i))
        (subst (λ p. IsRow p (order G.table * rank_of G d) (row (images (stage_rows G) d) i)) (residues G)
        (boundary-row i (let e : s.rank ≡ rank_of G (suc d) = L.rank_is in omega (arith, e, l))))
