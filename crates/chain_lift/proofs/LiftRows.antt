-- The rows of the maps of a lift.
use Rattle.std.proofs.Common.{◌≡◌, ℕ, suc, ◌*◌, ◌<◌, List, length, arith, ap, ap₂, sym, ◌∙◌}
use Rattle.std.proofs.Math.Nat.{mod-eq_of_lt}
use mathlib.Core.Path.{subst, fun_ext}
use Rattle.group_table.specs.Tables.{order}
use Rattle.group_modules.specs.Module.{lin}
use Rattle.group_modules.specs.Field.{Below}
use Rattle.group_modules.specs.Tables.{Group, terms}
use Rattle.linear_algebra.specs.Rows.{entry, row}
use Rattle.resolution_stages.specs.Definitions.{StageRows, images, InKernel}
use Rattle.resolution_stages.specs.Claims.{row_table}
use Rattle.fp_rows.specs.Values.{MatrixValue}
use Rattle.p_groups.specs.PGroups.{PGroup, largest_residue, group}
use Rattle.p_groups.proofs.Fields.{residues, field}
use Rattle.group_algebra.specs.Coordinates.{free_module, layer_coordinates, table_of, row_of}
use Rattle.min_res.specs.Stages.{stage_rows, rank_of}
use Rattle.min_res.proofs.StageRows.{stage_rows_are}
use Rattle.min_res.specs.Values.{StageValue}
use Rattle.min_res.specs.Defined.{InK, IsStageAt, σ}
use Rattle.min_res.proofs.StageReadings.{width, section-value}
use Rattle.chain_maps.specs.Lifts.{ahead, lift}
use Rattle.chain_maps.specs.Vectors.{vector}
use Rattle.chain_maps.specs.Claims.{lift_map, LiftClaims}
use Rattle.chain_maps.proofs.ChainMaps.{lift-claims}
use Rattle.group_algebra.specs.RowMaps.{map_row}
use Rattle.min_res.proofs.MapRows.{map-by}
use Rattle.chain_lift.specs.RowMaps.{image_row, section_of, multiple_of_one}
use Rattle.chain_lift.specs.Maps.{lift_row, IsLiftMap}
use Rattle.chain_lift.proofs.Stages.{image-is}

module _ (G : PGroup) where
  abbrev q : ℕ
  q = largest_residue G

  abbrev Γ : Group (order G.table)
  Γ = group G

  abbrev S : StageRows
  S = stage_rows G

  module _ (e : ℕ) (c : List ℕ) where
    -- the class
    abbrev C : Below (rank_of G e) → Below (suc q)
    C k = vector q c k.0

    claims : LiftClaims q Γ (layer_coordinates G) S
    claims = lift-claims q Γ (layer_coordinates G) S (field G) (stage_rows_are G)

    module _ (j : ℕ) (m : MatrixValue) (M : IsLiftMap G e c j m) where
      -- the value of the map of degree j at row i of the boundary of degree e + j + 1
      value-is : (i : Below (rank_of G (suc (ahead e j))))
          → map_row G (rank_of G j) m.rows (row (images S (ahead e j)) i.0)
          ≡ row_of G (rank_of G j) (lift_map q Γ (layer_coordinates G) S e C j
          (row_table q Γ (layer_coordinates G) S (ahead e j) i))
      value-is i = map-by G (rank_of G j) (rank_of G (ahead e j)) m.rows M.count
          (lift q Γ (layer_coordinates G) S e C j)
          (λ k. ap (table_of G (rank_of G j)) (M.each k)
          ∙ (layer_coordinates G (rank_of G j)).table-row (lift q Γ (layer_coordinates G) S e C j k))
          (row (images S (ahead e j)) i.0)

      value-in : (i : Below (rank_of G (suc (ahead e j))))
          → InK G j (map_row G (rank_of G j) m.rows (row (images S (ahead e j)) i.0))
      value-in i = subst (InK G j) (sym (value-is i)) (
        (layer_coordinates G (rank_of G j)).row-is v,
        subst (InKernel q Γ (layer_coordinates G) S j) (sym ((layer_coordinates G (rank_of G j)).table-row v))
            (claims.in_kernel e C j i),
      )
        where
          v : (free_module G (rank_of G j)).of
          v = lift_map q Γ (layer_coordinates G) S e C j (row_table q Γ (layer_coordinates G) S (ahead e j) i)

      next-row : (i : Below (rank_of G (suc (ahead e j))))
          → lift_row G e c (suc j) i ≡ σ G j (map_row G (rank_of G j) m.rows (row (images S (ahead e j)) i.0))
      next-row i = (layer_coordinates G (rank_of G (suc j))).row-table (σ G j y)
          ((stage_rows_are G).section_is j y y-in).is_row
          ∙ ap (σ G j) (sym (value-is i))
        where
          y : List ℕ
          y = row_of G (rank_of G j) (lift_map q Γ (layer_coordinates G) S e C j
              (row_table q Γ (layer_coordinates G) S (ahead e j) i))

          y-in : InK G j y
          y-in = subst (InK G j) (value-is i) (value-in i)

      -- the rows of the next map, from the stages between which it goes
      pub next-map : (source target : StageValue) (b : ℕ) (new : MatrixValue)
          → IsStageAt G (suc (ahead e j)) source
          → IsStageAt G (suc j) target → b ≡ rank_of G j → new.p ≡ G.table.p
          → new.width ≡ target.kernel.width → length new.rows ≡ source.rank
          → ((i : ℕ) → i < source.rank → row new.rows i ≡ section_of target
          (map_row G b m.rows (image_row source i)))
          → IsLiftMap G e c (suc j) new
      next-map source target b new A B eb p w n r = record {
        prime = p;
        width = w ∙ width G j target B;
        count = n ∙ A.rank_is;
        each = λ i. r i.0 (let l : i.0 < rank_of G (suc (ahead e j)) = i.1 in let z : source.rank ≡ rank_of G
            (suc (ahead e j)) = A.rank_is in
            omega (arith, l, z))
            ∙ ap₂ (λ (b : ℕ) (x : List ℕ). section_of target (map_row G b m.rows x)) eb
            (image-is G (ahead e j) source A i.0)
            ∙ section-value G j target B (map_row G (rank_of G j) m.rows (row (images S (ahead e j)) i.0))
            (value-in i)
            ∙ sym (next-row i);
      }

    -- the rows of the first map
    pub first-map : (m : MatrixValue) → m.p ≡ G.table.p → m.width ≡ order G.table → length m.rows ≡ length c
        → length c ≡ rank_of G e
        → ((k : ℕ) → k < length c → entry c k < G.table.p)
        → ((i : ℕ) → i < length c → row m.rows i ≡ row_of G 1 (multiple_of_one G (entry c i)))
        → IsLiftMap G e c 0 m
    first-map m p w n l small r = record {
      prime = p;
      width = w ∙ (let z : order G.table ≡ order G.table * 1 = omega arith in z);
      count = n ∙ l;
      each = λ i. let inside : i.0 < length c = (let k : i.0 < rank_of G e = i.1 in omega (arith, k, l)) in
          r i.0 inside ∙ ap (λ x. row_of G 1 (multiple_of_one G x))
          (sym (mod-eq_of_lt (subst (λ p. entry c i.0 < p) (sym (residues G)) (small i.0 inside))));
    }
