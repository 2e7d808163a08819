-- The rows of the maps along a homomorphism of p-groups of one prime.
use Rattle.std.proofs.Common.{◌≡◌, ℕ, suc, ◌*◌, ◌%◌, ◌<◌, List, length, arith, ap, ap₂, sym, ◌∙◌}
use Rattle.std.proofs.lemmas.List.{ext_get_or}
use mathlib.Core.Path.{subst, fun_ext}
use Rattle.group_table.specs.Tables.{order}
use Rattle.group_modules.specs.Operations.{linear}
use Rattle.group_modules.specs.Module.{ops}
use Rattle.group_modules.specs.Field.{Below, residue}
use Rattle.group_modules.specs.Tables.{Group, terms, unit}
use Rattle.linear_algebra.specs.Modular.{sum_below}
use Rattle.linear_algebra.specs.Rows.{entry, pairing, row, IsRow}
use Rattle.resolution_stages.specs.Definitions.{StageRows, images, InKernel}
use Rattle.resolution_stages.specs.Claims.{row_table}
use Rattle.fp_rows.specs.Values.{MatrixValue}
use Rattle.p_groups.specs.PGroups.{PGroup, largest_residue, group}
use Rattle.p_groups.proofs.Fields.{residues, field}
use Rattle.group_algebra.specs.Coordinates.{free_module, layer_coordinates, table_of, row_of}
use Rattle.min_res.specs.Stages.{stage_rows, rank_of}
use Rattle.min_res.proofs.StageRows.{stage_rows_are}
use Rattle.min_res.specs.Values.{StageValue}
use Rattle.min_res.specs.Defined.{InK, IsStageAt, σ}
use Rattle.min_res.proofs.StageReadings.{width, section-value}
use Rattle.chain_maps.specs.Vectors.{vector}
use Rattle.chain_maps.proofs.Vectors.{length-entries, entry-entries, extended-at}
use Rattle.chain_maps_along.specs.Along as specs
use Rattle.chain_maps_along.specs.Along.{IsHomomorphism, along, map_along}
use Rattle.chain_maps_along.specs.Claims.{AlongClaims}
use Rattle.chain_maps_along.proofs.Maps.{along-claims}
use Rattle.chain_lift.specs.MapsAlong.{TableOverPrimeOf, with_table, image, along_row, IsMapAlong, restrict}
use Rattle.chain_lift.specs.MapsAlong.{restricted_row}
use Rattle.chain_lift.specs.RowMaps.{image_row, section_of, multiple_of_one}
use Rattle.chain_lift.specs.EmbeddingRows.{value_along}
use Rattle.chain_lift.proofs.Pairings.{pair-is}
use Rattle.chain_lift.proofs.Stages.{image-is}

-- the value on rows, by the tables of the rows
value-by : (E G : PGroup) (f : Below (order E.table) → Below (order G.table)) (b m : ℕ) (rows : List (List ℕ))
    → length rows ≡ m
    → (u : Below m → (free_module G b).of) → ((k : Below m) → table_of G b (row rows k.0) ≡ u k)
    → (x : List ℕ)
    → value_along E G f b rows x
    ≡ row_of G b (linear (along f (ops (free_module G b))) u
    (terms (largest_residue E) (group E) m (table_of E m x)))
value-by E G f b m rows e = subst P e
    (λ u k x. ap (λ (u : Below (length rows) → (free_module G b).of). row_of G b
    (linear (along f (ops (free_module G b))) u
    (terms (largest_residue E) (group E) (length rows) (table_of E (length rows) x)))) (fun_ext k))
  where
    P : ℕ → Type 0
    P m = (u : Below m → (free_module G b).of) → ((k : Below m) → table_of G b (row rows k.0) ≡ u k)
        → (x : List ℕ)
        → value_along E G f b rows x
        ≡ row_of G b (linear (along f (ops (free_module G b))) u
        (terms (largest_residue E) (group E) m (table_of E m x)))

module _ (G : PGroup) (D : TableOverPrimeOf G) (f : Below (order (with_table G D).table)
    → Below (order G.table)) where
  abbrev E : PGroup
  E = with_table G D

  abbrev q : ℕ
  q = largest_residue G

  abbrev Γ : Group (order G.table)
  Γ = group G

  abbrev Δ : Group (order (with_table G D).table)
  Δ = group (with_table G D)

  abbrev S : StageRows
  S = stage_rows G

  abbrev A : StageRows
  A = stage_rows (with_table G D)

  pub map-claims : IsHomomorphism Δ Γ f → AlongClaims q Δ Γ f (layer_coordinates E) A (layer_coordinates G) S
  map-claims h =
      along-claims q Δ Γ f (layer_coordinates E) A (layer_coordinates G) S (field G) h (stage_rows_are E)
      (stage_rows_are G)

  module _ (h : IsHomomorphism Δ Γ f) (d : ℕ) (m : MatrixValue) (M : IsMapAlong G D f d m) where
    -- the value of the map of degree d at the boundary of basis element i of degree d + 1
    abbrev value : Below (rank_of E (suc d)) → (free_module G (rank_of G d)).of
    value i = map_along q Δ Γ f (layer_coordinates E) A (layer_coordinates G) S d
        (row_table q Δ (layer_coordinates E) A d i)

    value-is : (i : Below (rank_of E (suc d)))
        → value_along E G f (rank_of G d) m.rows (row (images A d) i.0) ≡ row_of G (rank_of G d) (value i)
    value-is i = value-by E G f (rank_of G d) (rank_of E d) m.rows M.count (image G D f d)
        (λ k. ap (table_of G (rank_of G d)) (M.each k) ∙ (layer_coordinates G (rank_of G d)).table-row
        (image G D f d k))
        (row (images A d) i.0)

    value-in : (i : Below (rank_of E (suc d))) → InK G d
        (value_along E G f (rank_of G d) m.rows (row (images A d) i.0))
    value-in i = subst (InK G d) (sym (value-is i)) (
      (layer_coordinates G (rank_of G d)).row-is (value i),
      subst (InKernel q Γ (layer_coordinates G) S d) (sym
          ((layer_coordinates G (rank_of G d)).table-row (value i)))
          ((map-claims h).in_kernel d i),
    )

    next-row : (i : Below (rank_of E (suc d)))
        → along_row G D f (suc d) i ≡ σ G d (value_along E G f (rank_of G d) m.rows (row (images A d) i.0))
    next-row i = (layer_coordinates G (rank_of G (suc d))).row-table (σ G d y)
        ((stage_rows_are G).section_is d y y-in).is_row
        ∙ ap (σ G d) (sym (value-is i))
      where
        y : List ℕ
        y = row_of G (rank_of G d) (value i)

        y-in : InK G d (row_of G (rank_of G d) (value i))
        y-in = subst (InK G d) (value-is i) (value-in i)

    -- the rows of the next map, from the stages between which it goes
    pub next-map : (source target : StageValue) (b : ℕ) (new : MatrixValue) → IsStageAt E (suc d) source
        → IsStageAt G (suc d) target
        → b ≡ rank_of G d → new.p ≡ G.table.p → new.width ≡ target.kernel.width → length new.rows
        ≡ source.rank
        → ((i : ℕ) → i < source.rank → row new.rows i ≡ section_of target
        (value_along E G f b m.rows (image_row source i)))
        → IsMapAlong G D f (suc d) new
    next-map source target b new F T eb p w n r = record {
      prime = p;
      width = w ∙ width G d target T;
      count = n ∙ F.rank_is;
      each = λ i. r i.0
          (let l : i.0 < rank_of E (suc d) = i.1 in let z : source.rank ≡ rank_of E (suc d) = F.rank_is in
          omega (arith, l, z))
          ∙ ap₂ (λ (b : ℕ) (x : List ℕ). section_of target (value_along E G f b m.rows x)) eb
          (image-is E d source F i.0)
          ∙ section-value G d target T (value_along E G f (rank_of G d) m.rows (row (images A d) i.0))
          (value-in i)
          ∙ sym (next-row i);
    }

  -- the rows of the first map, which takes 1 to 1
  pub first-map : (m : MatrixValue) (c : List ℕ) → entry c 0 ≡ 1 → m.p ≡ G.table.p → m.width ≡ order G.table
      → length m.rows ≡ 1
      → row m.rows 0 ≡ row_of G 1 (multiple_of_one G (entry c 0)) → IsMapAlong G D f 0 m
  first-map m c one p w n r = record {
    prime = p;
    width = w ∙ (let z : order G.table ≡ order G.table * 1 = omega arith in z);
    count = n;
    each = λ i. ap (row m.rows) (let l : i.0 < 1 = i.1 in let z : i.0 ≡ 0 = omega (arith, l) in z) ∙ r
        ∙ ap (λ x. row_of G 1 (multiple_of_one G x)) one
        ∙ ap (row_of G 1) ((free_module G 1).add-zero (unit q Γ 1 (residue 0 0)));
  }

  -- the inner products with the rows of the map of degree d are the restriction
  pub restriction-is : (d : ℕ) (a : List ℕ) (m : MatrixValue) (out : List ℕ) → IsMapAlong G D f d m
      → IsRow (suc q) (rank_of G d) a
      → length out ≡ length m.rows → ((i : ℕ) → i < length m.rows → entry out i
      ≡ pairing m.p a (row m.rows i))
      → out ≡ restricted_row G D f d a
  restriction-is d a m out M r n v = ext_get_or 0 out (restricted_row G D f d a)
      (n ∙ M.count ∙ sym (length-entries (rank_of E d) w))
      (λ i l. let j : i < rank_of E d = (let t : length out ≡ rank_of E d = n ∙ M.count in
      omega (arith, t, l)) in
      at i j ∙ sym (entry-entries (rank_of E d) w i j))
    where
      w : ℕ → Below (suc (largest_residue G))
      w = restrict G D f d (vector (largest_residue G) a)

      class : Below (rank_of G d) → Below (suc (largest_residue G))
      class k = vector (largest_residue G) a k.0

      at : (i : ℕ) → i < rank_of (with_table G D) d → entry out i
          ≡ (restrict G D f d (vector (largest_residue G) a) i).0
      at i l = v i (let t : length m.rows ≡ rank_of E d = M.count in omega (arith, t, l))
          ∙ ap₂ (λ (s p : ℕ). sum_below s (λ k. entry a k * entry (row m.rows i) k) % p) r.length_is
          (M.prime ∙ sym (residues G))
          ∙ ap (λ (x : Below (suc q)). x.0)
          (sym (pair-is G d a (image G D f d (i, l)) (row m.rows i) (M.each (i, l)) r)
          ∙ sym (extended-at (rank_of E d)
          (specs.restrict q Δ Γ f (layer_coordinates E) A (layer_coordinates G) S d (λ k. vector q a k.0))
          (i, l)))
