-- The laws of stage files for the stages of a group.
use Rattle.std.proofs.Common.{◌≡◌, ℕ, suc, ◌-◌, ◌*◌, ◌^◌, ◌<◌, ◌≤◌, List, length, take, None, sym, ◌∙◌}
use mathlib.Core.Path.{subst}
use Rattle.resolution_stages.specs.Checks.{StageParts}
use Rattle.p_groups.specs.PGroups.{PGroup, largest_residue, group, order_of}
use Rattle.p_groups.proofs.Fields.{field, residues}
use Rattle.group_algebra.specs.Coordinates.{layer_coordinates}
use Rattle.min_res.specs.Stages.{stage_rows}
use Rattle.min_res.proofs.StageRows.{stage_rows_are}
use Rattle.stage_records.specs.declared.shape.Shape.{Shape}
use Rattle.stage_records.specs.Records.{header_bytes}
use Rattle.stage_records.specs.Readings.{AreBytes, Whole, read_record}
use Rattle.stage_records.specs.Claims.{AreHonest, CutClaims}
use Rattle.stage_records.specs.Walks.{whole_records}
use Rattle.stage_records.proofs.Verdict.{verdict, are-honest, some-elements}
use Rattle.stage_records.proofs.Written.{whole-claims}
use Rattle.stage_records.proofs.Honest.{front-law}
use Rattle.stage_records.proofs.Cuts.{cut-claims}
use Rattle.stage_file.specs.Honest.{records_of, file_of, walk_of, IsShapeAt, IsVerdict}

module _ (G : PGroup) where
  pub is-verdict : (d : ℕ) (shape : Shape) (bytes : List ℕ) → suc d ≤ 24 → IsShapeAt G d shape
      → AreBytes bytes → IsVerdict G d shape bytes
  is-verdict d shape bytes low H B =
      verdict (largest_residue G) (field G) (group G) (layer_coordinates G) (stage_rows G) d shape bytes
      (stage_rows_are G) low
      (record {
        prime = H.prime ∙ sym (residues G);
        order = H.order;
        degree = H.degree;
        previous = H.previous;
      }) B

  -- the free module of parts that are read is small
  pub small-parts : (d : ℕ) (shape : Shape) (bytes : List ℕ) (Q : StageParts) → IsShapeAt G d shape
      → shape.degree < 2 ^ 16 → AreBytes bytes → read_record shape bytes ≡ Whole Q
      → order_of G * length Q.positions ≤ 4096
  small-parts d shape bytes Q H l B e =
      let some : 0 < order_of G = some-elements (largest_residue G) (field G) (group G) (layer_coordinates G)
      (stage_rows G) (stage_rows_are G) in
      let o : 0 < shape.order = subst (λ (n : ℕ). 0 < n) (sym H.order) some in
      subst (λ (n : ℕ). n * length Q.positions ≤ 4096) H.order
      ((whole-claims shape bytes Q l o B).fit e).small

  pub honest : (text : List ℕ) → AreHonest (header_bytes text) (records_of G)
  honest text = are-honest (largest_residue G) (field G) (group G) (layer_coordinates G) (stage_rows G) text
      (stage_rows_are G)

  pub front : (text : List ℕ) (c k : ℕ) → c ≤ 24
      → walk_of G text c (take k (file_of G text 24)) ≡ record {
        taken = whole_records (records_of G) c 1
            (k - 40);
        fault = None;
      }
  front text c k l = front-law (header_bytes text) (records_of G) c k (honest text) l

  pub cuts : (text : List ℕ) (c k : ℕ) (file : List ℕ) → CutClaims (header_bytes text) (records_of G) c k file
  cuts text c k file = cut-claims (header_bytes text) (records_of G) (honest text) c k file
