-- A stage of a group against the record of its degree.
use Rattle.std.proofs.Common.{◌≡◌, ℕ, suc, ◌+◌, ◌-◌, ◌*◌, ◌<◌, ◌≤◌, List, length, map, get_or, Some, refl}
use Rattle.std.proofs.Common.{sym, ap, ap₂, ◌∙◌, arith}
use Rattle.std.specs.Prelude.{unwrap_or, []}
use mathlib.Core.Path.{subst}
use Rattle.std.specs.declared.option.Option.{Option}
use Rattle.std.proofs.lemmas.List.{length-map}
use Rattle.fp_rows.specs.Values.{MatrixValue}
use Rattle.resolution_stages.specs.Definitions.{StageRows}
use Rattle.resolution_stages.specs.Checks.{StageParts, HasShape}
use Rattle.resolution_stages.specs.Chain.{parts_of}
use Rattle.p_groups.specs.PGroups.{PGroup, largest_residue, group, order_of}
use Rattle.p_groups.proofs.Fields.{field}
use Rattle.group_algebra.specs.Coordinates.{layer_coordinates}
use Rattle.min_res.specs.Values.{BoundaryValue, StageValue, boundary_of, no_rows}
use Rattle.min_res.specs.Stages.{stage_rows, rank_of}
use Rattle.min_res.proofs.StageRows.{stage_rows_are}
use Rattle.min_res.specs.Defined.{IsStageAt, IsBoundaryAt}
use Rattle.stage_records.specs.Records.{record_at, record_of_width}
use Rattle.stage_records.proofs.Verdict.{r, shape-at, checks-at, some-elements, record-there}
use Rattle.stage_records.proofs.Written.{le-times}
use Rattle.stage_file.specs.Written.{parts_of_stage, IsSomeStage, HasSizes}

module _ (G : PGroup) (c : ℕ) (s : StageValue) (I : IsStageAt G (suc c) s) where
  abbrev S : StageRows
  S = stage_rows G

  B : (B : BoundaryValue) × (s.boundary ≡ Some B) × IsBoundaryAt G c B
  B = I.boundary_is c refl

  boundary-is : boundary_of s ≡ B.0
  boundary-is = ap (λ (o : Option BoundaryValue). unwrap_or o (record {
    source = no_rows;
    positions = [];
    matrix = no_rows;
    sections = no_rows;
  })) B.1

  pub positions-are : (boundary_of s).positions ≡ S.positions c
  positions-are = ap (λ (b : BoundaryValue). b.positions) boundary-is ∙ B.2.positions_are

  pub source-are : (boundary_of s).source.rows ≡ S.kernel c
  source-are = ap (λ (b : BoundaryValue). b.source.rows) boundary-is
      ∙ ap (λ (m : MatrixValue). m.rows) B.2.source_is

  pub sections-are : (boundary_of s).sections.rows ≡ map (S.section c) (S.kernel c)
  sections-are = ap (λ (b : BoundaryValue). b.sections.rows) boundary-is
      ∙ ap (λ (m : MatrixValue). m.rows) B.2.sections_are

  pub kernel-are : s.kernel.rows ≡ S.kernel (suc c)
  kernel-are = ap (λ (m : MatrixValue). m.rows) I.kernel_is

  pub width-is : s.kernel.width ≡ order_of G * length (S.positions c)
  width-is = ap (λ (m : MatrixValue). m.width) I.kernel_is

  pub parts-are : parts_of_stage s ≡ parts_of S c
  parts-are = made positions-are kernel-are sections-are
    where
      made : {x : List ℕ} {y z : List (List ℕ)} → (boundary_of s).positions ≡ x → s.kernel.rows ≡ y
          → (boundary_of s).sections.rows ≡ z → parts_of_stage s ≡ record {
            positions = x;
            kernel = y;
            sections = z;
          }
      made p q r = λ i. record { positions = p i; kernel = q i; sections = r i }

  shape : HasShape (largest_residue G) (group G) (layer_coordinates G) (rank_of G c) (S.kernel c)
      (parts_of S c)
  shape = shape-at (largest_residue G) (field G) (group G) (layer_coordinates G) S (stage_rows_are G) c

  count : length (S.kernel (suc c)) + length (S.kernel c) ≡ order_of G * length (S.positions c)
  count = (checks-at (largest_residue G) (field G) (group G) (layer_coordinates G) S (stage_rows_are G) c).0

  some : 0 < order_of G
  some = some-elements (largest_residue G) (field G) (group G) (layer_coordinates G) S (stage_rows_are G)

  rank-is : s.rank ≡ length (S.positions c)
  rank-is = I.rank_is

  pub sizes : suc c ≤ 24 → s.kernel.width ≤ 4096 → HasSizes s
  sizes low small = record {
    above_zero = omega (arith, I.degree_is);
    degree = omega (arith, I.degree_is, low);
    width = small;
    rank = let a : length (S.positions c) ≤ order_of G * length (S.positions c) = le-times (order_of G)
        (length (S.positions c)) some in omega (arith, a, rank-is, small, width-is);
    count = rank-is ∙ sym (ap length positions-are);
    positions = λ i l.
        let a : get_or (S.positions c) i 0 < length (S.kernel c)
        = shape.inside i (omega (arith, l, rank-is)) in
        let b : get_or (boundary_of s).positions i 0 ≡ get_or (S.positions c) i 0
        = ap (λ (x : List ℕ). get_or x i 0) positions-are in
        omega (arith, a, b, count, small, width-is);
    sections = ap length sections-are ∙ length-map (S.kernel c) (S.section c) ∙ sym (ap length source-are);
  }

  pub record-is : s.kernel.width ≤ 4096
      → record_at (order_of G) S (suc c) ≡ Some (record_of_width s.kernel.width s.degree (parts_of_stage s))
  record-is small =
      record-there (largest_residue G) (field G) (group G) (layer_coordinates G) S (stage_rows_are G) c
      (omega (arith, small, width-is))
      ∙ ap Some (ap₂ (λ (w d : ℕ). record_of_width w d (parts_of S c)) (sym width-is) (sym I.degree_is)
      ∙ ap (λ (Q : StageParts). record_of_width s.kernel.width s.degree Q) (sym parts-are))

-- for a degree from 1 on
pub some-sizes : (s : StageValue) → 1 ≤ s.degree → s.degree ≤ 24 → s.kernel.width ≤ 4096 → IsSomeStage s
    → HasSizes s
some-sizes s from to small I =
    let e : s.degree ≡ suc (s.degree - 1) = omega (arith, from) in
    sizes I.group (s.degree - 1) s (subst (λ (d : ℕ). IsStageAt I.group d s) e I.is_stage)
    (omega (arith, from, to)) small

pub record-of-stage : (s : StageValue) → 1 ≤ s.degree → s.kernel.width ≤ 4096 → (G : PGroup)
    → IsStageAt G s.degree s
    → record_at (order_of G) (stage_rows G) s.degree ≡ Some
    (record_of_width s.kernel.width s.degree (parts_of_stage s))
record-of-stage s from small G I =
    let e : s.degree ≡ suc (s.degree - 1) = omega (arith, from) in
    ap (λ (d : ℕ). record_at (order_of G) (stage_rows G) d) e
    ∙ record-is G (s.degree - 1) s (subst (λ (d : ℕ). IsStageAt G d s) e I) small
