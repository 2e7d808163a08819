-- The tests of a record, in their order.
use Rattle.std.proofs.Common.{◌≡◌, ℕ, ◌+◌, ◌*◌, ◌≤◌, Bool, true, false, not, cond, ◌&&◌, ◌==◌, List, length}
use Rattle.std.proofs.Common.{refl, ◌∙◌}
use Rattle.std.specs.List.{list_all}
use Rattle.std.specs.Str.{bytes_eq}
use Rattle.std.proofs.Math.Dec.{ltb, leb, eqb}
use Rattle.std.proofs.lemmas.Bool.{and_parts, and_from, ltb-false, leb-true, le-ltb, le-leb, eqb-true, eq-eqb}
use Rattle.std.proofs.lemmas.Bool.{cond-false}
use Rattle.std.proofs.lemmas.Slice.Eq.{bytes_eq-Decides}
use Rattle.group_table.specs.Prime.{prime_value}
use Rattle.sha2.specs.Sha256.{sha256}
use Rattle.resolution_stages.specs.Checks.{StageParts}
use Rattle.stage_records.specs.declared.shape.Shape.{Shape}
use Rattle.stage_records.specs.declared.field.Field.{Field}
use Rattle.stage_records.specs.declared.field.Field.TheVariants as field
use Rattle.stage_records.specs.Records.{record_length}
use Rattle.stage_records.specs.Walks.{length_at, is_in_range}
use Rattle.stage_records.specs.Readings.{numbers_in, are_places, part, degree_at, rank_at, body_length}
use Rattle.stage_records.specs.Readings.{is_below, fits, parts_at, Reading, Cut, Whole, Malformed, read_parts}
use Rattle.stage_records.specs.Readings.{read_fields, read_record}

-- one test
pub passes : (b : Bool) (f : Field) (y : Reading) (Q : StageParts) → cond (not b) (Malformed f) y ≡ Whole Q
    → (b ≡ true) × (y ≡ Whole Q)
passes true f y Q e = (refl, e)
passes false f y Q e = absurd (cc)

pub uncut : (b : Bool) (y : Reading) (Q : StageParts) → cond b Cut y ≡ Whole Q → (b ≡ false) × (y ≡ Whole Q)
uncut false y Q e = (refl, e)
uncut true y Q e = absurd (cc)

pub on : (b : Bool) (x y : Reading) → b ≡ true → cond (not b) x y ≡ y
on b x y e = rw (e)

-- what a whole record passes
pub record IsWhole (shape : Shape) (bytes : List ℕ) : Type 0 where
  pub some : 4 ≤ length bytes
  pub range : is_in_range (length_at bytes) ≡ true
  pub enough : 4 + length_at bytes ≤ length bytes
  pub degree : degree_at bytes ≡ shape.degree
  pub small : shape.order * rank_at bytes ≤ 4096
  pub room : shape.previous ≤ shape.order * rank_at bytes
  pub size : length_at bytes ≡ record_length (rank_at bytes) (shape.order * rank_at bytes)
  pub places : are_places 0 shape.previous (numbers_in (rank_at bytes) (part 8 (2 * rank_at bytes) bytes))
      ≡ true
  pub entries : list_all (is_below (prime_value shape.p))
      (part (8 + 2 * rank_at bytes) ((shape.order * rank_at bytes) * (shape.order * rank_at bytes)) bytes)
      ≡ true
  pub digest : part (4 + body_length (rank_at bytes) (shape.order * rank_at bytes)) 32 bytes ≡ sha256
      (part 4 (body_length (rank_at bytes) (shape.order * rank_at bytes)) bytes)

module _ (shape : Shape) (bytes : List ℕ) where
  abbrev b : ℕ
  b = rank_at bytes

  abbrev D : ℕ
  D = shape.order * rank_at bytes

  pub whole-tests : (Q : StageParts) → read_record shape bytes ≡ Whole Q
      → IsWhole shape bytes × (parts_at shape.previous b D bytes ≡ Q)
  unfolding read_record read_fields read_parts
  whole-tests Q e =
      let t1 : (ltb (length bytes) 4 ≡ false)
      × (cond (not (is_in_range (length_at bytes))) (Malformed field.Length)
      (cond (ltb (length bytes) (4 + length_at bytes)) Cut (read_fields shape bytes)) ≡ Whole Q) = uncut
      (ltb (length bytes) 4) _ Q e in
      let t2 : (is_in_range (length_at bytes) ≡ true)
      × (cond (ltb (length bytes) (4 + length_at bytes)) Cut (read_fields shape bytes) ≡ Whole Q) = passes
      (is_in_range (length_at bytes)) field.Length _ Q t1.1 in
      let t3 : (ltb (length bytes) (4 + length_at bytes) ≡ false) × (read_fields shape bytes ≡ Whole Q)
      = uncut (ltb (length bytes) (4 + length_at bytes)) (read_fields shape bytes) Q t2.1 in
      let t4 : ((degree_at bytes == shape.degree) ≡ true)
      × (cond (not (fits (length_at bytes) shape.previous b D)) (Malformed field.Rank)
      (read_parts (prime_value shape.p) shape.previous b D bytes) ≡ Whole Q) = passes
      (degree_at bytes == shape.degree) field.Degree _ Q t3.1 in
      let t5 : (fits (length_at bytes) shape.previous b D ≡ true)
      × (read_parts (prime_value shape.p) shape.previous b D bytes ≡ Whole Q) = passes
      (fits (length_at bytes) shape.previous b D) field.Rank _ Q t4.1 in
      let t6 = passes (are_places 0 shape.previous (numbers_in b (part 8 (2 * b) bytes))) field.Position _ Q
      t5.1 in
      let t7 = passes (list_all (is_below (prime_value shape.p)) (part (8 + 2 * b) (D * D) bytes)) field.Entry
      _ Q t6.1 in
      let t8 = passes (bytes_eq (part (4 + body_length b D) 32 bytes)
      (sha256 (part 4 (body_length b D) bytes))) field.Digest _ Q t7.1 in
      let s = and_parts (leb D 4096) (leb shape.previous D && eqb (length_at bytes) (record_length b D)) t5.0
      in
      let r = and_parts (leb shape.previous D) (eqb (length_at bytes) (record_length b D)) s.1 in (
        record {
          some = ltb-false (length bytes) 4 t1.0;
          range = t2.0;
          enough = ltb-false (length bytes) (4 + length_at bytes) t3.0;
          degree = eqb-true (degree_at bytes) shape.degree t4.0;
          small = leb-true D 4096 s.0;
          room = leb-true shape.previous D r.0;
          size = eqb-true (length_at bytes) (record_length b D) r.1;
          places = t6.0;
          entries = t7.0;
          digest = (bytes_eq-Decides (part (4 + body_length b D) 32 bytes)
              (sha256 (part 4 (body_length b D) bytes))).0 t8.0;
        },
        cc,
      )

  pub tests-whole : IsWhole shape bytes → read_record shape bytes ≡ Whole (parts_at shape.previous b D bytes)
  unfolding read_record read_fields read_parts
  tests-whole W =
      cond-false (ltb (length bytes) 4) Cut _ (le-ltb (length bytes) 4 W.some)
      ∙ on (is_in_range (length_at bytes)) _ _ W.range
      ∙ cond-false (ltb (length bytes) (4 + length_at bytes)) Cut _
      (le-ltb (length bytes) (4 + length_at bytes) W.enough)
      ∙ on (degree_at bytes == shape.degree) _ _ (eq-eqb (degree_at bytes) shape.degree W.degree)
      ∙ on (fits (length_at bytes) shape.previous b D) _ _
      (and_from (leb D 4096) _ (le-leb D 4096 W.small)
      (and_from (leb shape.previous D) _ (le-leb shape.previous D W.room)
      (eq-eqb (length_at bytes) (record_length b D) W.size)))
      ∙ on (are_places 0 shape.previous (numbers_in b (part 8 (2 * b) bytes))) _ _ W.places
      ∙ on (list_all (is_below (prime_value shape.p)) (part (8 + 2 * b) (D * D) bytes)) _ _ W.entries
      ∙ on (bytes_eq (part (4 + body_length b D) 32 bytes) (sha256 (part 4 (body_length b D) bytes))) _ _
      ((bytes_eq-Decides (part (4 + body_length b D) 32 bytes)
      (sha256 (part 4 (body_length b D) bytes))).1 W.digest)
