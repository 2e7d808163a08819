-- When a reading is cut, and when it is not.
use Rattle.std.proofs.Common.{◌≡◌, ℕ, ◌+◌, ◌*◌, Bool, true, false, not, cond, ◌==◌, inl, inr, List, length}
use Rattle.std.proofs.Common.{sym, ◌∙◌}
use Rattle.std.specs.List.{list_all}
use Rattle.std.specs.Str.{bytes_eq}
use Rattle.std.proofs.Math.Dec.{ltb}
use Rattle.std.proofs.lemmas.Bool.{cases_Bool, ltb-true, ltb-false, cond-true, cond-false}
use Rattle.sha2.specs.Sha256.{sha256}
use Rattle.group_table.specs.Prime.{prime_value}
use Rattle.stage_records.specs.declared.shape.Shape.{Shape}
use Rattle.stage_records.specs.declared.field.Field.{Field}
use Rattle.stage_records.specs.declared.field.Field.TheVariants as field
use Rattle.stage_records.specs.Walks.{length_at, is_in_range, is_cut}
use Rattle.stage_records.specs.Readings.{numbers_in, are_places, part, degree_at, rank_at, body_length}
use Rattle.stage_records.specs.Readings.{is_below, fits, Reading, Cut, Malformed, read_parts, read_fields}
use Rattle.stage_records.specs.Readings.{read_record}
use Rattle.stage_records.proofs.Steps.{cut_short, cut_inside, uncut}
use Rattle.stage_records.proofs.Tests.{on}

never-cut : (b : Bool) (f : Field) (y : Reading) → (y ≡ Cut → ⊥) → cond b (Malformed f) y ≡ Cut → ⊥
never-cut true f y h e = cc
never-cut false f y h e = h e

pub parts-uncut : (p previous b D : ℕ) (bytes : List ℕ) → read_parts p previous b D bytes ≡ Cut → ⊥
unfolding read_parts
parts-uncut p previous b D bytes e =
    never-cut (not (are_places 0 previous (numbers_in b (part 8 (2 * b) bytes)))) field.Position _
    (λ e. never-cut (not (list_all (is_below p) (part (8 + 2 * b) (D * D) bytes))) field.Entry _
    (λ e. never-cut (not (bytes_eq (part (4 + body_length b D) 32 bytes)
    (sha256 (part 4 (body_length b D) bytes)))) field.Digest _ (λ e. cc) e) e) e

pub fields-uncut : (shape : Shape) (bytes : List ℕ) → read_fields shape bytes ≡ Cut → ⊥
unfolding read_fields
fields-uncut shape bytes e =
    never-cut (not (degree_at bytes == shape.degree)) field.Degree _
    (λ e. never-cut (not (fits (length_at bytes) shape.previous (rank_at bytes)
    (shape.order * rank_at bytes))) field.Rank _
    (λ e. parts-uncut (prime_value shape.p) shape.previous (rank_at bytes)
    (shape.order * rank_at bytes) bytes e) e) e

-- the ways of a reading by the length
pub data LengthWay (shape : Shape) (bytes : List ℕ) : Type 0 where
  short : is_cut bytes ≡ true → read_record shape bytes ≡ Cut → LengthWay shape bytes
  outside : is_cut bytes ≡ false → is_in_range (length_at bytes) ≡ false
      → read_record shape bytes ≡ Malformed field.Length → LengthWay shape bytes
  inside : is_cut bytes ≡ false → is_in_range (length_at bytes) ≡ true
      → read_record shape bytes ≡ read_fields shape bytes → LengthWay shape bytes

off : (b : Bool) (x y : Reading) → b ≡ false → cond (not b) x y ≡ x
off b x y e = rw (e)

pub length-way : (shape : Shape) (bytes : List ℕ) → LengthWay shape bytes
unfolding read_record
length-way shape bytes =
    elim (cases_Bool (ltb (length bytes) 4)) [
      | inl t ↦ short (cut_short bytes (ltb-true (length bytes) 4 t))
          (cond-true (ltb (length bytes) 4) Cut _ t)
      | inr f ↦ elim (cases_Bool (is_in_range (length_at bytes))) [
        | inr r ↦ outside (uncut bytes (ltb-false (length bytes) 4 f) (λ k. let z : false ≡ true = sym r
            ∙ k in absurd (cc))) r
            (cond-false (ltb (length bytes) 4) Cut _ f ∙ off (is_in_range (length_at bytes)) _ _ r)
        | inl r ↦ elim (cases_Bool (ltb (length bytes) (4 + length_at bytes))) [
          | inl t ↦ short (cut_inside bytes r (ltb-true (length bytes) (4 + length_at bytes) t))
              (cond-false (ltb (length bytes) 4) Cut _ f ∙ on (is_in_range (length_at bytes)) _ _ r
              ∙ cond-true (ltb (length bytes) (4 + length_at bytes)) Cut _ t)
          | inr g ↦ inside (uncut bytes (ltb-false (length bytes) 4 f)
              (λ k. ltb-false (length bytes) (4 + length_at bytes) g)) r
              (cond-false (ltb (length bytes) 4) Cut _ f ∙ on (is_in_range (length_at bytes)) _ _ r
              ∙ cond-false (ltb (length bytes) (4 + length_at bytes)) Cut _ g)
        ]
      ]
    ]

pub cut-reading : (shape : Shape) (bytes : List ℕ) → read_record shape bytes ≡ Cut → is_cut bytes ≡ true
cut-reading shape bytes e = go (length-way shape bytes)
  where
    go : LengthWay shape bytes → is_cut bytes ≡ true
    go (short c r) = c
    go (outside u w r) = let z : Malformed field.Length ≡ Cut = sym r ∙ e in absurd (cc)
    go (inside u w r) = absurd (fields-uncut shape bytes (sym r ∙ e))

pub uncut-reading : (shape : Shape) (bytes : List ℕ) → (read_record shape bytes ≡ Cut → ⊥)
    → is_cut bytes ≡ false
uncut-reading shape bytes h = go (length-way shape bytes)
  where
    go : LengthWay shape bytes → is_cut bytes ≡ false
    go (short c r) = absurd (h r)
    go (outside u w r) = u
    go (inside u w r) = u
