-- What the bytes of a record say, field by field, and the first field that is not as the format says.
use Rattle.std.specs.Prelude.{ℕ, suc, zero, ◌+◌, ◌-◌, ◌*◌, ◌<◌, ◌&&◌, ◌==◌, not, Bool, true, List, [], ◌∷◌}
use Rattle.std.specs.Prelude.{length, map, take, drop, slice_index_or, nat_lt, nat_le, if◌then◌else◌}
use Rattle.std.specs.Int.{w16, from_be_bytes}
use Rattle.std.specs.List.{list_all}
use Rattle.std.specs.Str.{bytes_eq}
use Rattle.sha2.specs.Sha256.{sha256}
use Rattle.group_table.specs.Prime.{prime_value}
use Rattle.resolution_stages.specs.Checks.{StageParts}
use Rattle.stage_records.specs.declared.shape.Shape.{Shape}
use Rattle.stage_records.specs.declared.field.Field.{Field}
use Rattle.stage_records.specs.declared.field.Field.TheVariants as field
use Rattle.stage_records.specs.declared.TheConstants.{GREATEST_WIDTH}
use Rattle.stage_records.specs.Records.{record_length}
use Rattle.stage_records.specs.Walks.{length_at, is_in_range}

-- c numbers of two bytes each
unfoldable pub numbers_in : ℕ → List ℕ → List ℕ
numbers_in zero bytes = []
numbers_in (suc c) bytes = from_be_bytes w16 (take 2 bytes) ∷ numbers_in c (drop 2 bytes)

-- c rows of this width
unfoldable pub rows_in : ℕ → ℕ → List ℕ → List (List ℕ)
rows_in width zero bytes = []
rows_in width (suc c) bytes = take width bytes ∷ rows_in width c (drop width bytes)

-- the numbers ascend, are above low, and at most top
unfoldable pub are_places : ℕ → ℕ → List ℕ → Bool
are_places low top [] = true
are_places low top (x ∷ xs) = nat_lt low x && (nat_le x top && are_places x top xs)

-- len bytes from a place on
abbrev pub part : ℕ → ℕ → List ℕ → List ℕ
part from len bytes = take len (drop from bytes)

abbrev pub degree_at : List ℕ → ℕ
degree_at bytes = from_be_bytes w16 (part 4 2 bytes)

abbrev pub rank_at : List ℕ → ℕ
rank_at bytes = from_be_bytes w16 (part 6 2 bytes)

-- the bytes under the digest, and the digest, in a record of rank b and width D
abbrev pub body_length : ℕ → ℕ → ℕ
body_length b D = 4 + 2 * b + D * D

abbrev pub is_below : ℕ → ℕ → Bool
is_below p x = nat_lt x p

-- rank and width fit: the width is not above the greatest, has room for the list before, and gives the length
abbrev pub fits : ℕ → ℕ → ℕ → ℕ → Bool
fits L previous b D = nat_le D GREATEST_WIDTH && (nat_le previous D && (L == record_length b D))

-- the positions, the kernel and the sections that stand behind rank b, for width D
unfoldable pub parts_at : (previous b D : ℕ) → List ℕ → StageParts
parts_at previous b D bytes = record {
  positions = map (λ x. x - 1) (numbers_in b (part 8 (2 * b) bytes));
  kernel = rows_in D (D - previous) (part (8 + 2 * b) ((D - previous) * D) bytes);
  sections = rows_in D previous (part (8 + 2 * b + (D - previous) * D) (previous * D) bytes);
}

-- what the bytes are
pub data Reading : Type 0 where
  -- fewer bytes than a record
  Cut : Reading
  -- a record with these parts
  Whole : StageParts → Reading
  -- the first field that is not as the format says
  Malformed : Field → Reading

-- behind a rank and a width that fit
unfoldable pub read_parts : (p previous b D : ℕ) → List ℕ → Reading
read_parts p previous b D bytes =
    if not (are_places 0 previous (numbers_in b (part 8 (2 * b) bytes))) then Malformed field.Position
    else (if not (list_all (is_below p) (part (8 + 2 * b) (D * D) bytes)) then Malformed field.Entry
    else (if not (bytes_eq (part (4 + body_length b D) 32 bytes) (sha256 (part 4 (body_length b D) bytes)))
    then Malformed field.Digest
    else Whole (parts_at previous b D bytes)))

-- behind a length in its range
unfoldable pub read_fields : Shape → List ℕ → Reading
read_fields shape bytes =
    if not (degree_at bytes == shape.degree) then Malformed field.Degree
    else (if not (fits (length_at bytes) shape.previous (rank_at bytes) (shape.order * rank_at bytes))
    then Malformed field.Rank
    else read_parts (prime_value shape.p) shape.previous (rank_at bytes) (shape.order * rank_at bytes) bytes)

-- the record at the front of the bytes
unfoldable pub read_record : Shape → List ℕ → Reading
read_record shape bytes =
    if nat_lt (length bytes) 4 then Cut
    else (if not (is_in_range (length_at bytes)) then Malformed field.Length
    else (if nat_lt (length bytes) (4 + length_at bytes) then Cut
    else read_fields shape bytes))

-- a list of bytes
abbrev pub AreBytes : List ℕ → Type 0
AreBytes bytes = (i : ℕ) → slice_index_or bytes i 0 < 256
