-- What holds of walks over stage files.
use Rattle.std.specs.Prelude.{suc, ◌++◌, ◌≡◌, ℕ, ◌+◌, ◌*◌, ◌<◌, ◌≤◌, true, List, length, take, drop, get_or}
use Rattle.std.specs.declared.option.Option.{Option}
use Rattle.std.specs.declared.option.Option.TheVariants.{None, Some}
use Rattle.group_table.specs.Prime.{prime_value}
use Rattle.linear_algebra.specs.Rows.{IsMatrix}
use Rattle.resolution_stages.specs.Checks.{StageParts}
use Rattle.stage_records.specs.declared.shape.Shape.{Shape}
use Rattle.stage_records.specs.declared.TheConstants.{GREATEST_WIDTH}
use Rattle.stage_records.specs.Records.{record_length, record_bytes}
use Rattle.stage_records.specs.Readings.{Whole, read_record}
use Rattle.stage_records.specs.Walks.{length_at, is_in_range, Ends, Takes, Refuses, next, WalkFault, walk}
use Rattle.stage_records.specs.Walks.{stage_bytes}

-- a record begins with the number of the bytes after its length, which is in its range
pub record IsFramed (record_bytes : List ℕ) : Type 0 where
  pub some : 4 ≤ length record_bytes
  pub range : is_in_range (length_at record_bytes) ≡ true
  pub size : 4 + length_at record_bytes ≡ length record_bytes

pub record AreHonest (header : List ℕ) (records : ℕ → Option (List ℕ)) : Type 0 where
  pub header_size : length header ≡ 40
  pub framed : (d : ℕ) (honest : List ℕ) → records d ≡ Some honest → IsFramed honest

-- the walk over the first k bytes of a file, against the walk over the file
pub record CutClaims (header : List ℕ) (records : ℕ → Option (List ℕ)) (c k : ℕ)
    (file : List ℕ) : Type 0 where
  -- what is refused of the cut file is refused of the file
  pub fault : (f : WalkFault) → (walk header records c (take k file)).fault ≡ Some f
      → walk header records c (take k file) ≡ walk header records c file
  -- no more records are taken
  pub no_more : (walk header records c (take k file)).taken ≤ (walk header records c file).taken
  -- a record that was taken is still taken, where it lies whole in the first k bytes
  pub kept : (i : ℕ) → i ≤ (walk header records c file).taken → length (stage_bytes header records i) ≤ k
      → i ≤ (walk header records c (take k file)).taken

-- the parts of a record that fits the shape
pub record Fits (shape : Shape) (Q : StageParts) : Type 0 where
  pub ascending : (i j : ℕ) → i < j → j < length Q.positions → get_or Q.positions i 0 < get_or Q.positions j 0
  pub inside : (i : ℕ) → i < length Q.positions → get_or Q.positions i 0 < shape.previous
  pub kernel_rows : IsMatrix (prime_value shape.p) (shape.order * length Q.positions) Q.kernel
  pub section_rows : IsMatrix (prime_value shape.p) (shape.order * length Q.positions) Q.sections
  pub kernel_count : length Q.kernel + shape.previous ≡ shape.order * length Q.positions
  pub section_count : length Q.sections ≡ shape.previous
  pub small : shape.order * length Q.positions ≤ GREATEST_WIDTH
  pub range : is_in_range (record_length (length Q.positions) (shape.order * length Q.positions)) ≡ true

-- the bytes are read as these parts exactly where they begin with the record of these parts, and these fit
pub record WholeClaims (shape : Shape) (bytes : List ℕ) (Q : StageParts) : Type 0 where
  pub fit : read_record shape bytes ≡ Whole Q → Fits shape Q
  pub same : read_record shape bytes ≡ Whole Q
      → take (4 + length_at bytes) bytes ≡ record_bytes shape.order shape.degree Q
  pub whole : Fits shape Q → take (4 + length_at bytes) bytes ≡ record_bytes shape.order shape.degree Q
      → read_record shape bytes ≡ Whole Q

-- a step of the walk over the first k bytes decides the step over all of them
pub record FrontClaims (o : Option (List ℕ)) (k : ℕ) (bytes : List ℕ) : Type 0 where
  pub ends : next o (take k bytes) ≡ Ends → next o bytes ≡ Ends
  pub takes : (rest : List ℕ) → next o (take k bytes) ≡ Takes rest
      → next o bytes ≡ Takes (drop (4 + length_at bytes) bytes)
  pub refuses : next o (take k bytes) ≡ Refuses → next o bytes ≡ Refuses

-- the records of c degrees from d on are there
abbrev pub AreThere : (ℕ → Option (List ℕ)) → (c d : ℕ) → Type 0
AreThere records c d = (i : ℕ) → i < c → (r : List ℕ) × (records (d + i) ≡ Some r)

-- the honest file of c records, all of them there: it begins with the header, grows by a record, and stops
-- where there is none
pub record FileClaims (header : List ℕ) (records : ℕ → Option (List ℕ)) (c : ℕ) : Type 0 where
  pub none : stage_bytes header records 0 ≡ header
  pub more : (honest : List ℕ) → records (1 + c) ≡ Some honest
      → stage_bytes header records (suc c) ≡ stage_bytes header records c ++ honest
  pub stop : (m : ℕ) → records (1 + c) ≡ None
      → stage_bytes header records (c + m) ≡ stage_bytes header records c
