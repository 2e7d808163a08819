-- A walk over a stage file that nobody vouches for: what it takes, where it ends and what it refuses.
use Rattle.std.specs.Prelude.{ℕ, suc, zero, ◌+◌, ◌-◌, ◌&&◌, not, min, Bool, true, false, List, [], ◌++◌}
use Rattle.std.specs.Prelude.{length, take, drop, nat_lt, nat_le, if◌then◌else◌}
use Rattle.std.specs.declared.option.Option.{Option}
use Rattle.std.specs.declared.option.Option.TheVariants.{None, Some}
use Rattle.std.specs.Int.{w32, from_be_bytes}
use Rattle.std.specs.Str.{bytes_eq}
use Rattle.stage_records.specs.declared.TheConstants.{SHORTEST_RECORD, LONGEST_RECORD}

-- the length with which a record begins, and its range
abbrev pub length_at : List ℕ → ℕ
length_at bytes = from_be_bytes w32 (take 4 bytes)

abbrev pub is_in_range : ℕ → Bool
is_in_range L = nat_le SHORTEST_RECORD L && nat_le L LONGEST_RECORD

-- fewer than 4 bytes remain, or a length in its range and fewer bytes than it says
unfoldable pub is_cut : List ℕ → Bool
is_cut bytes = if nat_lt (length bytes) 4 then true else is_in_range (length_at bytes) && nat_lt
    (length bytes) (4 + length_at bytes)

-- how the bytes go on where a record is due
pub data Next : Type 0 where
  -- the file ends here
  Ends : Next
  -- the honest record stands here, and these bytes remain
  Takes : List ℕ → Next
  Refuses : Next

abbrev pub is_honest : Option (List ℕ) → List ℕ → Bool
is_honest None bytes = false
is_honest (Some honest) bytes = bytes_eq (take (4 + length_at bytes) bytes) honest

unfoldable pub next : Option (List ℕ) → List ℕ → Next
next honest bytes =
    if is_cut bytes then Ends
    else (if is_honest honest bytes then Takes (drop (4 + length_at bytes) bytes) else Refuses)

-- what is refused
pub data WalkFault : Type 0 where
  -- one of the first eight bytes
  Header : WalkFault
  -- the digest of another presentation
  Presentation : WalkFault
  -- the record of this degree
  Record : ℕ → WalkFault

-- how many records were taken, and what was refused
pub record Walked : Type 0 where
  pub taken : ℕ
  pub fault : Option WalkFault

abbrev pub one_more : Walked → Walked
one_more w = record { taken = suc w.taken; fault = w.fault }

abbrev pub refused : WalkFault → Walked
refused fault = record { taken = 0; fault = Some fault }

abbrev pub ended : Walked
ended = record { taken = 0; fault = None }

abbrev pub after : Next → ℕ → (List ℕ → Walked) → Walked
after Ends d go_on = ended
after (Takes rest) d go_on = one_more (go_on rest)
after Refuses d go_on = refused (Record d)

-- the walk over c records at most, the next of degree d, where records has the honest ones
unfoldable pub walk_records : (ℕ → Option (List ℕ)) → (c d : ℕ) → List ℕ → Walked
walk_records records zero d bytes = ended
walk_records records (suc c) d bytes =
    after (next (records d) bytes) d (λ rest. walk_records records c (suc d) rest)

-- the first n bytes of a file, or as many as there are, are those of the honest header
unfoldable pub agrees : ℕ → List ℕ → List ℕ → Bool
agrees n honest file = bytes_eq (take n file) (take (min n (length file)) honest)

-- the walk over the header and c records at most
unfoldable pub walk : List ℕ → (ℕ → Option (List ℕ)) → ℕ → List ℕ → Walked
walk honest records c file =
    if not (agrees 8 honest file) then refused Header
    else (if not (agrees 40 honest file) then refused Presentation
    else walk_records records c 1 (drop 40 file))

abbrev pub with_rest : Option (List ℕ) → List ℕ → List ℕ
with_rest None rest = []
with_rest (Some honest) rest = honest ++ rest

-- the records of c degrees from d on, up to the first that there is none of
unfoldable pub records_from : (ℕ → Option (List ℕ)) → (c d : ℕ) → List ℕ
records_from records zero d = []
records_from records (suc c) d = with_rest (records d) (records_from records c (suc d))

-- the honest file of c records: the header, and the records from degree 1 on
unfoldable pub stage_bytes : List ℕ → (ℕ → Option (List ℕ)) → ℕ → List ℕ
stage_bytes honest records c = honest ++ records_from records c 1

abbrev pub count_with : Option (List ℕ) → ℕ → (ℕ → ℕ) → ℕ
count_with None k more = 0
count_with (Some honest) k more = if nat_le (length honest) k then suc (more (k - length honest)) else 0

-- how many records, of c degrees from d on, lie whole in the first k bytes of records_from
unfoldable pub whole_records : (ℕ → Option (List ℕ)) → (c d k : ℕ) → ℕ
whole_records records zero d k = 0
whole_records records (suc c) d k = count_with (records d) k (λ rest. whole_records records c (suc d) rest)
