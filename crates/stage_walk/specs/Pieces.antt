-- What is read of a record.
use Rattle.std.specs.Prelude.{◌≡◌, ℕ, ◌+◌, List, length, take, drop, if◌then◌else◌, nat_lt, ⊤}
use Rattle.std.specs.declared.option.Option.{Option}
use Rattle.std.specs.declared.option.Option.TheVariants.{None, Some}
use Rattle.coho_io.specs.Causes.{Rose}
use Rattle.stage_records.specs.Walks.{length_at, is_in_range}
use Rattle.stage_file.specs.Headers.{ranged}
use Rattle.stage_walk.specs.declared.fault.StagesFault.{StagesFault}
use Rattle.stage_walk.specs.declared.fault.StagesFault.TheVariants as fault

-- the length with which bytes begin, where there are four and it is in its range
abbrev pub range_at : List ℕ → Option ℕ
range_at bytes = if nat_lt (length bytes) 4 then None else ranged (length_at bytes)

-- how far a record is read: its length, and where this is in its range as many bytes more
abbrev pub front_size : List ℕ → ℕ
front_size bytes = if is_in_range (length_at bytes) then 4 + length_at bytes else 4

-- the file is there, and this was read of the record at a place
abbrev pub IsRecordPart : Option (List ℕ) → ℕ → List ℕ → Type 0
IsRecordPart None from bytes = ⊥
IsRecordPart (Some all) from bytes = bytes ≡ take (front_size (drop from all)) (drop from all)

-- a call stopped only at a fault of reading the path, whose count rose, or for want of memory
abbrev pub IsReadStop : List ℕ → (before now : List ℕ → ℕ) → StagesFault → Type 0
IsReadStop path before now fault.Read = Rose (before path) (now path)
IsReadStop path before now fault.Memory = ⊤
IsReadStop path before now _ = ⊥
