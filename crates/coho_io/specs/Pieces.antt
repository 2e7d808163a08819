-- A part of a file that is read in pieces.
use Rattle.std.specs.Prelude.{◌≡◌, ℕ, ◌+◌, ◌≤◌, List, [], length, take, drop, ⊤}
use Rattle.std.specs.declared.option.Option.{Option}
use Rattle.std.specs.declared.option.Option.TheVariants.{None, Some}
use Rattle.coho_io.specs.Causes.{Rose}
use Rattle.coho_io.specs.declared.fault.Fault.{Fault}
use Rattle.coho_io.specs.declared.fault.Fault.TheVariants as fault

-- the front of a file from a place on that is as long, and nothing where the file is missing
abbrev pub IsFrontFrom : Option (List ℕ) → ℕ → List ℕ → Type 0
IsFrontFrom None from bytes = bytes ≡ []
IsFrontFrom (Some all) from bytes = bytes ≡ take (length bytes) (drop from all)

-- k more bytes were read onto the front, and none only at the end
abbrev pub ReadsMore : Option (List ℕ) → ℕ → List ℕ → List ℕ → ℕ → Type 0
ReadsMore None from old new k = ⊥
ReadsMore (Some all) from old new k =
    (old ≡ take (length old) (drop from all) → new ≡ take (length new) (drop from all))
    × (k ≡ 0 → length all ≤ from + length old)

-- the file is there, and these are its bytes from a place on, len of them or as many as there are
abbrev pub IsPart : Option (List ℕ) → (from len : ℕ) → List ℕ → Type 0
IsPart None from len bytes = ⊥
IsPart (Some all) from len bytes = bytes ≡ take len (drop from all)

-- a call stopped only at a fault of reading the path, whose count rose, or for want of memory
abbrev pub IsReadFault : List ℕ → (before now : List ℕ → ℕ) → Fault → Type 0
IsReadFault path before now fault.Failed = Rose (before path) (now path)
IsReadFault path before now fault.Memory = ⊤
