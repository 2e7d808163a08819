-- Files in memory: their bytes, and the calls that are to fail.
use Rattle.std.specs.Prelude.{◌≡◌, ◌⊎◌, ℕ, Bool, false, if◌then◌else◌, List, [], ◌∷◌, ◌++◌, map, take, IsSome}
use Rattle.std.specs.Prelude.{is_some}
use Rattle.std.specs.declared.option.Option.{Option}
use Rattle.std.specs.declared.option.Option.TheVariants.{None}
use Rattle.std.specs.Option.{option_map, option_map_or}
use Rattle.std.specs.List.{find}
use Rattle.std.specs.Str.{bytes_eq}
use Rattle.std.specs.FinMap.{from_entries}
use Rattle.coho_io.specs.declared.counts.Counts.{Counts}
use Rattle.coho_io.specs.declared.counts.Kind.{Kind}
use Rattle.coho_io.specs.declared.counts.Kind.TheVariants.{Read, Write}
use Rattle.coho_io.specs.Causes.{one_more}
use Rattle.coho_io.specs.Content.{Content, or_empty}
use Rattle.coho_io.specs.Counts.{count_of, raised, no_faults}
use Rattle.coho_io.specs.Calls.{taken_at}

-- a file, and how often calls on it have failed
pub record Entry : Type 0 where
  pub path : List ℕ
  pub bytes : List ℕ
  pub faults : Counts

-- calls counts those that were made; a pair of failing is the number of a call, and how many bytes
-- it takes
pub record FilesState : Type 0 where
  pub files : List Entry
  -- of all paths that are not among the files
  pub outside : Counts
  pub calls : ℕ
  pub failing : List (ℕ × ℕ)

abbrev pub is_at : List ℕ → Entry → Bool
is_at path e = bytes_eq path e.path

abbrev pub named : Entry → List ℕ × List ℕ
named e = (e.path, e.bytes)

-- the bytes of all files; a path outside is missing
abbrev pub content_of : FilesState → Content
content_of s = record { files = from_entries (map named s.files); outside_is_empty = false }

-- the bytes under a path
abbrev pub bytes_at : FilesState → List ℕ → Option (List ℕ)
bytes_at s path = option_map (λ e. e.bytes) (find (is_at path) s.files)

-- how often calls on a path have failed
abbrev pub counts_at : FilesState → List ℕ → Counts
counts_at s path = option_map_or (λ e. e.faults) (find (is_at path) s.files) s.outside

-- how often calls of a kind on a path have failed
abbrev pub fault_count : Kind → FilesState → List ℕ → ℕ
fault_count kind s path = count_of kind (counts_at s path)

abbrev pub read_count : FilesState → List ℕ → ℕ
read_count = fault_count Read

abbrev pub write_count : FilesState → List ℕ → ℕ
write_count = fault_count Write

-- how many bytes the call that comes next takes before it fails, where it is listed
abbrev pub taken_next : FilesState → Option ℕ
taken_next s = taken_at s.failing (one_more s.calls)

-- the read that comes next fails, as it is listed or the file is missing
abbrev pub MustFail : FilesState → List ℕ → Type 0
MustFail s path = IsSome (taken_next s) ⊎ (bytes_at s path ≡ None)

abbrev pub no_files : FilesState
no_files = record { files = []; outside = no_faults; calls = 0; failing = [] }

-- a call is listed as one that fails
abbrev pub listed : FilesState → ℕ → ℕ → FilesState
listed s call taken = record s { failing = s.failing ++ (call, taken) ∷ [] }

-- after a call that was counted and changed nothing else
abbrev pub counted : FilesState → FilesState
counted s = record s { calls = one_more s.calls }

-- the first entry that passes the test, changed
abbrev pub change_first : (Entry → Bool) → (Entry → Entry) → List Entry → List Entry
change_first p change [] = []
change_first p change (e ∷ es) = if p e then change e ∷ es else e ∷ change_first p change es

abbrev pub is_there : FilesState → List ℕ → Bool
is_there s path = is_some (find (is_at path) s.files)

abbrev pub failed_once_more : Kind → Entry → Entry
failed_once_more kind e = record e { faults = raised kind e.faults }

abbrev pub with_bytes : List ℕ → Entry → Entry
with_bytes bytes e = record e { bytes = bytes }

-- one more fault at the path, or at all paths outside
abbrev pub fault_at : Kind → FilesState → List ℕ → FilesState
fault_at kind s path =
    if is_there s path
    then record s { files = change_first (is_at path) (failed_once_more kind) s.files }
    else record s { outside = raised kind s.outside }

-- after a read that failed
abbrev pub failed_read : FilesState → List ℕ → FilesState
failed_read s path = fault_at Read (counted s) path

abbrev pub new_entry : FilesState → List ℕ → List ℕ → Entry
new_entry s path bytes = record { path = path; bytes = bytes; faults = s.outside }

-- these bytes under a path; a path that is added begins with the counts of those outside
abbrev pub after_put : FilesState → List ℕ → List ℕ → FilesState
after_put s path bytes =
    if is_there s path
    then record s { files = change_first (is_at path) (with_bytes bytes) s.files }
    else record s { files = s.files ++ new_entry s path bytes ∷ [] }

-- a piece behind the bytes under a path
abbrev pub extended : FilesState → List ℕ → List ℕ → FilesState
extended s path piece = after_put s path (or_empty (bytes_at s path) ++ piece)

-- after a creation
abbrev pub created : FilesState → List ℕ → FilesState
created s path = after_put (counted s) path []

-- after a creation that failed
abbrev pub failed_create : FilesState → List ℕ → FilesState
failed_create s path = fault_at Write (counted s) path

-- after an append
abbrev pub appended : FilesState → List ℕ → List ℕ → FilesState
appended s path piece = extended (counted s) path piece

-- after an append that failed once it had taken some bytes
abbrev pub cut_append : FilesState → List ℕ → List ℕ → ℕ → FilesState
cut_append s path piece taken = fault_at Write (extended (counted s) path (take taken piece)) path
