-- What is left to an iterator over the numbers of a row.
use Rattle.std.specs.Prelude.{ℕ, List, drop}
use Rattle.fp_rows.specs.Refs.{entries_of}
use Rattle.fp_rows.specs.declared.entries.Entries.{Entries}

-- the numbers that are still to come
abbrev pub entries_left : Entries → List ℕ
entries_left s = drop s.place (entries_of s.row)
