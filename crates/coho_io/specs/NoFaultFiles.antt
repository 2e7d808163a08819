-- Files of which no call fails: a path that was not put is an empty file.
use Rattle.std.specs.Prelude.{true, List, ℕ}
use Rattle.std.specs.FinMap.{from_entries}
use Rattle.coho_io.specs.Content.{Content}

-- the content of files by their paths and bytes
abbrev pub content_within : List (List ℕ × List ℕ) → Content
content_within files = record { files = from_entries files; outside_is_empty = true }
