use Rattle.std.proofs.Common.{ℕ, ◌≡◌, ◌<◌, length}
use Rattle.group_table.specs.TableFaults.{IsLatinAt}
use Rattle.group_table.specs.Tables.{order}
use Rattle.group_table.proofs.first_faults.first_not_latin.Given as goal

abbrev pub invariant-loop-a : goal.invariant-loop-a
invariant-loop-a l = record {
  marks : length l.seen.items ≡ order l.table;
  latin : (k : ℕ) → k < l.a → IsLatinAt l.table k;
}
