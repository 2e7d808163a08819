use Rattle.std.proofs.Common.{ℕ, ◌≡◌, ◌<◌, ◌≢◌, true, false, get_or}
use Rattle.group_table.specs.Tables.{product}
use Rattle.group_table.proofs.first_faults.is_latin.Given as goal

abbrev pub invariant-loop-b : goal.invariant-loop-b
invariant-loop-b l = record {
  marked : (k : ℕ) → k < l.b → get_or l.seen (product l.table l.a k) false ≡ true;
  met : (v : ℕ) → get_or l.seen v false ≡ true → (k : ℕ) × (k < l.b) × (product l.table l.a k ≡ v);
  distinct : (j k : ℕ) → j < k → k < l.b → product l.table l.a j ≢ product l.table l.a k;
}
