use Rattle.std.proofs.Common.{◌≡◌, ℕ, ◌<◌}
use Rattle.group_table.specs.Tables.{product}
use Rattle.group_table.proofs.group.Group.inv.Given as goal

abbrev pub invariant-loop-b : goal.invariant-loop-b
invariant-loop-b l = (k : ℕ) → k < l.b → product l.self l.a k ≡ 0 → ⊥
