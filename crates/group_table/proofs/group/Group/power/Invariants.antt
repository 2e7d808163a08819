use Rattle.std.proofs.Common.{◌≡◌, ◌<◌}
use Rattle.group_table.specs.Tables.{power, order}
use Rattle.group_table.proofs.group.Group.power.Given as goal

abbrev pub invariant-loop-i : goal.invariant-loop-i
invariant-loop-i l = (l.result ≡ power l.self l.a l._i) × (l.result < order l.self)
