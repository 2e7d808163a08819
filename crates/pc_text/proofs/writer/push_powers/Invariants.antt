use Rattle.std.proofs.Common.{◌≡◌, ◌++◌}
use Rattle.pc_text.specs.Canonical.{power_places, place_lines}
use Rattle.pc_text.proofs.writer.push_powers.Given as goal

abbrev pub invariant-loop-i : goal.invariant-loop-i
invariant-loop-i l = l.text.items ≡ l.fn.text.items ++ place_lines l.p (power_places l.i)
