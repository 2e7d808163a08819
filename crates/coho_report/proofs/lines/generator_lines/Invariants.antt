use Rattle.std.proofs.Common.{◌≡◌, map}
use Rattle.std.specs.List.{range_with_len}
use Rattle.graded_polynomials.specs.Texts.{name}
use Rattle.coho_report.specs.Lines.{ended}
use Rattle.coho_report.proofs.lines.generator_lines.Given as goal

abbrev pub invariant-loop-i : goal.invariant-loop-i
invariant-loop-i l = map (λ line. line.items) l.lines.items ≡ map (λ i. ended (name l.gens.degrees i))
    (range_with_len 0 l.i)
