use Rattle.std.proofs.Common.{◌≡◌, map, take}
use Rattle.coho_report.specs.Lines.{relation_lines}
use Rattle.coho_report.proofs.parameter_lines.polynomial_lines.Given as goal

abbrev pub invariant-loop-i : goal.invariant-loop-i
invariant-loop-i l = map (λ l. l.items) l.lines.items
    ≡ relation_lines l.gens.degrees (take l.i l.forms)
