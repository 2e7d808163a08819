use Rattle.std.proofs.Common.{◌≡◌, map, take}
use Rattle.coho_report.specs.Lines.{relation_lines}
use Rattle.coho_report.proofs.lines.relation_lines.Given as goal

abbrev pub invariant-loop-i : goal.invariant-loop-i
invariant-loop-i l = map (λ line. line.items) l.lines.items ≡ relation_lines
    (map (λ g. g.degree) l.ring.generators) (take l.i l.ring.relations)
