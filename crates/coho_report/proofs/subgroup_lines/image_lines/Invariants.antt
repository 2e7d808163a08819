use Rattle.std.proofs.Common.{◌≡◌, map, take}
use Rattle.coho_report.specs.Lines.{image_lines}
use Rattle.coho_report.proofs.subgroup_lines.image_lines.Given as goal

abbrev pub invariant-loop-i : goal.invariant-loop-i
invariant-loop-i l = map (λ line. line.items) l.lines.items
    ≡ image_lines l.gens.degrees l.s.generators (take l.i l.s.images)
