use Rattle.std.proofs.Common.{◌≡◌, map, take}
use Rattle.coho_report.specs.Lines.{all_subgroup_lines}
use Rattle.coho_report.proofs.subgroup_lines.all_subgroup_lines.Given as goal

abbrev pub invariant-loop-i : goal.invariant-loop-i
invariant-loop-i l = map (λ line. line.items) l.lines.items
    ≡ all_subgroup_lines l.gens.degrees (take l.i l.subgroups)
