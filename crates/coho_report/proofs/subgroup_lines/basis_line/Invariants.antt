use Rattle.std.proofs.Common.{◌≡◌, ◌+◌, ◌++◌, codes, decimal, flat_map, length, string_bytes, take}
use Rattle.coho_report.specs.Lines.{after_space}
use Rattle.coho_report.proofs.subgroup_lines.basis_line.Given as goal

abbrev pub invariant-loop-i : goal.invariant-loop-i
invariant-loop-i l = string_bytes l.text
    ≡ codes "subgroup " ++ (decimal (l.place + 1) ++ (codes " rank " ++ (decimal (length l.s.basis)
    ++ (codes " basis" ++ flat_map after_space (take l.i l.s.basis)))))
