use Rattle.std.proofs.Common.{◌≡◌, ◌++◌, take, codes, flat_map, string_bytes}
use Rattle.coho_report.specs.Lines.{after_space}
use Rattle.coho_report.proofs.lines.ranks_line.Given as goal

abbrev pub invariant-loop-rank : goal.invariant-loop-rank
invariant-loop-rank l = string_bytes l.text ≡ codes "ranks" ++ flat_map after_space
    (take l.rank-index l.ranks)
