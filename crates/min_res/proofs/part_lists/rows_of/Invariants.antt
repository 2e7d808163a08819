use Rattle.std.proofs.Common.{◌≡◌, take}
use Rattle.group_table.specs.Prime.{prime_value}
use Rattle.min_res.specs.PartRows.{part_rows}
use Rattle.min_res.proofs.part_lists.rows_of.Given as goal

abbrev pub invariant-loop-i : goal.invariant-loop-i
invariant-loop-i g l = l.rows
    ≡ record {
      p = prime_value l.fn.p;
      width = l.width;
      rows = take l.i (part_rows (g.S.StageParts.parts l.given) l.list);
    }
