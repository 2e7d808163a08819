use Rattle.std.proofs.Common.{◌≡◌, [], take}
use Rattle.group_table.specs.Prime.{prime_value}
use Rattle.coho_report.specs.Tables.{generators_by}
use Rattle.coho_report.proofs.parameters.own_generators.Given as goal

abbrev pub invariant-loop-i : goal.invariant-loop-i
invariant-loop-i l = l.table
    ≡ record {
      prime = prime_value l.fn.p;
      subgroups = generators_by (take l.i l.restrictors);
      candidates = [];
    }
