use Rattle.std.proofs.Common.{◌≡◌, take}
use Rattle.group_table.specs.Prime.{prime_value}
use Rattle.coho_report.specs.Related.{AreRelated}
use Rattle.coho_report.specs.Tables.{generators_by, IsTabled}
use Rattle.coho_report.proofs.parameters.table_of.Given as goal

abbrev pub invariant-loop-i : goal.invariant-loop-i
invariant-loop-i l = record {
  prime : l.table.prime ≡ prime_value l.fn.p;
  subgroups : l.table.subgroups ≡ generators_by l.restrictors;
  tabled : AreRelated (IsTabled l.restrictors) (take l.i l.candidates) l.table.candidates;
}
