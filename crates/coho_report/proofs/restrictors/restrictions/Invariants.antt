use Rattle.std.proofs.Common.{take}
use Rattle.coho_report.specs.Related.{AreRelated}
use Rattle.coho_report.specs.Restrictors.{IsFormOf}
use Rattle.coho_report.proofs.restrictors.restrictions.Given as goal

abbrev pub invariant-loop-i : goal.invariant-loop-i
invariant-loop-i l = AreRelated (IsFormOf l.c) (take l.i l.restrictors) l.forms
