use Rattle.std.proofs.Common.{take}
use Rattle.coho_report.specs.Choices.{IsFormAt}
use Rattle.coho_report.specs.Related.{AreRelated}
use Rattle.coho_report.proofs.parameters.forms_at.Given as goal

abbrev pub invariant-loop-i : goal.invariant-loop-i
invariant-loop-i l = AreRelated (IsFormAt l.ring l.candidates) (take l.i l.places) l.forms.items
