use Rattle.std.proofs.Common.{take}
use Rattle.p_groups.specs.PGroups.{largest_residue}
use Rattle.ring_present.specs.Values.{generators_of}
use Rattle.coho_report.specs.Related.{AreRelated}
use Rattle.coho_report.specs.Subgroups.{IsImage}
use Rattle.coho_report.proofs.subgroups.images.Given as goal

abbrev pub invariant-loop-i : goal.invariant-loop-i
invariant-loop-i l = AreRelated
    (IsImage l.map.group l.map.basis (generators_of (largest_residue l.map.group) l.own.ring.generators))
    (take l.i (generators_of (largest_residue l.map.group) l.ring.generators)) l.images.items
