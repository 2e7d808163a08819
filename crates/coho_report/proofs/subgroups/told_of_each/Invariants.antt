use Rattle.std.proofs.Common.{take, All}
use Rattle.p_groups.specs.PGroups.{largest_residue}
use Rattle.elementary_subgroups.specs.Bases.{NumberedSubgroup}
use Rattle.elementary_subgroups.specs.Sets.{IsIn}
use Rattle.ring_present.specs.Values.{generators_of}
use Rattle.coho_report.specs.Limits.{IsSmall}
use Rattle.coho_report.specs.OwnRings.{IsKnownRing}
use Rattle.coho_report.specs.Related.{AreRelated}
use Rattle.coho_report.specs.Restrictors.{IsRestrictorOf}
use Rattle.coho_report.specs.Subgroups.{IsToldOf}
use Rattle.coho_report.proofs.subgroups.told_of_each.Given as goal

abbrev pub invariant-loop-i : goal.invariant-loop-i
invariant-loop-i l = record {
  known : All (λ o. IsKnownRing l.res.group l.ring.degree l.limit o.value) l.known.items;
  told : AreRelated
      (IsToldOf l.res.group l.ring.degree (generators_of (largest_residue l.res.group) l.ring.generators))
      (take l.i l.list) l.reports.items;
  restrictors : AreRelated (IsRestrictorOf l.res.group l.ring.degree) (take l.i l.list) l.restrictors.items;
  small : (s : NumberedSubgroup) → IsIn s (take l.i l.list) → IsSmall l.res.group l.ring.degree l.limit s;
}
