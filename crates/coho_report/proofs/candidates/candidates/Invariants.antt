use Rattle.std.proofs.Common.{List}
use Rattle.p_groups.specs.PGroups.{largest_residue}
use Rattle.graded_polynomials.specs.Polynomials.{Polynomial}
use Rattle.ring_present.specs.Values.{generators_of}
use Rattle.coho_report.specs.Candidates.{AreCandidates}
use Rattle.coho_report.specs.Related.{AreRelated}
use Rattle.coho_report.specs.Restrictors.{IsClassOf}
use Rattle.coho_report.proofs.candidates.candidates.Given as goal

abbrev pub invariant-loop-below : goal.invariant-loop-below
invariant-loop-below l = (fs : List Polynomial)
    × AreCandidates l.res.group (generators_of (largest_residue l.res.group) l.ring.generators) l.below fs
    × AreRelated
    (IsClassOf l.res.group l.ring.degree (generators_of (largest_residue l.res.group) l.ring.generators)) fs
    l.candidates.items
