use Rattle.std.proofs.Common.{take}
use Rattle.p_groups.specs.PGroups.{largest_residue}
use Rattle.ring_present.specs.Values.{generators_of, standard_of}
use Rattle.coho_report.specs.Candidates.{polynomials_of}
use Rattle.coho_report.specs.Related.{AreRelated}
use Rattle.coho_report.specs.Restrictors.{IsClassOf}
use Rattle.coho_report.proofs.candidates.candidates_of.Given as goal

abbrev pub invariant-loop-i : goal.invariant-loop-i
invariant-loop-i l = AreRelated
    (IsClassOf l.res.group l.ring.degree (generators_of (largest_residue l.res.group) l.ring.generators))
    (take l.i (polynomials_of l.d (standard_of l.ring l.d) l.combos-inside.rows.rows)) l.candidates.items
