use Rattle.std.proofs.Common.{◌≡◌}
use Rattle.std.specs.Prelude.{IfSome}
use Rattle.p_groups.specs.PGroups.{largest_residue}
use Rattle.ring_present.specs.Rings.{IsPresentation}
use Rattle.ring_present.specs.Values.{generators_of}
use Rattle.coho_report.proofs.rings.ring_through.Given as goal

abbrev pub invariant-loop-d : goal.invariant-loop-d
invariant-loop-d l = record {
  prime : l.ring.prime ≡ l.res.group.table.p;
  group : IfSome l.ring.group (λ G. G ≡ l.res.group);
  degree : l.ring.degree ≡ l._d;
  presentation : IsPresentation l.res.group l._d
      (generators_of (largest_residue l.res.group) l.ring.generators) l.ring.relations;
}
