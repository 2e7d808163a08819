use Rattle.std.proofs.Common.{◌∙◌, ap}
use mathlib.Core.Path.{subst}
use Rattle.p_groups.specs.PGroups.{largest_residue}
use Rattle.ring_completion.specs.Candidates.{AreCandidates}
use Rattle.cohomology_degree.specs.Rings.{cohomology}
use Rattle.ring_present.specs.Values.{RingValue, generators_of}
use Rattle.ring_present.proofs.FirstTables.{candidates-at, no-candidates}
use Rattle.ring_present.proofs.ring.Ring.candidates.Goals as goal

pub returns-clause-list : goal.returns-clause-list
returns-clause-list c = ap (λ (r : RingValue). r.candidates) c.self.view_is

pub returns-clause-none : goal.returns-clause-none
returns-clause-none c e =
    let k = c.self.inside.known in
    no-candidates k.group k.lifts.items k.degrees.items k.candidates
    (ap (λ (r : RingValue). r.group) c.self.view_is ∙ e) c.self.invariant.2

pub returns-clause-candidates : goal.returns-clause-candidates
returns-clause-candidates c G known =
    let k = c.self.inside.known in
    subst (λ (R : RingValue). AreCandidates (largest_residue G) (cohomology G)
    (generators_of (largest_residue G) R.generators) R.degree k.candidates) c.self.view_is
    (candidates-at k.group k.lifts.items k.degrees.items k.candidates G
    (ap (λ (r : RingValue). r.group) c.self.view_is ∙ known) c.self.invariant.2)
