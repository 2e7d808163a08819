use Rattle.std.proofs.Common.{◌≡◌, ◌+◌, ◌≤◌, map, take}
use Rattle.std.specs.Prelude.{All}
use Rattle.cohomology_degree.specs.Degrees.{kept}
use Rattle.cohomology_degree.proofs.generators.raise.Given as goal

abbrev pub invariant-loop-lift : goal.invariant-loop-lift
invariant-loop-lift l = record {
  kept : map kept l.lifts ≡ map kept l.initial.lifts;
  raised : All (λ x. l.d ≤ x.degree + x.height) (take l.lift-index l.lifts);
}
