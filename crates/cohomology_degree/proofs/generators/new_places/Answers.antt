use Rattle.std.proofs.Common.{◌<◌, length}
use Rattle.std.proofs.lemmas.List.{get_or_default}
use mathlib.Core.Path.{subst}
use Rattle.linear_algebra.proofs.GreedyChoice.{greedy-below}
use Rattle.cohomology_degree.proofs.Places.{greedy-length}
use Rattle.cohomology_degree.proofs.generators.new_places.Goals as goal

pub returns-clause-inside : goal.returns-clause-inside
returns-clause-inside c k x l =
    subst (λ y. y < length c.args.basis.now.rows) (get_or_default c.in_ok-places.places k 0 x l)
    (greedy-below c.args.basis.now.p c.args.basis.now.rows c.in_ok-span.span.rows
    (length c.args.basis.now.rows) c.in_ok-places.places c.in_ok-places.ensures k l).1

pub returns-clause-few : goal.returns-clause-few
returns-clause-few c =
    greedy-length c.args.basis.now.p c.args.basis.now.rows c.in_ok-span.span.rows
    (length c.args.basis.now.rows) c.in_ok-places.places c.in_ok-places.ensures
