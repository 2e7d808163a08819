use Rattle.std.proofs.Common.{arith, sym, ◌∙◌}
use mathlib.Core.Path.{subst}
use Rattle.linear_algebra.specs.Choices.{IsGreedy}
use Rattle.neg_basis.proofs.ImageLemmas.{echelon-count}
use Rattle.min_res.proofs.next.next_positions.Goals as goal

pub prove-unreachable-requires : goal.prove-unreachable-requires
prove-unreachable-requires c = omega (
  arith,
  c.rows.ensures.count,
  c.width.ensures,
  echelon-count c.args.list.now.rows c.rows.ensures.matrix c.rows.ensures.echelon,
)

pub greedy-requires-clause-few : goal.greedy-requires-clause-few
greedy-requires-clause-few c = omega (
  arith,
  echelon-count c.args.list.now.rows c.rows.ensures.matrix c.rows.ensures.echelon,
  c.requires.small,
)

pub greedy-requires-clause-same_prime : goal.greedy-requires-clause-same_prime
greedy-requires-clause-same_prime c =
    c.requires.list_prime ∙ sym (c.reduced.ensures.same_field ∙ c.in_ok-basis.ensures.prime)

pub greedy-requires-clause-same_width : goal.greedy-requires-clause-same_width
greedy-requires-clause-same_width c = sym (c.reduced.ensures.same_width ∙ c.in_ok-basis.ensures.width)

pub returns-clause-positions : goal.returns-clause-positions
returns-clause-positions c d e f = c.in_ok-basis.ensures.positions d e f c.reduced.result.now.rows
    c.in_ok-positions.positions c.reduced.ensures.rows
    (subst (λ p. IsGreedy p c.args.list.now.rows c.reduced.result.now.rows c.in_ok-positions.positions)
    (c.requires.list_prime ∙ sym c.in_ok-basis.ensures.prime) c.in_ok-positions.ensures)
