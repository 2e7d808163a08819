use Rattle.std.proofs.Common.{arith, sym, subst}
use Rattle.std.specs.Prelude.{All, ◌≤◌}
use Rattle.gc_poly.specs.Polynomials.{IsOverGenerators}
use Rattle.param_test.specs.Variables.{variables, all_kept}
use Rattle.param_test.specs.Finiteness.{AreVariables, last_degree}
use Rattle.param_test.proofs.Answering.{many-variables}
use Rattle.param_test.proofs.Restricting.{variables-are}
use Rattle.param_test.proofs.Keeping.{all-kept-over, all-kept-low}
use Rattle.param_test.proofs.finite.finite_on.Goals as goal

pub returns-then-variables-gt1500 : goal.returns-then-variables-gt1500
returns-then-variables-gt1500 c =
    many-variables (variables c.args.gens.now) (all_kept c.args.gens.now c.args.fs.now)
    (last_degree (variables c.args.gens.now) (all_kept c.args.gens.now c.args.fs.now))
    c.count_variables-variables.result (variables-are c.args.gens.now) (omega arith)
    c.count_variables-variables.ensures c.if-variables-gt1500.true

pub finite_in-requires-clause-variables : goal.finite_in-requires-clause-variables
finite_in-requires-clause-variables c =
    subst AreVariables (sym c.in_ok-ring.ensures) (variables-are c.args.gens.now)

pub finite_in-requires-clause-over : goal.finite_in-requires-clause-over
finite_in-requires-clause-over c =
    subst (λ g. All (IsOverGenerators g) c.in_ok-kept.kept) (sym c.in_ok-ring.ensures)
    (subst (All (IsOverGenerators (variables c.args.gens.now))) (sym c.in_ok-kept.ensures)
    (all-kept-over c.args.gens.now c.args.fs.now c.requires.over))

pub finite_in-requires-clause-low : goal.finite_in-requires-clause-low
finite_in-requires-clause-low c =
    subst (All (λ f. f.degree ≤ 24)) (sym c.in_ok-kept.ensures)
    (all-kept-low c.args.gens.now c.args.fs.now c.requires.low)
