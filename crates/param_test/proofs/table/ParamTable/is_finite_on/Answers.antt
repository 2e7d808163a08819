use Rattle.std.proofs.Common.{map, slice_get, ap, sym, subst}
use Rattle.param_test.specs.declared.answer.Finite.TheVariants.{Yes, No, TooMany}
use Rattle.param_test.specs.Tables.{TableValue}
use Rattle.param_test.specs.Finiteness.{AreVariables}
use Rattle.param_test.specs.Parameters.{restriction}
use Rattle.param_test.proofs.Restricting.{variables-are}
use Rattle.param_test.proofs.Judging.{stands-at, answer-from, finite-at, no-at, many-at, variables-at}
use Rattle.param_test.proofs.table.ParamTable.is_finite_on.Goals as goal

pub returns-then-count_variables-gt1500-clause-no : goal.returns-then-count_variables-gt1500-clause-no
returns-then-count_variables-gt1500-clause-no c = λ _ g e.
    variables-at (slice_get c.args.self.now.subgroups c.args.j) c.index-gens.result.now g
    (map (restriction c.args.self.now c.args.j) c.args.tuple.now)
    c.count_variables.result
    (stands-at c.args.self.now.subgroups c.self.inside.subgroups.items c.args.j c.index-gens.result.now
    (ap (λ (t : TableValue). t.subgroups) c.self.view_is)
    c.requires.subgroup c.index-gens.ensures) e
    c.count_variables.ensures c.if-count_variables-gt1500.true

pub kept_restrictions-requires-clause-gens : goal.kept_restrictions-requires-clause-gens
kept_restrictions-requires-clause-gens c =
    stands-at c.args.self.now.subgroups c.self.inside.subgroups.items c.args.j c.index-gens.result.now
    (ap (λ (t : TableValue). t.subgroups) c.self.view_is)
    c.requires.subgroup c.index-gens.ensures

pub finite_in-requires-clause-variables : goal.finite_in-requires-clause-variables
finite_in-requires-clause-variables c =
    subst AreVariables (sym c.in_ok-ring.ensures) (variables-are c.index-gens.result.now)

pub returns-in-Yes-clause-yes : goal.returns-in-Yes-clause-yes
returns-in-Yes-clause-yes c = λ _ g e.
    finite-at (slice_get c.args.self.now.subgroups c.args.j) c.index-gens.result.now g
    (map (restriction c.args.self.now c.args.j) c.args.tuple.now) c.in-Yes.field-0
    (stands-at c.args.self.now.subgroups c.self.inside.subgroups.items c.args.j c.index-gens.result.now
    (ap (λ (t : TableValue). t.subgroups) c.self.view_is)
    c.requires.subgroup c.index-gens.ensures) e
    (answer-from c.index-gens.result.now c.in_ok-ring.ring
    (map (restriction c.args.self.now c.args.j) c.args.tuple.now) c.in_ok-kept.kept (Yes c.in-Yes.field-0)
    c.in_ok-ring.ensures c.in_ok-kept.ensures.kept (rw c.in-Yes.is at c.in_ok-finite_in.ensures))

pub returns-in-No-clause-no : goal.returns-in-No-clause-no
returns-in-No-clause-no c = λ _ g e.
    no-at (slice_get c.args.self.now.subgroups c.args.j) c.index-gens.result.now g
    (map (restriction c.args.self.now c.args.j) c.args.tuple.now) c.in-No.field-0
    (stands-at c.args.self.now.subgroups c.self.inside.subgroups.items c.args.j c.index-gens.result.now
    (ap (λ (t : TableValue). t.subgroups) c.self.view_is)
    c.requires.subgroup c.index-gens.ensures) e
    (answer-from c.index-gens.result.now c.in_ok-ring.ring
    (map (restriction c.args.self.now c.args.j) c.args.tuple.now) c.in_ok-kept.kept (No c.in-No.field-0)
    c.in_ok-ring.ensures c.in_ok-kept.ensures.kept (rw c.in-No.is at c.in_ok-finite_in.ensures))

pub returns-clause-no : goal.returns-clause-no
returns-clause-no c = λ _ g e.
    many-at (slice_get c.args.self.now.subgroups c.args.j) c.index-gens.result.now g
    (map (restriction c.args.self.now c.args.j) c.args.tuple.now) c.in-TooMany.field-0
    (stands-at c.args.self.now.subgroups c.self.inside.subgroups.items c.args.j c.index-gens.result.now
    (ap (λ (t : TableValue). t.subgroups) c.self.view_is)
    c.requires.subgroup c.index-gens.ensures) e
    (answer-from c.index-gens.result.now c.in_ok-ring.ring
    (map (restriction c.args.self.now c.args.j) c.args.tuple.now) c.in_ok-kept.kept
    (TooMany c.in-TooMany.field-0)
    c.in_ok-ring.ensures c.in_ok-kept.ensures.kept (rw c.in-TooMany.is at c.in_ok-finite_in.ensures))
