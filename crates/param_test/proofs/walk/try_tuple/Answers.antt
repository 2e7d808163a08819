use Rattle.std.proofs.Common.{sym, subst, ◌∙◌}
use Rattle.param_test.specs.Parameters.{Passes}
use Rattle.param_test.proofs.walk.try_tuple.Goals as goal

pub returns-then-not-found-clause-no : goal.returns-then-not-found-clause-no
returns-then-not-found-clause-no c = λ e p.
    c.in_ok-found.ensures.no e
    (subst (Passes c.args.table.now) (sym (c.deref.ensures.value ∙ c.in_ok-push.ensures.items)) p)
