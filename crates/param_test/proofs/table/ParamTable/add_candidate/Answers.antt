use Rattle.std.proofs.Common.{◌<◌, ◌≤◌, length, sym, subst}
use Rattle.std.specs.Prelude.{All}
use Rattle.param_test.specs.Tables.{TableValue, AreRestrictions}
use Rattle.param_test.proofs.Tables.{candidates-more}
use Rattle.param_test.proofs.table.ParamTable.add_candidate.Goals as goal

pub invariant_of-self-2 : goal.invariant_of-self-2
invariant_of-self-2 c =
    candidates-more c.self.inside.subgroups.items c.self.inside.candidates.items c.push.new.self.items
    (record { degree = c.args.degree; images = c.args.images })
    c.self.invariant
    (subst (λ (t : TableValue). length t.candidates < 4294967295) (sym c.self.view_is) c.requires.few)
    c.requires.low
    (subst (λ (t : TableValue). All (λ b. b.degree ≤ c.args.degree) t.candidates) (sym c.self.view_is)
    c.requires.order)
    (subst (λ (t : TableValue). AreRestrictions t.subgroups c.args.degree c.args.images) (sym c.self.view_is)
    c.requires.images)
    c.in_ok-push.ensures.items
