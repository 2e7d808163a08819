use Rattle.std.proofs.Common.{◌≡◌, length, arith, ap}
use Rattle.param_test.specs.Tables.{TableValue}
use Rattle.param_test.proofs.Judging.{element, element-within}
use Rattle.param_test.proofs.table.ParamTable.passes.Goals as goal

pub returns-then-not-branch-clause-no : goal.returns-then-not-branch-clause-no
returns-then-not-branch-clause-no c = λ _ p.
    let v : length c.self.inside.subgroups.items ≡ length c.args.self.now.subgroups =
    ap (λ (t : TableValue). length t.subgroups) c.self.view_is in
    let x = element c.args.self.now.subgroups c.loop-j.j (omega arith) in
    c.in_ok-is_finite_on.ensures.no c.if-not-branch.true x.0 x.1 (p c.loop-j.j x.0 x.1)

pub returns-clause-yes : goal.returns-clause-yes
returns-clause-yes c = λ _ i g e.
    let v : length c.self.inside.subgroups.items ≡ length c.args.self.now.subgroups =
    ap (λ (t : TableValue). length t.subgroups) c.self.view_is in
    let l = element-within c.args.self.now.subgroups i g e in
    c.loop-j.invariant i g (omega arith) e
