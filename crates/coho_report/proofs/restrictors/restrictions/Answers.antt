use Rattle.std.proofs.Common.{sym, subst}
use Rattle.coho_report.specs.Restrictors.{IsFormOf, Restricts}
use Rattle.coho_report.specs.declared.restrictors.Restrictor.{Restrictor}
use Rattle.coho_report.proofs.NumberedLists.{at-place}
use Rattle.coho_report.proofs.Related.{related-next}
use Rattle.coho_report.proofs.restrictors.restrictions.Goals as goal

pub restriction-requires : goal.restriction-requires
restriction-requires c =
    let x = c.index-restrictors-i.result in
    subst (λ x. Restricts x c.args.c.now) (sym c.index-restrictors-i.is)
    (c.requires c.loop-i.i x c.loop-i-test.true)

pub loop-i-preserved : goal.loop-i-preserved
loop-i-preserved c = related-next (IsFormOf c.args.c.now) c.args.restrictors.now c.loop-i.i c.loop-i.forms
    c.push.new.self c.in_ok-restriction.field-0 c.loop-i.invariant c.loop-i-test.true
    (λ (d : Restrictor). subst (λ x. IsFormOf c.args.c.now x c.in_ok-restriction.field-0)
    (sym (at-place c.args.restrictors.now c.loop-i.i c.index-restrictors-i.result c.loop-i-test.true
    c.index-restrictors-i.is d)) c.in_ok-restriction.ensures) c.in_ok-push.ensures.ok
