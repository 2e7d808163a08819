use Rattle.std.proofs.Common.{◌<◌, ℕ, length, arith, sym, subst}
use Rattle.coho_report.specs.Choices.{IsFormAt}
use Rattle.coho_report.proofs.Related.{related-next}
use Rattle.coho_report.proofs.Tabled.{at-default, form_at}
use Rattle.coho_report.proofs.parameters.forms_at.Goals as goal

pub loop-i-preserved : goal.loop-i-preserved
loop-i-preserved c =
    let R = c.args.ring.now in
    let cs = c.args.candidates.now in
    let ks = c.args.places.now in
    let i = c.loop-i.i in
    let k = c.get.result in
    let x = c.index-candidates-get.result in
    let f = c.in_ok-normal_form.field-0 in
    let below : i < length ks = omega (arith, c.loop-i-test.true, c.len-i-end.ensures) in
    let within : k < length cs =
    subst (λ k. k < length cs) (sym c.get.ensures) (c.requires.places i 0 below) in
    related-next (IsFormAt R cs) ks i c.loop-i.forms.items c.push.new.self.items f c.loop-i.invariant below
    (λ (d : ℕ). subst (λ k. IsFormAt R cs k f) (sym (at-default ks i k 0 below c.get.ensures d))
    (form_at R cs k x _ f within c.index-candidates-get.is c.view.ensures.entries
    c.in_ok-normal_form.ensures.degree c.in_ok-normal_form.ensures.form)) c.in_ok-push.ensures.items
