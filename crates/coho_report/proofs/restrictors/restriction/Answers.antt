use Rattle.std.proofs.Common.{◌∙◌, length, ap, subst}
use Rattle.fp_rows.specs.Refs.{entries_of}
use Rattle.graded_algebra.specs.Presentations.{IsNormalForm}
use Rattle.p_groups.specs.PGroups.{largest_residue}
use Rattle.presentation_rows.specs.Values.{vector}
use Rattle.chain_lift.specs.Embeddings.{elementary, restrict_row}
use Rattle.ring_present.specs.Rings.{cohomology}
use Rattle.ring_present.specs.Values.{generators_of}
use Rattle.coho_report.specs.declared.own_rings.OwnRing.{OwnRing}
use Rattle.coho_report.proofs.Images.{row_is_restricted}
use Rattle.coho_report.proofs.restrictors.restriction.Goals as goal

pub returns : goal.returns
returns c =
    let x = c.args.x.now in
    let G = x.map.group in
    let q = largest_residue G in
    let E = elementary G (length x.map.basis) in
    let own = generators_of q x.own.value.ring.generators in
    let d = c.args.c.now.degree in
    let row = c.view-2.ensures.entries ∙ c.restrict.ensures.value
    ∙ ap (restrict_row G x.map.basis d) c.view.ensures.entries in
    record {
      degree_is = c.in_ok-form.ensures.degree;
      form = subst (λ v. IsNormalForm q (cohomology E) own d v c.in_ok-form.form.terms)
          (ap (vector q) row ∙ row_is_restricted G x.map.basis d c.args.c.now.class.entries)
          (subst (λ (o : OwnRing). IsNormalForm q (cohomology E) (generators_of q o.ring.generators) d
          (vector q (entries_of c.view-2.result)) c.in_ok-form.form.terms) c.deref-own.ensures
          (c.in_ok-form.ensures.form E (ap (λ (o : OwnRing). o.ring.group) c.deref-own.ensures
          ∙ c.requires.restrictor.own.ring_is.group_is)));
    }
