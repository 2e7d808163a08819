use Rattle.std.proofs.Common.{List, ℕ, ◌∙◌, length, ap, sym, subst}
use Rattle.p_groups.specs.PGroups.{largest_residue}
use Rattle.elementary_subgroups.specs.Bases.{NumberedSubgroup}
use Rattle.ring_present.specs.Values.{generators_of}
use Rattle.ring_present.proofs.RelationsOver.{degrees-are}
use Rattle.coho_report.specs.declared.own_rings.OwnRing.{OwnRing}
use Rattle.coho_report.specs.OwnRings.{IsOwnRing}
use Rattle.coho_report.specs.Related.{AreRelated}
use Rattle.coho_report.specs.Subgroups.{IsImage}
use Rattle.coho_report.proofs.Images.{images_over}
use Rattle.coho_report.proofs.subgroups.told_of.Goals as goal

pub images-requires-clause-own : goal.images-requires-clause-own
images-requires-clause-own c =
    let map = c.args.x.now.map in
    subst (λ (o : OwnRing). IsOwnRing map.group c.args.ring.now.degree (length map.basis) o)
    (sym c.deref.ensures) c.requires.restrictor.restrictor.own

pub invariant_of-result : goal.invariant_of-result
invariant_of-result c =
    let map = c.args.x.now.map in
    let q = largest_residue map.group in
    let gs = generators_of q c.args.ring.now.generators in
    let o = c.in_ok-shared.field-0.value in
    let own = subst (λ (o : OwnRing). IsOwnRing map.group c.args.ring.now.degree (length map.basis) o)
    (sym c.in_ok-shared.ensures) c.requires.restrictor.restrictor.own in
    images_over map.group map.basis o.ring.prime o.ring.generators gs c.in_ok-images.images.items
    own.ring_is.prime_is
    (subst (λ (o : OwnRing). AreRelated (IsImage map.group map.basis (generators_of q o.ring.generators)) gs
    c.in_ok-images.images.items) (c.deref.ensures ∙ sym c.in_ok-shared.ensures) c.in_ok-images.ensures)

pub returns : goal.returns
returns c =
    let map = c.args.x.now.map in
    let q = largest_residue map.group in
    let n = c.args.ring.now.degree in
    let gs = generators_of q c.args.ring.now.generators in
    let o = c.in_ok-shared.field-0.value in
    let basis = c.requires.restrictor.basis_is in
    let own = subst (λ (b : List ℕ). IsOwnRing map.group n (length b) o) basis
    (subst (λ (o : OwnRing). IsOwnRing map.group n (length map.basis) o) (sym c.in_ok-shared.ensures)
    c.requires.restrictor.restrictor.own) in
    record {
      basis_is = ap (λ (s : NumberedSubgroup). s.basis) c.in_ok-try_clone.ensures;
      own = generators_of q o.ring.generators;
      relations = o.ring.relations;
      presentation = own.ring_is.presentation;
      generators_are = sym (degrees-are q o.ring.generators);
      images_are = subst (λ (b : List ℕ). AreRelated (IsImage map.group b (generators_of q o.ring.generators))
          gs c.in_ok-images.images.items) basis
          (subst (λ (o : OwnRing). AreRelated
          (IsImage map.group map.basis (generators_of q o.ring.generators)) gs
          c.in_ok-images.images.items) (c.deref.ensures ∙ sym c.in_ok-shared.ensures)
          c.in_ok-images.ensures);
    }
