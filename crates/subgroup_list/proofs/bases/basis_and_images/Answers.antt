use Rattle.std.proofs.Common.{◌<◌, ℕ, List, arith, ◌∙◌, ap, sym, subst, refl, get_or}
use Rattle.elementary_subgroups.specs.Sets.{IsIn}
use Rattle.elementary_subgroups.specs.Cliques.{AreElements}
use Rattle.elementary_subgroups.proofs.Indices.{in_at}
use Rattle.subgroup_list.proofs.Choosing.{basis_taken, basis_left, value_positive}
use Rattle.elementary_subgroups.proofs.Numbering.{numbering_elements}
use Rattle.elementary_subgroups.proofs.GroupLaws.{law_of}
use Rattle.subgroup_list.proofs.bases.basis_and_images.Goals as goal
use Rattle.subgroup_list.proofs.bases.basis_and_images.Goals.{then-not-has+in_ok-images-2+in_ok-push}
use Rattle.subgroup_list.proofs.bases.basis_and_images.Goals.{else-not-has}

pub spread_by-requires-clause-elements : goal.spread_by-requires-clause-elements
spread_by-requires-clause-elements c =
    let P : List ℕ → Type 0 = λ l. AreElements c.args.g.now l in
    subst P (sym (c.deref-then-not-has.ensures.value ∙ c.loop-x.invariant.images_are))
    (numbering_elements (law_of c.args.g.now c.order.ensures.law) c.loop-x.basis.items
    c.loop-x.invariant.elements)

pub spread_by-requires-clause-element : goal.spread_by-requires-clause-element
spread_by-requires-clause-element c = c.requires _ (in_at c.args.members.now c.loop-x.x-index 0 (omega arith))

pub loop-x-preserved : goal.loop-x-preserved
loop-x-preserved c =
    let pos : 0 < c.args.g.now.p = rw (← c.prime.ensures) (value_positive c.prime.result) in
    elim c.if-not-has.branch [
      | then-not-has+in_ok-images-2+in_ok-push w ↦
          basis_taken (law_of c.args.g.now c.order.ensures.law) pos c.args.members.now c.loop-x.basis.items
          c.loop-x.images.items c.loop-x.x-index c.from-p.result w.deref-then-not-has.result.now
          c.if-not-has.images.items c.if-not-has.basis.items
          (omega arith) c.requires c.loop-x.invariant w.deref-then-not-has.ensures.value
          (λ h. let P : List ℕ → Type 0 = λ m. IsIn (get_or c.args.members.now c.loop-x.x-index 0) m in
          let same = w.deref-then-not-has.ensures.value ∙ sym c.deref.ensures.value in
          let bad = w.if-not-has.ensures.1 (subst P same h) in cc)
          (c.from-p.ensures ∙ c.value.ensures ∙ c.prime.ensures)
          (ap (λ v. v.items) w.images-is ∙ w.in_ok-images-2.ensures)
          (ap (λ v. v.items) w.basis-is ∙ w.in_ok-push.ensures.items)
      | else-not-has w ↦
          basis_left c.args.members.now c.loop-x.basis.items c.loop-x.images.items c.loop-x.x-index
          c.deref.result.now c.if-not-has.images.items c.if-not-has.basis.items (omega arith)
          c.loop-x.invariant c.deref.ensures.value
          (w.if-not-has.ensures.0 refl) (ap (λ v. v.items) w.images-is) (ap (λ v. v.items) w.basis-is)
    ]
