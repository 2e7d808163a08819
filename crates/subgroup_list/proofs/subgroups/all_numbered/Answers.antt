use Rattle.std.proofs.Common.{◌≡◌, ◌<◌, ℕ, List, [], ◌∷◌, ◌++◌, length, arith, ◌∙◌, ap, sym, subst, get_or}
use Rattle.std.proofs.Common.{take, inl, inr}
use Rattle.elementary_subgroups.specs.Bases.{NumberedSubgroup, IsNumbered, members_of}
use Rattle.subgroup_list.specs.Search.{lists}
use Rattle.elementary_subgroups.specs.Sets.{IsIn}
use Rattle.elementary_subgroups.proofs.Members.{in_append}
use Rattle.subgroup_list.proofs.Vectors.{lists_at, lists_take}
use Rattle.elementary_subgroups.proofs.Lists.{map_append}
use Rattle.subgroup_list.proofs.subgroups.all_numbered.Goals as goal

pub numbered-requires : goal.numbered-requires
numbered-requires c =
    let i : c.loop-members.members-index < length c.args.sets.now = omega arith in
    let at : IsIn (get_or c.args.sets.now c.loop-members.members-index c.members-item.result).items
    (lists c.args.sets.now) =
    lists_at c.args.sets.now c.loop-members.members-index c.members-item.result i in
    let q : (get_or c.args.sets.now c.loop-members.members-index c.members-item.result).items
    ≡ c.deref.result.now =
    ap (λ v. v.items) (sym c.members-item.is) ∙ sym c.deref.ensures.value in
    let P : List ℕ → Type 0 = λ l. IsIn l (lists c.args.sets.now) in
    (c.requires.each c.deref.result.now (subst P q at)).0.elementary.elements

pub loop-members-preserved : goal.loop-members-preserved
loop-members-preserved c =
    let i : c.loop-members.members-index < length c.args.sets.now = omega arith in
    record {
      members_are =
          ap members_of c.in_ok-push.ensures.items
          ∙ map_append (λ (s : NumberedSubgroup). s.members) c.loop-members.subgroups.items
          (c.in_ok-numbered.field-0 ∷ [])
          ∙ ap (λ l. l ++ c.in_ok-numbered.field-0.members ∷ []) c.loop-members.invariant.members_are
          ∙ ap (λ m. lists (take c.loop-members.members-index c.args.sets.now) ++ m ∷ [])
          (c.in_ok-numbered.ensures.same ∙ c.deref.ensures.value)
          ∙ sym (lists_take c.args.sets.now c.loop-members.members-index c.members-item.result i
          c.members-item.is);
      numbered = λ s h.
          let P : List NumberedSubgroup → Type 0 = λ l. IsIn s l in
          elim (in_append s c.loop-members.subgroups.items (c.in_ok-numbered.field-0 ∷ [])
          (subst P c.in_ok-push.ensures.items h)) [
            | inl a ↦ c.loop-members.invariant.numbered s a
            | inr a ↦ elim a [
              | inl e ↦ subst (IsNumbered c.args.g.now) (sym e) c.in_ok-numbered.ensures.numbered
              | inr n ↦ absurd n
            ]
          ];
    }
