use Rattle.std.proofs.Common.{◌<◌, [], arith, refl, ◌∙◌, length, take, drop, ◌-◌}
use Rattle.subgroup_list.specs.Search.{lists}
use Rattle.subgroup_list.proofs.Places.{explore_step, found_kept, kept_requires, head_tail, found_blocked}
use Rattle.subgroup_list.proofs.Places.{not_empty, in_rest, shorter, shorter_filter, step_with, step_without}
use Rattle.subgroup_list.proofs.Bools.{append_none, no_items}
use Rattle.elementary_subgroups.proofs.Indices.{in_at}
use Rattle.subgroup_list.proofs.search.+explore.Goals as goal

pub is_blocked-requires-clause-free : goal.is_blocked-requires-clause-free
is_blocked-requires-clause-free t c = λ x h. (c.requires.place.free_torsion x h).element

pub is_blocked-requires-clause-barred : goal.is_blocked-requires-clause-barred
is_blocked-requires-clause-barred t c = λ x h. (c.requires.place.barred_torsion x h).element

pub returns-then-is_blocked : goal.returns-then-is_blocked
returns-then-is_blocked t c = (
  [],
  append_none _,
  found_blocked c.args.chosen.now c.args.free.now c.args.barred.now c.requires.place
      (c.if-is_blocked.ensures.0 refl),
)

pub keep_if_least-requires : goal.keep_if_least-requires
keep_if_least-requires t c =
    kept_requires c.args.chosen.now c.args.free.now c.args.barred.now
    (no_items c.args.free.now c.if-is_empty.ensures) c.requires.place
    (λ b. let h = c.if-is_blocked.ensures.1 b in cc)

pub commuting-requires-clause-element : goal.commuting-requires-clause-element
commuting-requires-clause-element t c =
    let some = not_empty c.args.free.now c.if-is_empty.ensures in
    (c.requires.place.free_torsion _ (in_at c.args.free.now 0 0 some)).element

pub commuting-requires-clause-elements : goal.commuting-requires-clause-elements
commuting-requires-clause-elements t c = λ x h.
    let e = head_tail c.args.free.now (not_empty c.args.free.now c.if-is_empty.ensures) in
    (c.requires.place.free_torsion x (in_rest c.args.free.now _ _ e x h)).element

pub commuting-requires-2-clause-element : goal.commuting-requires-2-clause-element
commuting-requires-2-clause-element t c =
    let some = not_empty c.args.free.now c.if-is_empty.ensures in
    (c.requires.place.free_torsion _ (in_at c.args.free.now 0 0 some)).element

pub commuting-requires-2-clause-elements : goal.commuting-requires-2-clause-elements
commuting-requires-2-clause-elements t c = λ x h. (c.requires.place.barred_torsion x h).element

pub explore-requires : goal.explore-requires
explore-requires t c =
    let e = head_tail c.args.free.now (not_empty c.args.free.now c.if-is_empty.ensures) in
    let q : length c.deref-2.result.now < length c.args.free.now =
    shorter_filter c.args.free.now _ _ c.deref-2.result.now _ e
    (c.deref-2.ensures.value ∙ c.in_ok-free_with.ensures) in (
      omega (arith, q),
      step_with c.args.chosen.now c.args.free.now c.args.barred.now _ _ c.deref.result.now
          c.deref-2.result.now c.deref-3.result.now e
          (c.deref.ensures.value ∙ c.in_ok-with_x.ensures)
          (c.deref-2.ensures.value ∙ c.in_ok-free_with.ensures)
          (c.deref-3.ensures.value ∙ c.in_ok-barred_with.ensures) c.requires.place,
    )

pub explore-requires-2 : goal.explore-requires-2
explore-requires-2 t c =
    let e = head_tail c.args.free.now (not_empty c.args.free.now c.if-is_empty.ensures) in
    let q : length (take (length c.args.free.now - 1) (drop 1 c.args.free.now)) < length c.args.free.now =
    shorter c.args.free.now _ _ e in (
      omega (arith, q),
      step_without c.args.chosen.now c.args.free.now c.args.barred.now _ _ c.deref-4.result.now e
          (c.deref-4.ensures.value ∙ c.in_ok-barred_without.ensures) c.requires.place,
    )

pub returns-then-is_empty : goal.returns-then-is_empty
returns-then-is_empty t c =
    let k = c.in_ok-keep_if_least.ensures in (
      k.0,
      k.1,
      found_kept c.args.chosen.now c.args.free.now c.args.barred.now k.0
          (no_items c.args.free.now c.if-is_empty.ensures) c.requires.place
          (λ b. let h = c.if-is_blocked.ensures.1 b in cc) k.2,
    )

pub returns : goal.returns
returns t c =
    explore_step c.args.chosen.now c.args.free.now c.args.barred.now (lists c.args.found.now.items)
    (lists c.explore.new.found.items) (lists c.explore-2.new.found.items)
    _ _ c.deref.result.now c.deref-2.result.now
    (head_tail c.args.free.now (not_empty c.args.free.now c.if-is_empty.ensures))
    (c.deref.ensures.value ∙ c.in_ok-with_x.ensures)
    (c.deref-2.ensures.value ∙ c.in_ok-free_with.ensures) c.requires.place
    c.in_ok-explore.ensures c.in_ok-explore-2.ensures
