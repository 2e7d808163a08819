use Rattle.std.proofs.Common.{[], ◌∷◌, inl, refl}
use Rattle.subgroup_list.proofs.Vectors.{lists_push}
use Rattle.subgroup_list.proofs.search.keep_if_least.Goals as goal

pub returns-in_ok-push : goal.returns-in_ok-push
returns-in_ok-push c = (
  c.args.m.now ∷ [],
  rw c.in_ok-push.ensures.items
      (lists_push c.args.found.now.items _ c.args.m.now c.in_ok-from_slice.ensures.items),
  inl (refl, c.if-is_least.ensures.0 refl),
)
