use Rattle.std.proofs.Common.{◌≡◌, ◌<◌, All, vec_len}
use Rattle.small_groups.specs.SmallGroup.{order_of}
use Rattle.small_groups.proofs.SmallGroup.entries.Given as goal

abbrev pub invariant-loop-place : goal.invariant-loop-place
invariant-loop-place l = record {
  order : l.order ≡ order_of l.self;
  count : vec_len l.table ≡ l.place;
  below : All (λ e. e < order_of l.self) l.table.items;
}
