use Rattle.std.proofs.Common.{◌≡◌, ◌<◌, ◌++◌, ℕ, length, get_or}
use Rattle.std.specs.Slice.Iter.{iter_rest}
use Rattle.linear_algebra.specs.Choices.{rows_at}
use Rattle.group_algebra.proofs.layers.push_layer.Given as goal

-- the rows at the positions that are left are still to come
abbrev pub invariant-loop-position : goal.invariant-loop-position
invariant-loop-position l = record {
  prime : l.rows.p ≡ l.fn.rows.p;
  width : l.rows.width ≡ l.fn.rows.width;
  to_come : l.rows.rows ++ rows_at l.list.rows
      (iter_rest l.position-iterator) ≡ l.fn.rows.rows ++ rows_at l.list.rows l.taken;
  inside : (i : ℕ) → i < length (iter_rest l.position-iterator)
      → get_or (iter_rest l.position-iterator) i 0 < length l.list.rows;
}
