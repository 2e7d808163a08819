-- What the iterators over rows give.
use Rattle.std.specs.Prelude.{◌≡◌, ◌^◌, ◌<◌, length}
use Rattle.std.specs.Iterator.Runs.{EveryRun, ItemsMapTo}
use Rattle.std.specs.Slice.Iter.{iter_rest, iter_steps}
use Rattle.std.specs.declared.slice.Iter.{Iter}
use Rattle.linear_algebra.specs.Rows.{IsMatrix}
use Rattle.fp_rows.specs.Lists.{lists, AreOver}
use Rattle.fp_rows.specs.Values.{RowValue, MatrixValue}

-- the rows of m are what is left to the iterator, in their order
pub record IsOverRows (m : MatrixValue) (it : Iter RowValue) : Type 0 where
  pub rows : lists (iter_rest it) ≡ m.rows
  pub over : AreOver m.p (iter_rest it)
  pub matrix : IsMatrix m.p m.width m.rows
  pub fits : length (iter_rest it) < 2 ^ 64
  pub runs : EveryRun (iter_steps {A = RowValue}) (λ p. ItemsMapTo p (λ x. x.now) (iter_rest p.from))
