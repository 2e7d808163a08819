use Rattle.std.proofs.Common.{◌≡◌, ◌<◌, ℕ, length}
use Rattle.linear_algebra.specs.Rows.{entry}
use Rattle.radical_layers.specs.Placing.{place_of}
use Rattle.fp_rows.specs.Refs.{entries_of}
use Rattle.group_algebra.specs.Coordinates.{sizes}
use Rattle.group_algebra.proofs.algebra.Algebra.factors_of.Given as goal

abbrev pub invariant-loop-k : goal.invariant-loop-k
invariant-loop-k l = record {
  count : length l.factors ≡ 256;
  entries : (k : ℕ) → k < l.k → entry l.factors k
      ≡ entry (entries_of l.fn.a.row) (place_of (sizes l.self) l.fn.a.count l.fn.a.index k);
  below : (k : ℕ) → k < l.k → entry l.factors k < l.self.table.p;
}
