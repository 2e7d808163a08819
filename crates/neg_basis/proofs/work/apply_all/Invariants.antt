use Rattle.std.proofs.Common.{◌≤◌, length}
use Rattle.neg_basis.specs.Founds.{IsReady}
use Rattle.neg_basis.specs.Turns.{Continues, HaveOrigins}
use Rattle.neg_basis.proofs.work.apply_all.Given as goal

abbrev pub invariant-loop-number : goal.invariant-loop-number
invariant-loop-number g l = record {
  ready : IsReady (g.T.Ops.modulus l.ops) (g.T.Ops.width l.ops) l.found l.v;
  grown : length l.fn.found.vectors.rows ≤ length l.found.vectors.rows;
  origins : HaveOrigins l.fn.found.vectors.rows l.fn.found.origins.items
      → HaveOrigins l.found.vectors.rows l.found.origins.items;
  worked : Continues (g.T.Ops.modulus l.ops) (g.T.Ops.width l.ops) (g.T.Ops.maps l.ops)
      (g.T.Ops.image l.ops) l.fn.found.vectors.rows l.fn.found.origins.items l.of 0 l.found.vectors.rows
      l.found.origins.items l.of l.number;
}
