use Rattle.std.proofs.Common.{◌≤◌, ◌-◌, length}
use Rattle.neg_basis.specs.Founds.{IsReady}
use Rattle.neg_basis.specs.Turns.{Continues, HaveOrigins}
use Rattle.neg_basis.proofs.work.close.Given as goal

abbrev pub invariant-loop-of : goal.invariant-loop-of
invariant-loop-of g l = record {
  ready : IsReady (g.T.Ops.modulus l.ops) (g.T.Ops.width l.ops) l.found l.v;
  inside : l.of ≤ length l.found.vectors.rows;
  origins : HaveOrigins l.fn.found.vectors.rows l.fn.found.origins.items
      → HaveOrigins l.found.vectors.rows l.found.origins.items;
  worked : Continues (g.T.Ops.modulus l.ops) (g.T.Ops.width l.ops) (g.T.Ops.maps l.ops)
      (g.T.Ops.image l.ops) l.fn.found.vectors.rows l.fn.found.origins.items l.from 0 l.found.vectors.rows
      l.found.origins.items l.of 0;
}

abbrev pub decreases-loop-of : goal.decreases-loop-of
decreases-loop-of g l = g.T.Ops.width l.ops - l.of
