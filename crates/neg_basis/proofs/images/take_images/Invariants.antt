use Rattle.fp_rows.specs.Refs.{entries_of}
use Rattle.neg_basis.specs.Founds.{IsReady}
use Rattle.neg_basis.specs.Turns.{HaveOrigins, TakesImages}
use Rattle.neg_basis.proofs.images.take_images.Given as goal

abbrev pub invariant-loop-k : goal.invariant-loop-k
invariant-loop-k g l = record {
  ready : IsReady (g.T.Ops.modulus l.ops) (g.T.Ops.width l.ops) l.found l.v;
  origins : HaveOrigins l.fn.found.vectors.rows l.fn.found.origins.items
      → HaveOrigins l.found.vectors.rows l.found.origins.items;
  taken : TakesImages (g.T.Ops.modulus l.ops) (g.T.Ops.width l.ops) (g.T.Ops.maps l.ops)
      (g.T.Ops.image l.ops) (entries_of l.row) l.r l.k l.fn.found.vectors.rows l.fn.found.origins.items
      l.found.vectors.rows l.found.origins.items;
}
