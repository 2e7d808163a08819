use Rattle.neg_basis.specs.Founds.{IsReady}
use Rattle.neg_basis.specs.Turns.{HaveOrigins}
use Rattle.neg_basis.proofs.ImageLemmas.{IsHalfway}
use Rattle.neg_basis.proofs.basis.NegBasis.of_images.Given as goal

abbrev pub invariant-loop-r : goal.invariant-loop-r
invariant-loop-r g l = record {
  ready : IsReady (g.T.Ops.modulus l.ops) (g.T.Ops.width l.ops) l.found l.v;
  rest : IsReady (g.T.Ops.modulus l.ops) (g.T.Ops.width l.ops) l.rest l.v;
  origins : HaveOrigins l.found.vectors.rows l.found.origins.items;
  halfway : IsHalfway (g.T.Ops.modulus l.ops) (g.T.Ops.width l.ops) (g.T.Ops.maps l.ops)
      (g.T.Ops.image l.ops) l.list.rows l.found.vectors.rows l.found.origins.items l.rest.vectors.rows l.r;
}
