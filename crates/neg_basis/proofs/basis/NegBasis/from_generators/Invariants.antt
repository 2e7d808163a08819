use Rattle.std.proofs.Common.{length}
use Rattle.neg_basis.specs.Founds.{IsReady}
use Rattle.neg_basis.specs.Turns.{HaveOrigins, IsWorked}
use Rattle.neg_basis.proofs.basis.NegBasis.from_generators.Given as goal

abbrev pub invariant-loop-r : goal.invariant-loop-r
invariant-loop-r g l = record {
  ready : IsReady (g.T.Ops.modulus l.ops) (g.T.Ops.width l.ops) l.found l.v;
  origins : HaveOrigins l.found.vectors.rows l.found.origins.items;
  worked : IsWorked (g.T.Ops.modulus l.ops) (g.T.Ops.width l.ops) (g.T.Ops.maps l.ops)
      (g.T.Ops.image l.ops) l.gens.rows l.found.vectors.rows l.found.origins.items l.r
      (length l.found.vectors.rows) 0;
}
