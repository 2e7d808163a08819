use Rattle.std.proofs.Common.{ap, ◌∙◌, arith}
use Rattle.presentation_rows.specs.RowPolynomials.{polynomial_of}
use Rattle.cohomology_degree.proofs.RelationSteps.{relation-taken}
use Rattle.cohomology_degree.proofs.relations.relations_of.Goals as goal

pub loop-i-preserved : goal.loop-i-preserved
loop-i-preserved c = relation-taken c.args.d c.args.monomials.now c.args.kernel.now.rows c.loop-i.i
    c.loop-i.relations.items c.push.new.self.items c.in_ok-polynomial_of.field-0 (omega arith)
    (c.in_ok-polynomial_of.ensures ∙ ap (λ u. record {
      degree = c.args.d;
      terms = polynomial_of c.args.monomials.now u;
    }) c.row.ensures.entries) c.loop-i.invariant c.in_ok-push.ensures.items
