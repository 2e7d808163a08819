use Rattle.linear_algebra.proofs.Spans.{in_span_trans}
use Rattle.neg_basis.proofs.basis.NegBasis.contains.Goals as goal

pub returns : goal.returns
returns c = rw (← c.self.view_is) (
  (λ e. in_span_trans c.self.invariant.reduced_is.spanned
      (rw c.self.invariant.reduced_field at (c.contains.ensures.0 e))),
  (λ s. c.contains.ensures.1
      (rw c.self.invariant.reduced_field (in_span_trans c.self.invariant.reduced_is.spans s))),
)
