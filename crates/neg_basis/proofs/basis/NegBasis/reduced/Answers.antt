use Rattle.neg_basis.proofs.basis.NegBasis.reduced.Goals as goal

pub returns : goal.returns
returns c = rw (← c.self.view_is) (record {
  same_field = c.self.invariant.reduced_field;
  same_width = c.self.invariant.reduced_width;
  rows = c.self.invariant.reduced_is;
})
