use Rattle.neg_basis.proofs.BasisLemmas.{reduced_is_one}
use Rattle.neg_basis.proofs.basis.NegBasis.reduce.Goals as goal

pub returns-clause-only : goal.returns-clause-only
returns-clause-only c =
    rw (← c.self.view_is) (λ w r d. reduced_is_one c.args.v.now.entries w c.reduce_by.new.v.entries
    c.reduce_by.ensures.field.above_one c.self.invariant.basis r c.reduce_by.ensures.row d
    c.reduce_by.ensures.reduced)
