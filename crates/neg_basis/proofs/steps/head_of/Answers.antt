use Rattle.neg_basis.proofs.Prepared.{first_is_pivot}
use Rattle.neg_basis.proofs.steps.head_of.Goals as goal

pub returns : goal.returns
returns c = rw (← c.view.ensures.entries) (first_is_pivot c.next_place.ensures)
