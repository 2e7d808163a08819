use Rattle.param_test.proofs.OneTuple.{one-list}
use Rattle.param_test.proofs.one_list_of_candidates.Goals as goal

pub returns : goal.returns
returns c = one-list
