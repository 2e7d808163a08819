use Rattle.param_test.proofs.OneTuple.{one-tuple}
use Rattle.param_test.proofs.one_tuple.Goals as goal

pub returns : goal.returns
returns c = one-tuple
