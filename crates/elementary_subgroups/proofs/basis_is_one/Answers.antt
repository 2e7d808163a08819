use Rattle.std.proofs.Common.{[]}
use Rattle.elementary_subgroups.proofs.Numbering.{basis_is_one}
use Rattle.elementary_subgroups.proofs.basis_is_one.Goals as goal

pub returns : goal.returns
returns c G members basis other h k = basis_is_one G [] members basis other h k
