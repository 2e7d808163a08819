use Rattle.elementary_subgroups.proofs.GroupLaws.{law_of}
use Rattle.elementary_subgroups.proofs.Classes.{only_conjugate}
use Rattle.elementary_subgroups.proofs.each_class_is_listed_once.Goals as goal

pub returns : goal.returns
returns c G ms m L A M = only_conjugate (law_of G L) ms A m M
