use Rattle.pc_text.proofs.CanonicalLemmas.{canonical_read}
use Rattle.pc_text.proofs.laws.canonical_is_read.Goals as goal

pub returns : goal.returns
returns c = canonical_read
