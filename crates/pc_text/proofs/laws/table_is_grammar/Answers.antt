use Rattle.pc_text.proofs.LawProofs.{table_is_grammar}
use Rattle.pc_text.proofs.laws.table_is_grammar.Goals as goal

pub returns : goal.returns
returns c = table_is_grammar
