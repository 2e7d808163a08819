use Rattle.std.proofs.Common.{rules}
use Rattle.pc_text.proofs.LawProofs.{stands_for, all_outside}
use Rattle.pc_text.proofs.reader.read_presentation.Goals as goal

pub returns-in_err-content-clause-outside : goal.returns-in_err-content-clause-outside
returns-in_err-content-clause-outside c = all_outside c.args.text.now c.from_residual.result (search rules)

pub returns-in-Ok-clause-grammar : goal.returns-in-Ok-clause-grammar
returns-in-Ok-clause-grammar c = stands_for c.args.text.now c.in-Ok.made (search rules)
