use Rattle.std.proofs.Common.{ap, refl, Ok}
use Rattle.std.proofs.lemmas.Result.{err_from_is_err_and}
use Rattle.stage_answers.specs.Answers.{TellCount}
use Rattle.coho_steps.proofs.Chain.{memory_settles}
use Rattle.coho_steps.proofs.Lines.{lines_of}
use Rattle.stage_answers.proofs.answering.check_lines.Goals as goal

pub returns-in_err-record_lines : goal.returns-in_err-record_lines
returns-in_err-record_lines c =
    let p = err_from_is_err_and c.from_residual.result c.from_residual.ensures.1 in
    rw p.1 (memory_settles lines_of (TellCount c.args.count) p.0 p.2)

pub returns : goal.returns
returns c = λ files. (ap (λ ls. Ok ls) c.in_ok-record_lines.ensures, refl)
