use Rattle.std.proofs.Common.{sym, ◌∙◌}
use Rattle.std.proofs.lemmas.Result.{err_from_is_err_and}
use Rattle.coho_words.specs.Words.{texts}
use Rattle.coho_run.proofs.Answering.{at_answer, at_given, at_twice, at_words}
use Rattle.coho_run.proofs.running.answer.Goals as goal

pub returns-in_err-command : goal.returns-in_err-command
returns-in_err-command g c =
    let p = err_from_is_err_and c.from_residual.result c.from_residual.ensures.1 in
    rw (p.1, p.2) (at_words (texts c.args.words.now) (g.F.Files.content c.args.files.now)
    (g.F.Files.read_faults c.args.files.now) (g.F.Files.write_faults c.args.files.now)
    c.in_err-command.field-0.0 c.in_err-command.ensures.step)

pub returns-in_err-consistent : goal.returns-in_err-consistent
returns-in_err-consistent g c =
    let p = err_from_is_err_and c.from_residual-in_err-consistent.result
    c.from_residual-in_err-consistent.ensures.1 in
    rw (p.1, p.2) (at_given (texts c.args.words.now) (g.F.Files.content c.args.files.now)
    (g.F.Files.read_faults c.args.files.now) (g.F.Files.write_faults c.args.files.now)
    c.in_ok-command.command c.in_ok-command.ensures.command c.in_ok-command.ensures.step
    (g.F.Files.content c.given.new.files) (g.F.Files.read_faults c.given.new.files)
    (g.F.Files.write_faults c.given.new.files) c.in_err-consistent.ensures.reads.content
    c.in_err-consistent.field-0.0 c.in_err-consistent.ensures.step c.in_err-consistent.ensures.reads.cause)

pub returns-then-reads_twice : goal.returns-then-reads_twice
returns-then-reads_twice g c =
    at_twice (texts c.args.words.now) (g.F.Files.content c.args.files.now)
    (g.F.Files.read_faults c.args.files.now) (g.F.Files.write_faults c.args.files.now)
    c.in_ok-command.command c.in_ok-command.ensures.command c.in_ok-command.ensures.step
    (g.F.Files.content c.given.new.files) (g.F.Files.read_faults c.given.new.files)
    (g.F.Files.write_faults c.given.new.files) c.in_ok-consistent.ensures.reads.content
    c.in_ok-consistent.consistent c.in_ok-consistent.ensures.step (sym c.reads_twice.ensures
    ∙ c.if-reads_twice.true)

pub returns : goal.returns
returns g c =
    at_answer (texts c.args.words.now) (g.F.Files.content c.args.files.now)
    (g.F.Files.read_faults c.args.files.now) (g.F.Files.write_faults c.args.files.now)
    c.in_ok-command.command c.in_ok-command.ensures.command c.in_ok-command.ensures.step
    (g.F.Files.content c.given.new.files) (g.F.Files.read_faults c.given.new.files)
    (g.F.Files.write_faults c.given.new.files) c.in_ok-consistent.ensures.reads.content
    c.in_ok-consistent.consistent c.in_ok-consistent.ensures.step
    (g.F.Files.content c.answer_on.new.files) (g.F.Files.read_faults c.answer_on.new.files)
    (g.F.Files.write_faults c.answer_on.new.files) c.answer_on.result
    (sym c.reads_twice.ensures ∙ c.if-reads_twice.false) c.in_ok-consistent.ensures.reads.later
    c.in_ok-consistent.ensures.later_writes c.answer_on.ensures
