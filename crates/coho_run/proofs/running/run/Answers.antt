use Rattle.std.proofs.Common.{refl, sym, subst, inl, inr, Ok, Err}
use Rattle.std.specs.List.{concat}
use Rattle.std.specs.Io.KnownBytes.{Appends}
use Rattle.coho_io.specs.Bytes.{AppendsFront}
use Rattle.coho_io.specs.Causes.{Rose}
use Rattle.coho_steps.specs.Lines.{contents}
use Rattle.coho_words.specs.Words.{texts}
use Rattle.coho_run.proofs.Runs.{answers, complete_stop, fails_on_out, memory_of_stop, memory_of_write}
use Rattle.coho_run.proofs.Runs.{read_kept, read_told, save_told, stopped, told_meets, usage_stop, words_stop}
use Rattle.coho_run.proofs.Runs.{wrote_all, write_complete, write_unsettled, wrote_front}
use Rattle.coho_run.proofs.SavedFiles.{stays}
use Rattle.coho_run.proofs.RingAnswers.{tells_ring, stop_not_answered}
use Rattle.coho_run.proofs.ClassAnswers.{has_classes}
use Rattle.coho_run.proofs.running.run.Goals as goal
use Rattle.coho_run.proofs.ClassAnswers.{answers_over}

pub returns-in-Ok-write_lines-clause-outcome : goal.returns-in-Ok-write_lines-clause-outcome
returns-in-Ok-write_lines-clause-outcome g c = λ _.
    wrote_all (texts c.args.words.now) (g.F.Files.content c.args.files.now)
    (g.F.Files.content c.answer.new.files) (g.O.Sink.written c.args.out.now)
    (g.O.Sink.written c.write_lines.new.out) (g.E.Sink.written c.args.err.now)
    (g.E.Sink.written c.args.err.now) c.in-Ok.lines (g.E.Sink.faults c.args.err.now) c.in-Ok.ensures.ends
    (subst (λ ls. Appends (g.O.Sink.written c.args.out.now) (g.O.Sink.written c.write_lines.new.out)
    (concat (contents ls))) c.deref.ensures.value c.in-Ok-write_lines.ensures.ok)

pub returns-in-Ok-write_lines-clause-complete : goal.returns-in-Ok-write_lines-clause-complete
returns-in-Ok-write_lines-clause-complete g c = λ told e is k reads saves writes. inl (sym
    (let m = told_meets (texts c.args.words.now) (g.F.Files.content c.args.files.now)
    (g.F.Files.content c.answer.new.files) (Ok c.in-Ok.lines) c.in-Ok.ensures.ends told is in
    answers (texts c.args.words.now) told m.0 (contents c.in-Ok.lines.items) m.1 e k))

pub returns-in-Ok-clause-outcome : goal.returns-in-Ok-clause-outcome
returns-in-Ok-clause-outcome g c = λ settled.
    write_unsettled c.report.result (g.E.Sink.written c.args.err.now) (g.E.Sink.written c.report.new.err)
    (g.E.Sink.faults c.args.err.now) (g.E.Sink.faults c.report.new.err) c.in-Err-write_lines.stop
    (g.O.Sink.faults c.args.out.now) (g.O.Sink.faults c.write_lines.new.out) c.report.ensures.told
    c.in-Err-write_lines.ensures.cause settled

pub returns-in-Ok-clause-write : goal.returns-in-Ok-clause-write
returns-in-Ok-clause-write g c = λ e. inl (fails_on_out (texts c.args.words.now)
    (g.F.Files.content c.args.files.now)
    (g.F.Files.content c.answer.new.files) (g.O.Sink.written c.args.out.now)
    (g.O.Sink.written c.write_lines.new.out) (g.E.Sink.written c.args.err.now)
    (g.E.Sink.written c.report.new.err) c.in-Ok.lines c.in-Err-write_lines.stop c.report.result
    (g.O.Sink.faults c.args.out.now) (g.O.Sink.faults c.write_lines.new.out) (g.E.Sink.faults c.args.err.now)
    (g.E.Sink.faults c.report.new.err)
    c.report.ensures.told c.in-Err-write_lines.ensures.cause c.in-Ok.ensures.ends
    (subst (λ ls. AppendsFront (g.O.Sink.written c.args.out.now) (g.O.Sink.written c.write_lines.new.out)
    (concat (contents ls))) c.deref.ensures.value c.in-Err-write_lines.ensures.err) e)

pub returns-in-Ok-clause-memory : goal.returns-in-Ok-clause-memory
returns-in-Ok-clause-memory g c = λ h. memory_of_write (texts c.args.words.now)
    (g.F.Files.content c.args.files.now)
    (g.F.Files.content c.answer.new.files) (g.O.Sink.written c.args.out.now)
    (g.O.Sink.written c.write_lines.new.out) (g.E.Sink.written c.args.err.now)
    (g.E.Sink.written c.report.new.err) (g.F.Files.read_faults c.args.files.now)
    (g.F.Files.read_faults c.answer.new.files)
    (g.F.Files.write_faults c.args.files.now)
    (g.F.Files.write_faults c.answer.new.files) (g.O.Sink.faults c.args.out.now)
    (g.O.Sink.faults c.write_lines.new.out)
    c.in-Err-write_lines.stop
    (wrote_front (texts c.args.words.now) (g.F.Files.content c.args.files.now)
    (g.F.Files.content c.answer.new.files) (g.O.Sink.written c.args.out.now)
    (g.O.Sink.written c.write_lines.new.out) (g.E.Sink.written c.args.err.now)
    (g.E.Sink.written c.args.err.now) c.in-Ok.lines c.in-Ok.ensures.ends
    (subst (λ ls. AppendsFront (g.O.Sink.written c.args.out.now) (g.O.Sink.written c.write_lines.new.out)
    (concat (contents ls))) c.deref.ensures.value c.in-Err-write_lines.ensures.err))
    c.in-Err-write_lines.ensures.cause (c.report.ensures.memory h)

pub returns-in-Ok-clause-complete : goal.returns-in-Ok-clause-complete
returns-in-Ok-clause-complete g c = λ told e is k reads saves writes. inr
    (write_complete c.report.result (g.E.Sink.written c.args.err.now) (g.E.Sink.written c.report.new.err)
    (g.E.Sink.faults c.args.err.now)
    (g.E.Sink.faults c.report.new.err) c.in-Err-write_lines.stop
    (g.O.Sink.faults c.args.out.now) (g.O.Sink.faults c.write_lines.new.out) c.report.ensures.told
    c.in-Err-write_lines.ensures.cause
    (writes (let m = told_meets (texts c.args.words.now) (g.F.Files.content c.args.files.now)
    (g.F.Files.content c.answer.new.files) (Ok c.in-Ok.lines) c.in-Ok.ensures.ends told is in
    answers (texts c.args.words.now) told m.0 (contents c.in-Ok.lines.items) m.1 e k)))

pub returns-clause-outcome : goal.returns-clause-outcome
returns-clause-outcome g c = λ h.
    stopped (texts c.args.words.now) (g.F.Files.content c.args.files.now)
    (g.F.Files.content c.answer.new.files)
    (g.O.Sink.written c.args.out.now) (g.E.Sink.written c.args.err.now)
    (g.E.Sink.written c.report-in-Err.new.err)
    (g.E.Sink.faults c.args.err.now)
    (g.E.Sink.faults c.report-in-Err.new.err) c.in-Err.stop c.report-in-Err.result h
    c.report-in-Err.ensures.told c.in-Err.ensures.ends

pub returns-clause-usage : goal.returns-clause-usage
returns-clause-usage g c = usage_stop c.report-in-Err.result (g.E.Sink.written c.args.err.now)
    (g.E.Sink.written c.report-in-Err.new.err)
    (g.E.Sink.faults c.args.err.now)
    (g.E.Sink.faults c.report-in-Err.new.err) (texts c.args.words.now) (g.F.Files.content c.args.files.now)
    (g.F.Files.read_faults c.args.files.now)
    (g.F.Files.read_faults c.answer.new.files)
    (g.F.Files.write_faults c.args.files.now)
    (g.F.Files.write_faults c.answer.new.files) (g.F.Files.content c.answer.new.files)
    c.in-Err.stop c.report-in-Err.ensures.told c.in-Err.ensures.ends

pub returns-clause-words : goal.returns-clause-words
returns-clause-words g c = words_stop c.report-in-Err.result (g.E.Sink.written c.args.err.now)
    (g.E.Sink.written c.report-in-Err.new.err)
    (g.E.Sink.faults c.args.err.now)
    (g.E.Sink.faults c.report-in-Err.new.err) (texts c.args.words.now) (g.F.Files.content c.args.files.now)
    (g.F.Files.read_faults c.args.files.now)
    (g.F.Files.read_faults c.answer.new.files)
    (g.F.Files.write_faults c.args.files.now)
    (g.F.Files.write_faults c.answer.new.files) (g.F.Files.content c.answer.new.files)
    c.in-Err.stop c.report-in-Err.ensures.told c.in-Err.ensures.ends c.in-Err.ensures.cause

pub returns-clause-read : goal.returns-clause-read
returns-clause-read g c = read_told c.report-in-Err.result (g.E.Sink.written c.args.err.now)
    (g.E.Sink.written c.report-in-Err.new.err)
    (g.E.Sink.faults c.args.err.now)
    (g.E.Sink.faults c.report-in-Err.new.err) (texts c.args.words.now) (g.F.Files.content c.args.files.now)
    (g.F.Files.read_faults c.args.files.now)
    (g.F.Files.read_faults c.answer.new.files)
    (g.F.Files.write_faults c.args.files.now)
    (g.F.Files.write_faults c.answer.new.files) c.in-Err.stop c.report-in-Err.ensures.told
    c.in-Err.ensures.cause

pub returns-clause-kept : goal.returns-clause-kept
returns-clause-kept g c = read_kept c.report-in-Err.result (g.E.Sink.written c.args.err.now)
    (g.E.Sink.written c.report-in-Err.new.err)
    (g.E.Sink.faults c.args.err.now)
    (g.E.Sink.faults c.report-in-Err.new.err) (texts c.args.words.now) (g.F.Files.content c.args.files.now)
    (g.F.Files.read_faults c.args.files.now)
    (g.F.Files.read_faults c.answer.new.files)
    (g.F.Files.write_faults c.args.files.now)
    (g.F.Files.write_faults c.answer.new.files) (g.F.Files.content c.answer.new.files)
    c.in-Err.stop c.report-in-Err.ensures.told c.in-Err.ensures.kept

pub returns-clause-write : goal.returns-clause-write
returns-clause-write g c = λ e. inr (save_told c.report-in-Err.result (g.E.Sink.written c.args.err.now)
    (g.E.Sink.written c.report-in-Err.new.err)
    (g.E.Sink.faults c.args.err.now)
    (g.E.Sink.faults c.report-in-Err.new.err) (texts c.args.words.now) (g.F.Files.content c.args.files.now)
    (g.F.Files.read_faults c.args.files.now)
    (g.F.Files.read_faults c.answer.new.files)
    (g.F.Files.write_faults c.args.files.now)
    (g.F.Files.write_faults c.answer.new.files) (g.O.Sink.written c.args.out.now)
    c.in-Err.stop c.report-in-Err.ensures.told c.in-Err.ensures.cause e)

pub returns-clause-memory : goal.returns-clause-memory
returns-clause-memory g c = λ h.
    memory_of_stop (texts c.args.words.now) (g.F.Files.content c.args.files.now)
    (g.F.Files.content c.answer.new.files) (g.O.Sink.written c.args.out.now)
    (g.O.Sink.written c.args.out.now) (g.E.Sink.written c.args.err.now)
    (g.E.Sink.written c.report-in-Err.new.err) (g.F.Files.read_faults c.args.files.now)
    (g.F.Files.read_faults c.answer.new.files)
    (g.F.Files.write_faults c.args.files.now)
    (g.F.Files.write_faults c.answer.new.files) (Rose (g.O.Sink.faults c.args.out.now)
    (g.O.Sink.faults c.args.out.now)) c.in-Err.stop refl c.in-Err.ensures.ends
    c.in-Err.ensures.cause (c.report-in-Err.ensures.memory h)

pub returns-clause-complete : goal.returns-clause-complete
returns-clause-complete g c = λ told e is k reads saves writes.
    let m = told_meets (texts c.args.words.now) (g.F.Files.content c.args.files.now)
    (g.F.Files.content c.answer.new.files) (Err c.in-Err.stop) c.in-Err.ensures.ends told is in
    complete_stop c.report-in-Err.result (g.E.Sink.written c.args.err.now)
    (g.E.Sink.written c.report-in-Err.new.err)
    (g.E.Sink.faults c.args.err.now)
    (g.E.Sink.faults c.report-in-Err.new.err) (texts c.args.words.now) (g.F.Files.content c.args.files.now)
    (g.F.Files.read_faults c.args.files.now)
    (g.F.Files.read_faults c.answer.new.files)
    (g.F.Files.write_faults c.args.files.now)
    (g.F.Files.write_faults c.answer.new.files) told m.0 e k c.in-Err.stop c.report-in-Err.ensures.told m.1
    c.in-Err.ensures.cause reads saves

pub returns-in-Ok-write_lines-clause-files : goal.returns-in-Ok-write_lines-clause-files
returns-in-Ok-write_lines-clause-files g c =
    stays (texts c.args.words.now) (g.F.Files.content c.args.files.now)
    (g.F.Files.content c.answer.new.files) c.in-Ok.ensures.left

pub returns-in-Ok-clause-files : goal.returns-in-Ok-clause-files
returns-in-Ok-clause-files g c = stays (texts c.args.words.now) (g.F.Files.content c.args.files.now)
    (g.F.Files.content c.answer.new.files) c.in-Ok.ensures.left

pub returns-clause-files : goal.returns-clause-files
returns-clause-files g c = stays (texts c.args.words.now) (g.F.Files.content c.args.files.now)
    (g.F.Files.content c.answer.new.files) c.in-Err.ensures.left

pub returns-in-Ok-write_lines-clause-ring : goal.returns-in-Ok-write_lines-clause-ring
returns-in-Ok-write_lines-clause-ring g c = λ _.
    tells_ring (texts c.args.words.now) (g.F.Files.content c.args.files.now)
    (g.F.Files.content c.answer.new.files) c.in-Ok.lines
    (g.O.Sink.written c.args.out.now) (g.O.Sink.written c.write_lines.new.out) c.in-Ok.ensures.ends
    (subst (λ ls. Appends (g.O.Sink.written c.args.out.now) (g.O.Sink.written c.write_lines.new.out)
    (concat (contents ls))) c.deref.ensures.value c.in-Ok-write_lines.ensures.ok)

pub returns-in-Ok-clause-ring : goal.returns-in-Ok-clause-ring
returns-in-Ok-clause-ring g c =
    stop_not_answered c.in-Err-write_lines.stop c.report.result (g.E.Sink.written c.args.err.now)
    (g.E.Sink.written c.report.new.err) (g.E.Sink.faults c.args.err.now)
    (g.E.Sink.faults c.report.new.err) c.report.ensures.told

pub returns-clause-ring : goal.returns-clause-ring
returns-clause-ring g c =
    stop_not_answered c.in-Err.stop c.report-in-Err.result (g.E.Sink.written c.args.err.now)
    (g.E.Sink.written c.report-in-Err.new.err) (g.E.Sink.faults c.args.err.now)
    (g.E.Sink.faults c.report-in-Err.new.err) c.report-in-Err.ensures.told

pub returns-in-Ok-write_lines-clause-classes : goal.returns-in-Ok-write_lines-clause-classes
returns-in-Ok-write_lines-clause-classes g c = λ _.
    has_classes (texts c.args.words.now) (g.F.Files.content c.args.files.now)
    (g.F.Files.content c.answer.new.files) c.in-Ok.lines
    c.in-Ok.ensures.ends

pub returns-in-Ok-clause-classes : goal.returns-in-Ok-clause-classes
returns-in-Ok-clause-classes g c =
    stop_not_answered c.in-Err-write_lines.stop c.report.result (g.E.Sink.written c.args.err.now)
    (g.E.Sink.written c.report.new.err) (g.E.Sink.faults c.args.err.now)
    (g.E.Sink.faults c.report.new.err) c.report.ensures.told

pub returns-clause-classes : goal.returns-clause-classes
returns-clause-classes g c =
    stop_not_answered c.in-Err.stop c.report-in-Err.result (g.E.Sink.written c.args.err.now)
    (g.E.Sink.written c.report-in-Err.new.err) (g.E.Sink.faults c.args.err.now)
    (g.E.Sink.faults c.report-in-Err.new.err) c.report-in-Err.ensures.told

pub returns-in-Ok-write_lines-clause-answer : goal.returns-in-Ok-write_lines-clause-answer
returns-in-Ok-write_lines-clause-answer g c = λ _.
    answers_over (texts c.args.words.now) (g.F.Files.content c.args.files.now)
    (g.F.Files.content c.answer.new.files) c.in-Ok.lines (g.O.Sink.written c.args.out.now)
    (g.O.Sink.written c.write_lines.new.out) (g.E.Sink.written c.args.err.now)
    (g.E.Sink.faults c.args.err.now) c.in-Ok.ensures.ends
    (subst (λ ls. Appends (g.O.Sink.written c.args.out.now) (g.O.Sink.written c.write_lines.new.out)
    (concat (contents ls))) c.deref.ensures.value c.in-Ok-write_lines.ensures.ok)

pub returns-in-Ok-clause-answer : goal.returns-in-Ok-clause-answer
returns-in-Ok-clause-answer g c =
    stop_not_answered c.in-Err-write_lines.stop c.report.result (g.E.Sink.written c.args.err.now)
    (g.E.Sink.written c.report.new.err) (g.E.Sink.faults c.args.err.now)
    (g.E.Sink.faults c.report.new.err) c.report.ensures.told

pub returns-clause-answer : goal.returns-clause-answer
returns-clause-answer g c =
    stop_not_answered c.in-Err.stop c.report-in-Err.result (g.E.Sink.written c.args.err.now)
    (g.E.Sink.written c.report-in-Err.new.err) (g.E.Sink.faults c.args.err.now)
    (g.E.Sink.faults c.report-in-Err.new.err) c.report-in-Err.ensures.told
