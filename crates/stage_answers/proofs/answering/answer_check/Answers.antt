use Rattle.std.proofs.Common.{◌≡◌, Some, None}
use Rattle.limits.specs.declared.TheConstants.{GREATEST_DEGREE}
use Rattle.stage_answers.specs.Answers.{TellCount}
use Rattle.stage_answers.specs.StageFiles.{WalkFile}
use Rattle.coho_steps.proofs.Lines.{lines_of}
use Rattle.stage_answers.proofs.Working.{works_stop, works_then}
use Rattle.stage_answers.proofs.answering.answer_check.Goals as goal

pub returns-in-Ok : goal.returns-in-Ok
returns-in-Ok g c =
    works_then (λ count. count) lines_of (WalkFile c.args.consistent.now GREATEST_DEGREE c.args.stages.now)
    TellCount
    (Some c.args.stages.now) None (λ old left. left ≡ old) (λ files. ⊥) (g.F.Files.content c.args.files.now)
    (g.F.Files.content c.count_records.new.files) (g.F.Files.read_faults c.args.files.now)
    (g.F.Files.read_faults c.count_records.new.files) (g.F.Files.write_faults c.args.files.now)
    (g.F.Files.write_faults c.count_records.new.files) c.in-Ok.count c.check_lines.result c.in-Ok.ensures
    c.check_lines.ensures

pub returns-in-Err : goal.returns-in-Err
returns-in-Err g c =
    works_stop (λ count. count) lines_of (WalkFile c.args.consistent.now GREATEST_DEGREE c.args.stages.now)
    TellCount
    (Some c.args.stages.now) None (λ old left. left ≡ old) (λ files. ⊥) (g.F.Files.content c.args.files.now)
    (g.F.Files.content c.count_records.new.files) (g.F.Files.read_faults c.args.files.now)
    (g.F.Files.read_faults c.count_records.new.files) (g.F.Files.write_faults c.args.files.now)
    (g.F.Files.write_faults c.count_records.new.files) c.in-Err.stop c.in-Err.ensures
