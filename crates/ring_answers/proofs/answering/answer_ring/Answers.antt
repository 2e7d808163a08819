use Rattle.ring_answers.specs.Answers.{TellReport}
use Rattle.stage_answers.specs.StageFiles.{AreTaken, FindStages, IsFrontSaved}
use Rattle.coho_words.specs.Words.{stage_files}
use Rattle.coho_steps.proofs.Lines.{lines_of}
use Rattle.stage_answers.proofs.Working.{works_stop, works_then}
use Rattle.ring_answers.proofs.answering.answer_ring.Goals as goal

pub returns-in-Ok : goal.returns-in-Ok
returns-in-Ok g c =
    let P = c.args.consistent.now in
    let stages = stage_files c.args.named in
    works_then (λ _. tt) lines_of (FindStages P c.args.n stages)
    (λ _. TellReport P c.args.n) stages.from stages.save
    (IsFrontSaved P c.args.n stages) (AreTaken P c.args.n stages.from) (g.F.Files.content c.args.files.now)
    (g.F.Files.content c.find_stages.new.files) (g.F.Files.read_faults c.args.files.now)
    (g.F.Files.read_faults c.find_stages.new.files) (g.F.Files.write_faults c.args.files.now)
    (g.F.Files.write_faults c.find_stages.new.files) c.in-Ok.resolution c.ring_lines.result
    c.in-Ok.ensures.works
    (c.ring_lines.ensures P c.in-Ok.ensures.found)

pub returns-in-Err : goal.returns-in-Err
returns-in-Err g c =
    let P = c.args.consistent.now in
    let stages = stage_files c.args.named in
    works_stop (λ _. tt) lines_of (FindStages P c.args.n stages)
    (λ _. TellReport P c.args.n) stages.from stages.save
    (IsFrontSaved P c.args.n stages) (AreTaken P c.args.n stages.from) (g.F.Files.content c.args.files.now)
    (g.F.Files.content c.find_stages.new.files) (g.F.Files.read_faults c.args.files.now)
    (g.F.Files.read_faults c.find_stages.new.files) (g.F.Files.write_faults c.args.files.now)
    (g.F.Files.write_faults c.find_stages.new.files) c.in-Err.stop c.in-Err.ensures.works
