use Rattle.std.proofs.Common.{◌≡◌, None, Some, refl}
use Rattle.std.proofs.lemmas.Result.{err_from_is_err_and}
use Rattle.limits.specs.declared.TheConstants.{GREATEST_DEGREE}
use Rattle.stage_answers.specs.StageFiles.{WalkFile}
use Rattle.coho_steps.proofs.Chain.{memory_settles}
use Rattle.stage_answers.proofs.CountedRecords.{counted, failed, has_path}
use Rattle.stage_answers.proofs.Working.{settled_works}
use Rattle.stage_answers.proofs.stage_files.count_records.Goals as goal

pub returns-in_err-algebra : goal.returns-in_err-algebra
returns-in_err-algebra g c =
    let p = err_from_is_err_and c.from_residual.result c.from_residual.ensures.1 in
    rw p.1 (settled_works (λ count. count) (WalkFile c.args.consistent.now GREATEST_DEGREE c.args.path.now)
    (Some c.args.path.now) None (λ old left. left ≡ old) (λ files. ⊥) (g.F.Files.content c.args.files.now)
    (g.F.Files.read_faults c.args.files.now) (g.F.Files.write_faults c.args.files.now) (λ files. refl) _
    (memory_settles (λ count. count) (WalkFile c.args.consistent.now GREATEST_DEGREE c.args.path.now) p.0
    p.2))

pub returns-in-Ok : goal.returns-in-Ok
returns-in-Ok g c =
    rw c.last.ensures (counted c.args.consistent.now c.in_ok-algebra.algebra c.in_ok-algebra.ensures
    c.args.path
    (g.F.Files.content c.args.files.now) (g.F.Files.content c.taken_stages.new.files)
    (g.F.Files.read_faults c.args.files.now) (g.F.Files.read_faults c.taken_stages.new.files)
    (g.F.Files.write_faults c.args.files.now) (g.F.Files.write_faults c.taken_stages.new.files)
    c.in-Ok.ensures.content c.in-Ok.resolution.last c.in-Ok.ensures.last c.in-Ok.ensures.fit
    c.in-Ok.ensures.taken)

pub stop_at-requires : goal.stop_at-requires
stop_at-requires g c =
    has_path c.args.consistent.now c.in_ok-algebra.algebra c.in_ok-algebra.ensures c.args.path
    (g.F.Files.content c.args.files.now) (g.F.Files.content c.taken_stages.new.files)
    (g.F.Files.read_faults c.args.files.now) (g.F.Files.read_faults c.taken_stages.new.files)
    (g.F.Files.write_faults c.args.files.now) (g.F.Files.write_faults c.taken_stages.new.files)
    c.in-Err.ensures.content c.in-Err.fault c.in-Err.ensures.refused

pub returns-in-Err : goal.returns-in-Err
returns-in-Err g c =
    failed c.args.consistent.now c.in_ok-algebra.algebra c.in_ok-algebra.ensures c.args.path
    (g.F.Files.content c.args.files.now) (g.F.Files.content c.taken_stages.new.files)
    (g.F.Files.read_faults c.args.files.now) (g.F.Files.read_faults c.taken_stages.new.files)
    (g.F.Files.write_faults c.args.files.now) (g.F.Files.write_faults c.taken_stages.new.files)
    c.in-Err.ensures.content c.in-Err.fault c.stop_at.result c.stop_at.ensures c.in-Err.ensures.refused
    c.in-Err.ensures.numbered
