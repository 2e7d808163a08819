use Rattle.std.proofs.Common.{◌≡◌, Some, sym, ◌∙◌, subst}
use Rattle.min_res.specs.Defined.{IsStageAt}
use Rattle.stage_file.specs.Written.{IsSomeStage}
use Rattle.stage_walk.specs.Growing.{Gains, GainsFront, record_of}
use Rattle.stage_walk.proofs.Growing.{gains, gains_front, on_err, on_ok, own_record, some_stage}
use Rattle.stage_walk.proofs.saving.append_record.Goals as goal

pub write_record-requires-clause-stage : goal.write_record-requires-clause-stage
write_record-requires-clause-stage g c =
    subst IsSomeStage (sym c.deref.ensures)
    (some_stage c.args.resolution.now.group c.args.d c.stage_at.result.now.value c.stage_at.ensures.stage)

pub returns-clause-gained : goal.returns-clause-gained
returns-clause-gained g c =
    let e : record_of c.args.resolution.now.group c.args.d ≡ c.deref-2.result.now =
    own_record c.args.resolution.now.group c.args.d c.deref.result.now c.in_ok-bytes.bytes.items
    (subst (IsStageAt c.args.resolution.now.group c.args.d) (sym c.deref.ensures) c.stage_at.ensures.stage)
    c.in_ok-bytes.ensures ∙ sym c.deref-2.ensures.value in
    rw (c.in-Some.is) (on_ok c.append.result (λ h.
    subst (λ x. Gains (Some c.in-Some.path.now) x (g.F.Files.content c.args.files.now)
    (g.F.Files.content c.append.new.files)) (sym e)
    (gains c.in-Some.path.now c.deref-2.result.now (g.F.Files.content c.args.files.now)
    (g.F.Files.content c.append.new.files) h)) c.append.ensures.ok)

pub returns-clause-front : goal.returns-clause-front
returns-clause-front g c =
    let e : record_of c.args.resolution.now.group c.args.d ≡ c.deref-2.result.now =
    own_record c.args.resolution.now.group c.args.d c.deref.result.now c.in_ok-bytes.bytes.items
    (subst (IsStageAt c.args.resolution.now.group c.args.d) (sym c.deref.ensures) c.stage_at.ensures.stage)
    c.in_ok-bytes.ensures ∙ sym c.deref-2.ensures.value in
    rw (c.in-Some.is) (on_err c.append.result (λ h.
    subst (λ x. GainsFront (Some c.in-Some.path.now) x (g.F.Files.content c.args.files.now)
    (g.F.Files.content c.append.new.files)) (sym e)
    (gains_front c.in-Some.path.now c.deref-2.result.now (g.F.Files.content c.args.files.now)
    (g.F.Files.content c.append.new.files) h)) c.append.ensures.err)
