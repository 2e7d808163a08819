use Rattle.std.proofs.Common.{◌≡◌, ◌∙◌, ap, subst}
use Rattle.std.specs.Prelude.{IfErr, OnOk}
use Rattle.min_res.specs.Values.{ResolutionValue}
use Rattle.stage_walk.specs.Asked.{path_of}
use Rattle.stage_walk.specs.Growing.{Gains, LeavesStage, record_of}
use Rattle.stage_walk.proofs.Growing.{append_left}
use Rattle.stage_walk.proofs.saving.save_stage.Goals.{then-last-d+in_ok-compute, else-last-d}
use Rattle.stage_walk.proofs.saving.save_stage.Goals as goal

pub returns-clause-gained : goal.returns-clause-gained
returns-clause-gained g c =
    let same : c.if-last-d.resolution.group ≡ c.args.resolution.now.group = elim c.if-last-d.branch [
      | then-last-d+in_ok-compute w ↦ ap (λ (r : ResolutionValue). r.group) w.resolution-is
          ∙ w.compute.ensures.group
      | else-last-d w ↦ ap (λ (r : ResolutionValue). r.group) w.resolution-is
    ] in
    subst (λ G. OnOk c.append_record.result (Gains (path_of c.args.save) (record_of G c.args.d)
    (g.F.Files.content c.args.files.now) (g.F.Files.content c.append_record.new.files))) same
    c.append_record.ensures.gained

pub returns-clause-left : goal.returns-clause-left
returns-clause-left g c =
    let same : c.if-last-d.resolution.group ≡ c.args.resolution.now.group = elim c.if-last-d.branch [
      | then-last-d+in_ok-compute w ↦ ap (λ (r : ResolutionValue). r.group) w.resolution-is
          ∙ w.compute.ensures.group
      | else-last-d w ↦ ap (λ (r : ResolutionValue). r.group) w.resolution-is
    ] in
    subst (λ G. IfErr c.append_record.result (LeavesStage (path_of c.args.save) (record_of G c.args.d)
    (g.F.Files.content c.args.files.now) (g.F.Files.content c.append_record.new.files))) same
    (append_left c.append_record.result (path_of c.args.save)
    (record_of c.if-last-d.resolution.group c.args.d)
    (g.F.Files.content c.args.files.now) (g.F.Files.content c.append_record.new.files)
    (g.F.Files.write_faults c.args.files.now) (g.F.Files.write_faults c.append_record.new.files)
    c.append_record.ensures.cause c.append_record.ensures.front)
