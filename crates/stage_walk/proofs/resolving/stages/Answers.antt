use Rattle.std.proofs.Common.{◌≡◌, ◌∙◌, ap, subst}
use Rattle.std.proofs.lemmas.Result.{err_from_is_err_and}
use Rattle.power_commutator.specs.Presentations.{Presentation}
use Rattle.pc_text.specs.Canonical.{canonical}
use Rattle.stage_records.specs.Records.{header_bytes}
use Rattle.stage_walk.specs.Asked.{asked, path_of}
use Rattle.stage_walk.specs.Dimensions.{Fit}
use Rattle.stage_walk.proofs.Whole.{after_saving, all_saved, rest_computed, stop_fault, stop_leaves}
use Rattle.stage_walk.proofs.Whole.{stop_numbered, stop_saving, walk_fault, walk_leaves}
use Rattle.stage_walk.proofs.resolving.stages.Goals as goal

pub returns-in_err-resolution-clause-left : goal.returns-in_err-resolution-clause-left
returns-in_err-resolution-clause-left g c =
    let p = err_from_is_err_and c.from_residual-in_err-resolution.result
    c.from_residual-in_err-resolution.ensures.1 in
    rw (p.1, p.2) (walk_leaves (asked c.args.a c.args.c.now c.args.n c.args.from c.args.save)
    (g.F.Files.content c.args.files.now) (g.F.Files.content c.first_stages.new.files)
    c.first_stages.ensures.content (g.F.Files.read_faults c.args.files.now)
    (g.F.Files.read_faults c.first_stages.new.files) c.in_err-resolution.field-0.0
    (stop_saving c.args.a (canonical c.args.c.now) c.args.n (path_of c.args.from) (path_of c.args.save)
    (g.F.Files.content c.args.files.now) (g.F.Files.read_faults c.args.files.now)
    (g.F.Files.read_faults c.first_stages.new.files) c.in_err-resolution.field-0.0
    c.in_err-resolution.ensures.refused))

pub returns-in_err-resolution-clause-refused : goal.returns-in_err-resolution-clause-refused
returns-in_err-resolution-clause-refused g c =
    let p = err_from_is_err_and c.from_residual-in_err-resolution.result
    c.from_residual-in_err-resolution.ensures.1 in
    rw (p.1, p.2) (walk_fault (asked c.args.a c.args.c.now c.args.n c.args.from c.args.save)
    (g.F.Files.content c.args.files.now) (g.F.Files.read_faults c.args.files.now)
    (g.F.Files.read_faults c.first_stages.new.files) (g.F.Files.write_faults c.args.files.now)
    (g.F.Files.write_faults c.first_stages.new.files) c.in_err-resolution.field-0.0
    (stop_saving c.args.a (canonical c.args.c.now) c.args.n (path_of c.args.from) (path_of c.args.save)
    (g.F.Files.content c.args.files.now) (g.F.Files.read_faults c.args.files.now)
    (g.F.Files.read_faults c.first_stages.new.files) c.in_err-resolution.field-0.0
    c.in_err-resolution.ensures.refused))

pub returns-in_err-save_stages-clause-left : goal.returns-in_err-save_stages-clause-left
returns-in_err-save_stages-clause-left g c =
    let p = err_from_is_err_and c.from_residual-in_err-save_stages.result
    c.from_residual-in_err-save_stages.ensures.1 in
    rw (p.1, p.2) (stop_leaves (asked c.args.a c.args.c.now c.args.n c.args.from c.args.save)
    c.in_ok-resolution.resolution.group c.in_ok-resolution.ensures.group c.in_ok-honest.honest
    (c.in_ok-honest.ensures
    ∙ ap (λ (P : Presentation). header_bytes (canonical P)) c.presentation.ensures.value)
    (g.F.Files.content c.args.files.now) (g.F.Files.content c.first_stages.new.files)
    (g.F.Files.content c.save_stages.new.files) c.first_stages.ensures.content
    c.in_ok-resolution.resolution.last
    (after_saving c.args.a (canonical c.args.c.now) c.args.n (path_of c.args.from) (path_of c.args.save)
    (g.F.Files.content c.args.files.now) (λ count. c.in_ok-resolution.resolution.last ≡ count)
    c.in_ok-resolution.ensures.taken) (g.F.Files.write_faults c.first_stages.new.files)
    (g.F.Files.write_faults c.save_stages.new.files) c.in_err-save_stages.field-0.0
    c.in_err-save_stages.ensures.refused c.in_err-save_stages.ensures.left)

pub returns-in_err-save_stages-clause-refused : goal.returns-in_err-save_stages-clause-refused
returns-in_err-save_stages-clause-refused g c =
    let p = err_from_is_err_and c.from_residual-in_err-save_stages.result
    c.from_residual-in_err-save_stages.ensures.1 in
    rw (p.1, p.2) (stop_fault (asked c.args.a c.args.c.now c.args.n c.args.from c.args.save)
    c.in_ok-resolution.resolution.group c.in_ok-resolution.ensures.group c.in_ok-honest.honest
    (c.in_ok-honest.ensures
    ∙ ap (λ (P : Presentation). header_bytes (canonical P)) c.presentation.ensures.value)
    (g.F.Files.content c.args.files.now) (g.F.Files.content c.first_stages.new.files)
    (g.F.Files.content c.save_stages.new.files) c.first_stages.ensures.content
    c.in_ok-resolution.resolution.last
    (after_saving c.args.a (canonical c.args.c.now) c.args.n (path_of c.args.from) (path_of c.args.save)
    (g.F.Files.content c.args.files.now) (λ count. c.in_ok-resolution.resolution.last ≡ count)
    c.in_ok-resolution.ensures.taken) (g.F.Files.read_faults c.args.files.now)
    (g.F.Files.read_faults c.save_stages.new.files) (g.F.Files.write_faults c.args.files.now)
    (g.F.Files.write_faults c.first_stages.new.files) (g.F.Files.write_faults c.save_stages.new.files)
    c.in_err-save_stages.field-0.0 c.first_stages.ensures.later_writes
    c.in_err-save_stages.ensures.refused)

pub returns-in_err-save_stages-clause-numbered : goal.returns-in_err-save_stages-clause-numbered
returns-in_err-save_stages-clause-numbered g c =
    let p = err_from_is_err_and c.from_residual-in_err-save_stages.result
    c.from_residual-in_err-save_stages.ensures.1 in
    rw (p.1, p.2) (stop_numbered c.in_ok-resolution.resolution.group c.args.a c.args.n c.args.n
    (path_of c.args.save) (g.F.Files.write_faults c.first_stages.new.files)
    (g.F.Files.write_faults c.save_stages.new.files) c.in_err-save_stages.field-0.0
    c.in_err-save_stages.ensures.refused)

pub returns-clause-fit : goal.returns-clause-fit
returns-clause-fit g c =
    subst (λ G. Fit G c.args.n) c.in_ok-resolution.ensures.group c.in_ok-save_stages.ensures.fit

pub returns-clause-computed : goal.returns-clause-computed
returns-clause-computed g c = rest_computed (asked c.args.a c.args.c.now c.args.n c.args.from c.args.save)
    (g.F.Files.content c.args.files.now) c.in_ok-resolution.resolution.last
    c.in_ok-resolution.resolution.computed
    c.save_stages.new.resolution.computed c.args.n
    (after_saving c.args.a (canonical c.args.c.now) c.args.n (path_of c.args.from) (path_of c.args.save)
    (g.F.Files.content c.args.files.now) (λ count. c.in_ok-resolution.resolution.last ≡ count)
    c.in_ok-resolution.ensures.taken) c.in_ok-resolution.ensures.computed
    c.in_ok-save_stages.ensures.computed

pub returns-clause-saved : goal.returns-clause-saved
returns-clause-saved g c = all_saved (asked c.args.a c.args.c.now c.args.n c.args.from c.args.save)
    c.in_ok-resolution.resolution.group c.in_ok-resolution.ensures.group c.in_ok-honest.honest
    (c.in_ok-honest.ensures
    ∙ ap (λ (P : Presentation). header_bytes (canonical P)) c.presentation.ensures.value)
    (g.F.Files.content c.args.files.now) (g.F.Files.content c.first_stages.new.files)
    (g.F.Files.content c.save_stages.new.files) c.first_stages.ensures.content
    c.in_ok-save_stages.ensures.saved
