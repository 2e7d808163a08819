use Rattle.std.proofs.Common.{◌≡◌, ◌∙◌, ap, subst, sym}
use Rattle.std.proofs.lemmas.Result.{err_from_is_err_and}
use Rattle.power_commutator.specs.Presentations.{Presentation}
use Rattle.pc_text.specs.Canonical.{canonical}
use Rattle.min_res.specs.Values.{ResolutionValue}
use Rattle.stage_records.specs.Records.{header_bytes}
use Rattle.stage_walk.specs.Asked.{AfterWalk, asked_from}
use Rattle.stage_walk.proofs.Taken.{taken_all, taken_none, taken_numbered, taken_stop}
use Rattle.stage_walk.proofs.Whole.{header_stop}
use Rattle.stage_walk.proofs.walking.taken_stages.Goals.{then-branch+in_ok-take_records, else-branch}
use Rattle.stage_walk.proofs.walking.taken_stages.Goals as goal

pub returns-in_err-has_header-clause-refused : goal.returns-in_err-has_header-clause-refused
returns-in_err-has_header-clause-refused g c =
    let p = err_from_is_err_and c.from_residual-in_err-has_header.result
    c.from_residual-in_err-has_header.ensures.1 in
    let h : c.in_ok-honest.honest ≡ header_bytes (canonical c.args.c.now) = c.in_ok-honest.ensures
    ∙ ap (λ (P : Presentation). header_bytes (canonical P)) c.presentation.ensures.value in
    rw (p.1, p.2) (header_stop c.args.a c.args.c.now c.args.n c.args.path.now
    (g.F.Files.content c.args.files.now) c.in_ok-honest.honest h
    (g.F.Files.read_faults c.args.files.now) (g.F.Files.read_faults c.has_header.new.files)
    c.in_err-has_header.field-0.0 c.in_err-has_header.ensures.refused)

pub returns-in_err-take_records-clause-refused : goal.returns-in_err-take_records-clause-refused
returns-in_err-take_records-clause-refused g c =
    let p = err_from_is_err_and c.from_residual-in_err-take_records.result
    c.from_residual-in_err-take_records.ensures.1 in
    let h : c.in_ok-honest.honest ≡ header_bytes (canonical c.args.c.now) = c.in_ok-honest.ensures
    ∙ ap (λ (P : Presentation). header_bytes (canonical P)) c.presentation.ensures.value in
    rw (p.1, p.2) (taken_stop c.args.a c.args.c.now c.args.n c.args.path.now
    (g.F.Files.content c.args.files.now) c.in_ok-honest.honest h
    c.in_ok-has_header.field-0 c.in_ok-has_header.ensures.answer c.if-branch.true
    (g.F.Files.content c.has_header.new.files) c.in_ok-has_header.ensures.content
    c.in_ok-resolution.resolution.group (ap (λ (r : ResolutionValue). r.group) c.in_ok-resolution.ensures)
    (g.F.Files.read_faults c.args.files.now) (g.F.Files.read_faults c.has_header.new.files)
    (g.F.Files.read_faults c.take_records.new.files) c.in_err-take_records.field-0.0
    c.in_err-take_records.ensures.refused c.in_ok-has_header.ensures.later)

pub returns-in_err-take_records-clause-numbered : goal.returns-in_err-take_records-clause-numbered
returns-in_err-take_records-clause-numbered g c =
    let p = err_from_is_err_and c.from_residual-in_err-take_records.result
    c.from_residual-in_err-take_records.ensures.1 in
    let h : c.in_ok-honest.honest ≡ header_bytes (canonical c.args.c.now) = c.in_ok-honest.ensures
    ∙ ap (λ (P : Presentation). header_bytes (canonical P)) c.presentation.ensures.value in
    rw (p.1, p.2) (taken_numbered c.args.a c.args.c.now c.args.n c.args.path.now
    (g.F.Files.content c.args.files.now) c.in_ok-honest.honest h
    c.in_ok-has_header.field-0 c.in_ok-has_header.ensures.answer c.if-branch.true
    (g.F.Files.content c.has_header.new.files) c.in_ok-has_header.ensures.content
    c.in_ok-resolution.resolution.group (ap (λ (r : ResolutionValue). r.group) c.in_ok-resolution.ensures)
    (g.F.Files.read_faults c.args.files.now) (g.F.Files.read_faults c.has_header.new.files)
    (g.F.Files.read_faults c.take_records.new.files) c.in_err-take_records.field-0.0
    c.in_err-take_records.ensures.refused)

pub returns-clause-taken : goal.returns-clause-taken
returns-clause-taken g c =
    let h : c.in_ok-honest.honest ≡ header_bytes (canonical c.args.c.now) = c.in_ok-honest.ensures
    ∙ ap (λ (P : Presentation). header_bytes (canonical P)) c.presentation.ensures.value in
    elim c.if-branch.branch [
      | then-branch+in_ok-take_records w ↦
          subst (λ (r : ResolutionValue). AfterWalk
          (asked_from c.args.a c.args.c.now c.args.n c.args.path.now)
          (g.F.Files.content c.args.files.now) (λ count. r.last ≡ count)) (sym w.resolution-is)
          (taken_all c.args.a c.args.c.now c.args.n c.args.path.now (g.F.Files.content c.args.files.now)
          c.in_ok-honest.honest h c.in_ok-has_header.field-0 c.in_ok-has_header.ensures.answer
          w.if-branch.true
          (g.F.Files.content c.has_header.new.files) c.in_ok-has_header.ensures.content
          c.in_ok-resolution.resolution.group
          (ap (λ (r : ResolutionValue). r.group) c.in_ok-resolution.ensures)
          w.take_records.new.resolution.last w.in_ok-take_records.ensures.taken)
      | else-branch w ↦
          taken_none c.args.a c.args.c.now c.args.n c.args.path.now (g.F.Files.content c.args.files.now)
          c.in_ok-honest.honest h c.in_ok-has_header.field-0 c.in_ok-has_header.ensures.answer
          w.if-branch.false
          c.if-branch.resolution.last
          (ap (λ (r : ResolutionValue). r.last) (w.resolution-is ∙ c.in_ok-resolution.ensures))
    ]
