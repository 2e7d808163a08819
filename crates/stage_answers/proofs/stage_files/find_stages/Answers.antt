use Rattle.std.proofs.Common.{refl, sym, subst, inl}
use Rattle.std.proofs.lemmas.Result.{err_from_is_err_and}
use Rattle.p_groups.specs.PGroups.{PGroup}
use Rattle.min_res.specs.Values.{ResolutionValue}
use Rattle.stage_walk.specs.Dimensions.{Fit}
use Rattle.coho_steps.specs.Groups.{IsTableOf}
use Rattle.stage_answers.specs.StageFiles.{AreTaken, FindStages, IsFrontSaved}
use Rattle.coho_words.specs.Words.{stage_files}
use Rattle.coho_steps.proofs.Chain.{memory_settles}
use Rattle.stage_answers.proofs.FaultStops.{failed, found, has_path}
use Rattle.stage_answers.proofs.Working.{settled_works}
use Rattle.stage_answers.proofs.stage_files.find_stages.Goals as goal

pub returns-in_err-algebra-clause-works : goal.returns-in_err-algebra-clause-works
returns-in_err-algebra-clause-works g c =
    let p = err_from_is_err_and c.from_residual.result c.from_residual.ensures.1 in
    let P = c.args.consistent.now in
    let stages = stage_files c.args.named in
    rw p.1 (settled_works (λ (r : ResolutionValue). tt) (FindStages P c.args.n stages) stages.from stages.save
    (IsFrontSaved P c.args.n stages) (AreTaken P c.args.n stages.from) (g.F.Files.content c.args.files.now)
    (g.F.Files.read_faults c.args.files.now) (g.F.Files.write_faults c.args.files.now) (λ files. inl refl) _
    (memory_settles (λ (r : ResolutionValue). tt) (FindStages P c.args.n stages) p.0 p.2))

pub returns-in-Ok-clause-found : goal.returns-in-Ok-clause-found
returns-in-Ok-clause-found g c = record {
  is_table = subst (λ (G : PGroup). IsTableOf c.args.consistent.now G) (sym c.in-Ok.ensures.group)
      c.in_ok-algebra.ensures;
  last = c.in-Ok.ensures.last;
  fit = subst (λ (G : PGroup). Fit G c.args.n) (sym c.in-Ok.ensures.group) c.in-Ok.ensures.fit;
}

pub returns-in-Ok-clause-works : goal.returns-in-Ok-clause-works
returns-in-Ok-clause-works g c =
    found c.args.consistent.now c.in_ok-algebra.algebra c.in_ok-algebra.ensures c.args.n c.args.named
    (g.F.Files.content c.args.files.now) (g.F.Files.content c.stages.new.files)
    (g.F.Files.read_faults c.args.files.now) (g.F.Files.read_faults c.stages.new.files)
    (g.F.Files.write_faults c.args.files.now) (g.F.Files.write_faults c.stages.new.files)
    c.in-Ok.resolution c.in-Ok.ensures.fit c.in-Ok.ensures.saved
    (λ files known. (let w = c.in-Ok.ensures.computed files known in (w.0, w.1, tt)))

pub stop_at-requires : goal.stop_at-requires
stop_at-requires g c =
    has_path c.args.named _ (g.F.Files.content c.args.files.now)
    (g.F.Files.read_faults c.args.files.now) (g.F.Files.read_faults c.stages.new.files)
    (g.F.Files.write_faults c.args.files.now) (g.F.Files.write_faults c.stages.new.files) refl refl
    c.in-Err.fault c.in-Err.ensures.refused

pub returns-in-Err-clause-works : goal.returns-in-Err-clause-works
returns-in-Err-clause-works g c =
    failed c.args.consistent.now c.in_ok-algebra.algebra c.in_ok-algebra.ensures c.args.n c.args.named
    (g.F.Files.content c.args.files.now) (g.F.Files.content c.stages.new.files)
    (g.F.Files.read_faults c.args.files.now) (g.F.Files.read_faults c.stages.new.files)
    (g.F.Files.write_faults c.args.files.now) (g.F.Files.write_faults c.stages.new.files)
    c.in-Err.fault c.stop_at.result c.stop_at.ensures c.in-Err.ensures.refused c.in-Err.ensures.left
    c.in-Err.ensures.numbered
