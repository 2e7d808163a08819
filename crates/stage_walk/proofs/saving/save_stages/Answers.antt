use Rattle.std.proofs.Common.{◌≡◌, ◌+◌, ◌<◌, ◌≤◌, suc, arith, sym, ◌∙◌, subst, refl}
use Rattle.std.proofs.lemmas.Result.{err_from_is_err_and}
use Rattle.stage_walk.specs.Asked.{path_of}
use Rattle.stage_walk.specs.Dimensions.{Fit}
use Rattle.stage_walk.specs.Growing.{Holds, file_with}
use Rattle.stage_walk.proofs.Growing.{file_begins, header_front}
use Rattle.stage_walk.proofs.Loops.{stage_left, stage_saved}
use Rattle.stage_walk.proofs.Whole.{begin_left, none_later}
use Rattle.stage_walk.proofs.saving.save_stages.Goals as goal

pub returns-in_err-begin-clause-left : goal.returns-in_err-begin-clause-left
returns-in_err-begin-clause-left g c =
    let p = err_from_is_err_and c.from_residual.result c.from_residual.ensures.1 in
    rw (p.1, p.2) (begin_left (path_of c.args.save)
    (file_with c.args.header.now c.args.resolution.now.group c.args.n) (g.F.Files.content c.args.files.now)
    (g.F.Files.content c.begin.new.files) (g.F.Files.write_faults c.args.files.now)
    (g.F.Files.write_faults c.begin.new.files) c.in_err-begin.field-0.0 c.in_err-begin.ensures.cause
    (header_front c.args.resolution.now.group c.args.header.now (path_of c.args.save)
    (g.F.Files.content c.args.files.now) (g.F.Files.content c.begin.new.files) c.args.n
    c.in_err-begin.ensures.front))

pub loop-i-init : goal.loop-i-init
loop-i-init g c = record {
  group = refl;
  from = omega arith;
  to = c.requires.last;
  computed = refl;
  fit = c.requires.fit;
  held = subst (λ x. Holds (path_of c.args.save) x (g.F.Files.content c.args.files.now)
      (g.F.Files.content c.begin.new.files))
      (sym (file_begins c.args.resolution.now.group c.args.header.now)) c.in_ok-begin.ensures.held;
  later = c.begin.ensures.later;
  later_writes = c.begin.ensures.later_writes;
}

pub returns-in_err-save_stage-clause-left : goal.returns-in_err-save_stage-clause-left
returns-in_err-save_stage-clause-left g c =
    let p = err_from_is_err_and c.from_residual-in_err-save_stage.result
    c.from_residual-in_err-save_stage.ensures.1 in
    let inside : c.loop-i.i < c.args.n = omega (arith, c.loop-i-test.true) in
    let number : c.loop-i.i + 1 ≡ suc c.loop-i.i = omega arith in
    let low : c.loop-i.i ≤ c.loop-i.resolution.last = c.loop-i.invariant.from in
    let fit : Fit c.args.resolution.now.group c.loop-i.i
    = λ k from to. c.loop-i.invariant.fit k from (omega (arith, to, low)) in
    rw (p.1, p.2) (stage_left c.args.resolution.now.group c.args.header.now (path_of c.args.save)
    (g.F.Files.content c.args.files.now) (g.F.Files.content c.loop-i.files)
    (g.F.Files.content c.save_stage.new.files) c.loop-i.i c.args.n inside c.loop-i.invariant.held
    c.loop-i.resolution.group (c.loop-i.i + 1) c.loop-i.invariant.group number
    (g.F.Files.write_faults c.args.files.now) (g.F.Files.write_faults c.loop-i.files)
    (g.F.Files.write_faults c.save_stage.new.files) fit c.in_err-save_stage.field-0.0
    c.in_err-save_stage.ensures.refused c.in_err-save_stage.ensures.left)

pub loop-i-preserved : goal.loop-i-preserved
loop-i-preserved g c =
    let inside : c.loop-i.i < c.args.n = omega (arith, c.loop-i-test.true) in
    let number : c.loop-i.i + 1 ≡ suc c.loop-i.i = omega arith in
    let low : c.loop-i.i ≤ c.loop-i.resolution.last = c.loop-i.invariant.from in
    let fit : Fit c.args.resolution.now.group c.loop-i.i
    = λ k from to. c.loop-i.invariant.fit k from (omega (arith, to, low)) in
    record {
      group = c.save_stage.ensures.group ∙ c.loop-i.invariant.group;
      from = omega (arith, c.in_ok-save_stage.ensures.last);
      to = omega (arith, c.in_ok-save_stage.ensures.last, c.loop-i.invariant.to, inside);
      computed = omega (arith, c.in_ok-save_stage.ensures.computed, c.loop-i.invariant.computed);
      fit = subst (λ G. Fit G c.save_stage.new.resolution.last) c.loop-i.invariant.group
          c.in_ok-save_stage.ensures.fit;
      held = subst (λ k. Holds (path_of c.args.save)
          (file_with c.args.header.now c.args.resolution.now.group k) (g.F.Files.content c.args.files.now)
          (g.F.Files.content c.save_stage.new.files)) (sym number)
          (stage_saved c.args.resolution.now.group c.args.header.now (path_of c.args.save)
          (g.F.Files.content c.args.files.now) (g.F.Files.content c.loop-i.files)
          (g.F.Files.content c.save_stage.new.files) c.loop-i.i c.args.n inside c.loop-i.invariant.held
          c.loop-i.resolution.group (c.loop-i.i + 1) c.loop-i.invariant.group number fit
          c.in_ok-save_stage.ensures.gained);
      later = none_later (g.F.Files.read_faults c.args.files.now) (g.F.Files.read_faults c.loop-i.files)
          (g.F.Files.read_faults c.save_stage.new.files) c.loop-i.invariant.later c.save_stage.ensures.later;
      later_writes = none_later (g.F.Files.write_faults c.args.files.now)
          (g.F.Files.write_faults c.loop-i.files) (g.F.Files.write_faults c.save_stage.new.files)
          c.loop-i.invariant.later_writes c.save_stage.ensures.later_writes;
    }
