use Rattle.std.proofs.Common.{sym, ◌∙◌, ap, subst, arith}
use Rattle.std.proofs.lemmas.Result.{err_from_is_err_and}
use Rattle.min_res.specs.Values.{ResolutionValue}
use Rattle.stage_walk.specs.Dimensions.{Fit}
use Rattle.stage_walk.specs.Turns.{EndsHere, IsTurn, TakesOne}
use Rattle.stage_walk.proofs.Loops.{fit_one, turn_stop, walked_all, walked_end, walked_one}
use Rattle.stage_walk.proofs.walking.take_records.Goals as goal

pub returns-in_err-len-clause-last : goal.returns-in_err-len-clause-last
returns-in_err-len-clause-last g c =
    let e = ap (λ (r : ResolutionValue). r.last) c.in_err-len.ensures.kept in
    omega (arith, e, c.loop-alloc.invariant.last)

pub returns-in_err-len-clause-fit : goal.returns-in_err-len-clause-fit
returns-in_err-len-clause-fit g c =
    subst (λ (r : ResolutionValue). Fit c.args.resolution.now.group r.last) (sym c.in_err-len.ensures.kept)
    c.loop-alloc.invariant.fit

pub returns-in_err-len-clause-refused : goal.returns-in_err-len-clause-refused
returns-in_err-len-clause-refused g c =
    let p = err_from_is_err_and c.from_residual.result c.from_residual.ensures.1 in
    rw (p.1, p.2) (turn_stop c.args.resolution.now.group c.args.path.now
    (g.F.Files.content c.args.files.now) (g.F.Files.content c.loop-alloc.files) c.loop-alloc.invariant.same
    c.args.n
    c.loop-alloc.resolution c.take_record.new.resolution c.loop-alloc.at c.loop-alloc.invariant.group
    (omega arith)
    c.loop-alloc.invariant.walked (g.F.Files.read_faults c.args.files.now)
    (g.F.Files.read_faults c.loop-alloc.files) (g.F.Files.read_faults c.take_record.new.files)
    c.loop-alloc.invariant.later c.loop-alloc.invariant.fit c.requires.there
    c.in_err-len.field-0.0 c.in_err-len.ensures.refused)

pub returns-in_default-clause-taken : goal.returns-in_default-clause-taken
returns-in_default-clause-taken g c =
    let E : EndsHere c.loop-alloc.resolution c.take_record.new.resolution c.args.path.now c.loop-alloc.at
    (g.F.Files.content c.loop-alloc.files) =
    subst (IsTurn c.loop-alloc.resolution c.take_record.new.resolution c.args.path.now c.loop-alloc.at
    (g.F.Files.content c.loop-alloc.files)) c.in_default.is c.in_ok-len.ensures.turn in
    walked_end c.args.resolution.now.group c.args.path.now
    (g.F.Files.content c.args.files.now) (g.F.Files.content c.loop-alloc.files) c.loop-alloc.invariant.same
    c.args.n
    c.loop-alloc.resolution c.take_record.new.resolution c.loop-alloc.at c.loop-alloc.invariant.group
    (omega arith)
    c.loop-alloc.invariant.walked E c.requires.there

pub loop-alloc-preserved : goal.loop-alloc-preserved
loop-alloc-preserved g c =
    let T : TakesOne c.loop-alloc.resolution c.take_record.new.resolution c.args.path.now c.loop-alloc.at
    (g.F.Files.content c.loop-alloc.files) c.in-Some.len =
    subst (IsTurn c.loop-alloc.resolution c.take_record.new.resolution c.args.path.now c.loop-alloc.at
    (g.F.Files.content c.loop-alloc.files)) c.in-Some.is c.in_ok-len.ensures.turn in
    record {
      group = c.in_ok-len.ensures.group ∙ c.loop-alloc.invariant.group;
      computed = c.in_ok-len.ensures.computed ∙ c.loop-alloc.invariant.computed;
      last = omega (arith, T.grown);
      fit = fit_one c.args.resolution.now.group c.args.path.now (g.F.Files.content c.args.files.now)
          (g.F.Files.content c.loop-alloc.files) c.loop-alloc.invariant.same c.args.n
          c.loop-alloc.resolution c.take_record.new.resolution c.loop-alloc.at c.loop-alloc.invariant.group
          (omega arith) c.loop-alloc.invariant.walked c.in-Some.len T c.loop-alloc.invariant.fit;
      low = omega (arith, T.grown, T.short, c.loop-alloc.invariant.low);
      same = c.in_ok-len.ensures.content ∙ c.loop-alloc.invariant.same;
      later = λ path. let a = c.loop-alloc.invariant.later path in
          let b = c.in_ok-len.ensures.later path in omega (arith, a, b);
      later_writes = λ path. let a = c.loop-alloc.invariant.later_writes path in
          let b = c.in_ok-len.ensures.later_writes path in omega (arith, a, b);
      walked = walked_one c.args.resolution.now.group c.args.path.now (g.F.Files.content c.args.files.now)
          (g.F.Files.content c.loop-alloc.files) c.loop-alloc.invariant.same c.args.n
          c.loop-alloc.resolution c.take_record.new.resolution c.loop-alloc.at c.loop-alloc.invariant.group
          (omega arith) c.loop-alloc.invariant.walked c.in-Some.len T;
    }

pub returns-clause-taken : goal.returns-clause-taken
returns-clause-taken g c =
    walked_all c.args.resolution.now.group c.args.path.now (g.F.Files.content c.args.files.now)
    (g.F.Files.content c.loop-alloc.files) c.loop-alloc.invariant.same c.args.n
    c.loop-alloc.resolution.last c.loop-alloc.at (omega (arith, c.loop-alloc.invariant.last))
    c.loop-alloc.invariant.walked c.requires.there
