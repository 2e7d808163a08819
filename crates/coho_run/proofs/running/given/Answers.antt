use Rattle.std.proofs.Common.{Err, rules, subst, sym}
use Rattle.std.proofs.lemmas.Result.{err_from_is_err_and}
use Rattle.power_commutator.specs.Presentations.{Presentation}
use Rattle.coho_steps.specs.Loading.{Accept}
use Rattle.coho_run.specs.Outcome.{Given}
use Rattle.coho_words.specs.Words.{asked}
use Rattle.coho_steps.proofs.Chain.{memory_settles}
use Rattle.coho_steps.proofs.Lines.{MeetsOf, settled_given}
use Rattle.coho_run.proofs.Replies.{given_load}
use Rattle.coho_run.proofs.running.given.Goals as goal

abbrev itself : Presentation → Presentation
itself P = P

pub returns-in_err-sample_presentation-in-Sample-clause-step :
    goal.returns-in_err-sample_presentation-in-Sample-clause-step
returns-in_err-sample_presentation-in-Sample-clause-step g c =
    let p = err_from_is_err_and c.from_residual.result c.from_residual.ensures.1 in
    rw p.1 (settled_given (g.F.Files.content c.args.files.now) itself (Given (asked c.args.command.now))
    (Err p.0)
    (memory_settles itself (Given (asked c.args.command.now)) p.0 p.2))

pub returns-in_ok-sample_presentation-in-Sample-clause-step :
    goal.returns-in_ok-sample_presentation-in-Sample-clause-step
returns-in_ok-sample_presentation-in-Sample-clause-step g c =
    subst (λ named. MeetsOf itself (Given (asked named)) (g.F.Files.content c.args.files.now) c.accept.result)
    (sym c.in-Sample.is)
    (subst (λ P. MeetsOf itself (Accept P) (g.F.Files.content c.args.files.now) c.accept.result)
    c.in_ok-sample_presentation-in-Sample.ensures
    (settled_given (g.F.Files.content c.args.files.now) itself
    (Accept c.in_ok-sample_presentation-in-Sample.field-0) c.accept.result c.accept.ensures))

pub returns-in-Group-clause-step : goal.returns-in-Group-clause-step
returns-in-Group-clause-step g c =
    given_load (g.F.Files.content c.args.files.now) (asked c.args.command.now) _ c.load.result (search rules)
    c.load.ensures.step
