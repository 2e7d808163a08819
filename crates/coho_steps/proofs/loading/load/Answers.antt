use Rattle.std.proofs.Common.{Err, Ok, Vec, Global, ℕ, subst, ◌≡◌}
use Rattle.std.proofs.lemmas.Result.{err_from_is_err_and}
use Rattle.power_commutator.specs.Presentations.{Presentation}
use Rattle.coho_steps.specs.Loading.{Accept, ReadText}
use Rattle.coho_steps.specs.Stops.{HasReadCause, IsReadStop, Settles}
use Rattle.coho_steps.proofs.Chain.{path_cause, reads_stop, reads_then, settled_cause}
use Rattle.coho_steps.proofs.Loads.{itself, load_stop, load_then, text_stop, text_then}
use Rattle.coho_steps.proofs.loading.load.Goals as goal

pub returns-in_err-text-clause-step : goal.returns-in_err-text-clause-step
returns-in_err-text-clause-step g c =
    let p = err_from_is_err_and c.from_residual.result c.from_residual.ensures.1 in
    rw (p.1, p.2) (load_stop (g.F.Files.content c.args.files.now) c.args.path.now
    (g.F.Files.read_faults c.args.files.now)
    (g.F.Files.read_faults c.read_front.new.files) c.in_err-text.field-0.0
    c.in_err-text.ensures.reads.cause)

pub returns-in_err-text-clause-reads : goal.returns-in_err-text-clause-reads
returns-in_err-text-clause-reads g c =
    let p = err_from_is_err_and c.from_residual.result c.from_residual.ensures.1 in
    rw (p.1, p.2) (reads_stop {T = Vec ℕ Global} {U = Presentation} (IsReadStop c.args.path.now)
    (HasReadCause (λ p. p ≡ c.args.path.now)) (g.F.Files.content c.args.files.now)
    (g.F.Files.content c.read_front.new.files) (g.F.Files.read_faults c.args.files.now)
    (g.F.Files.read_faults c.read_front.new.files)
    c.in_err-text.field-0.0 c.in_err-text.ensures.reads
    (path_cause c.args.path.now (g.F.Files.read_faults c.args.files.now)
    (g.F.Files.read_faults c.read_front.new.files) c.in_err-text.field-0.0))

pub returns-in_err-presentation-clause-step : goal.returns-in_err-presentation-clause-step
returns-in_err-presentation-clause-step g c =
    let p = err_from_is_err_and c.from_residual-in_err-presentation.result
    c.from_residual-in_err-presentation.ensures.1 in
    let s = c.in_err-presentation.field-0.0 in
    rw (p.1, p.2) (load_then (g.F.Files.content c.args.files.now) c.args.path.now c.in_ok-text.text.items
    (Err s) c.in_ok-text.ensures.step c.in_ok-text.ensures.bound
    (text_stop c.in_ok-text.text.items s
    (subst (λ text. Settles itself (ReadText text)
    (Err s)) c.deref.ensures.value c.in_err-presentation.ensures)))

pub returns-in_err-presentation-clause-reads : goal.returns-in_err-presentation-clause-reads
returns-in_err-presentation-clause-reads g c =
    let p = err_from_is_err_and c.from_residual-in_err-presentation.result
    c.from_residual-in_err-presentation.ensures.1 in
    let s = c.in_err-presentation.field-0.0 in
    rw (p.1, p.2) (reads_then {T = Vec ℕ Global} {U = Presentation} (IsReadStop c.args.path.now)
    (HasReadCause (λ p. p ≡ c.args.path.now)) (g.F.Files.content c.args.files.now)
    (g.F.Files.content c.read_front.new.files) (g.F.Files.read_faults c.args.files.now)
    (g.F.Files.read_faults c.read_front.new.files)
    c.in_ok-text.text (Err s) c.in_ok-text.ensures.reads
    (settled_cause itself (ReadText c.deref.result.now) (λ p. p ≡ c.args.path.now)
    (g.F.Files.read_faults c.args.files.now) (g.F.Files.read_faults c.read_front.new.files)
    (Err s) c.in_err-presentation.ensures))

pub returns-clause-step : goal.returns-clause-step
returns-clause-step g c =
    load_then (g.F.Files.content c.args.files.now) c.args.path.now c.in_ok-text.text.items c.accept.result
    c.in_ok-text.ensures.step c.in_ok-text.ensures.bound
    (text_then c.in_ok-text.text.items c.in_ok-presentation.presentation c.accept.result
    (subst (λ text. Settles itself (ReadText text)
    (Ok c.in_ok-presentation.presentation)) c.deref.ensures.value c.in_ok-presentation.ensures)
    c.accept.ensures)

pub returns-clause-reads : goal.returns-clause-reads
returns-clause-reads g c =
    reads_then {T = Vec ℕ Global} {U = Presentation} (IsReadStop c.args.path.now)
    (HasReadCause (λ p. p ≡ c.args.path.now)) (g.F.Files.content c.args.files.now)
    (g.F.Files.content c.read_front.new.files) (g.F.Files.read_faults c.args.files.now)
    (g.F.Files.read_faults c.read_front.new.files)
    c.in_ok-text.text c.accept.result c.in_ok-text.ensures.reads
    (settled_cause itself (Accept c.in_ok-presentation.presentation) (λ p. p ≡ c.args.path.now)
    (g.F.Files.read_faults c.args.files.now)
    (g.F.Files.read_faults c.read_front.new.files) c.accept.result c.accept.ensures)
