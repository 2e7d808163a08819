use Rattle.std.proofs.Common.{◌+◌, List, ℕ, IfErr, length, ap, sym, ◌∙◌, refl, rules}
use mathlib.Core.Path.{subst}
use Rattle.resolution_stages.specs.Checks.{StageParts}
use Rattle.min_res.specs.RecordChecks.{IsNotAdopted}
use Rattle.min_res.proofs.AdoptedStage.{kept, candidate, stage-of}
use Rattle.min_res.proofs.adoption.adopted_stage.Goals as goal

pub test-requires-clause-candidate : goal.test-requires-clause-candidate
test-requires-clause-candidate g c =
    candidate c.args.algebra.now c.args.last.now.degree (g.S.StageParts.parts c.args.given.now)
    c.in_ok-boundary.boundary c.in_ok-kernel.kernel c.in_ok-boundary.ensures c.in_ok-kernel.ensures.kernel
    c.requires.parts.follows c.requires.parts.small

pub returns-in_err-test-clause-refused : goal.returns-in_err-test-clause-refused
returns-in_err-test-clause-refused g c =
    subst (λ (R : StageParts). IfErr c.from_residual-in_err-test.result
    (IsNotAdopted c.args.algebra.now c.args.last.now.degree R))
    (kept c.args.algebra.now c.args.last.now.degree (g.S.StageParts.parts c.args.given.now)
    c.in_ok-boundary.boundary c.in_ok-kernel.kernel c.in_ok-boundary.ensures c.in_ok-kernel.ensures.kernel)
    (search rules)

pub returns-clause-stage : goal.returns-clause-stage
returns-clause-stage g c =
    stage-of c.args.algebra.now c.args.last.now.degree (g.S.StageParts.parts c.args.given.now) _
    c.in_ok-boundary.boundary
    (sym (kept c.args.algebra.now c.args.last.now.degree (g.S.StageParts.parts c.args.given.now)
    c.in_ok-boundary.boundary c.in_ok-kernel.kernel c.in_ok-boundary.ensures c.in_ok-kernel.ensures.kernel)
    ∙ c.in_ok-test.ensures.passed)
    c.in_ok-boundary.ensures (c.in_ok-new.ensures.ok ∙ c.in_ok-kernel.ensures.kernel)
    (ap (λ n. n + 1) c.degree.ensures) (c.len.ensures
    ∙ ap (λ (x : List ℕ). length x) c.positions.ensures) refl
