use Rattle.std.proofs.Common.{◌≤◌, arith, ap}
use mathlib.Core.Path.{subst}
use Rattle.fp_rows.specs.Values.{MatrixValue}
use Rattle.min_res.specs.Values.{ResolutionValue}
use Rattle.min_res.proofs.StageLists.{grown, this-one}
use Rattle.min_res.proofs.StageLaws.{exact-minimal, section-is}
use Rattle.min_res.proofs.resolution.Resolution.extend.Goals as goal

pub returns-clause-within : goal.returns-clause-within
returns-clause-within c = subst (λ n. n ≤ c.args.limit)
    (ap (λ (m : MatrixValue). m.width) c.in_ok-stage.ensures.stage.kernel_is) c.in_ok-stage.ensures.width

pub returns-clause-exact_minimal : goal.returns-clause-exact_minimal
returns-clause-exact_minimal c = exact-minimal c.args.self.now.group c.args.self.now.last

pub returns-clause-section : goal.returns-clause-section
returns-clause-section c = section-is c.args.self.now.group c.args.self.now.last

pub invariant_of-self-2 : goal.invariant_of-self-2
invariant_of-self-2 c = grown _ c.args.self.now.group _ _ c.self.inside.stages.items _
    c.self.inside.computed _ c.args.self.now.last c.args.limit c.in_ok-shared.shared c.in_ok-stage.stage
    c.self.invariant (omega arith)
    (ap (λ (v : ResolutionValue). v.group) c.self.view_is)
    (ap (λ (v : ResolutionValue). v.last) c.self.view_is) c.requires.few
    c.in_ok-stage.ensures.stage c.in_ok-stage.ensures.width c.requires.limit
    (this-one c.args.self.now.group c.args.self.now.last c.in_ok-stage.radical c.in_ok-stage.ensures.radical)
    c.in_ok-shared.ensures.ok c.in_ok-push.ensures.items
