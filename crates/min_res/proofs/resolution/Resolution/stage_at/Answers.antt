use Rattle.std.proofs.Common.{ap}
use Rattle.min_res.specs.Values.{ResolutionValue}
use Rattle.min_res.proofs.StageLists.{kept-at}
use Rattle.min_res.proofs.resolution.Resolution.stage_at.Goals as goal

pub returns-clause-stage : goal.returns-clause-stage
returns-clause-stage c = (kept-at _ _ _ c.self.inside.stages.items _ c.args.d _ c.index.result.now
    c.self.invariant (ap (λ (v : ResolutionValue). v.group) c.self.view_is)
    (ap (λ (v : ResolutionValue). v.last) c.self.view_is) c.requires c.index.ensures).0

pub returns-clause-small : goal.returns-clause-small
returns-clause-small c = (kept-at _ _ _ c.self.inside.stages.items _ c.args.d _ c.index.result.now
    c.self.invariant (ap (λ (v : ResolutionValue). v.group) c.self.view_is)
    (ap (λ (v : ResolutionValue). v.last) c.self.view_is) c.requires c.index.ensures).1
