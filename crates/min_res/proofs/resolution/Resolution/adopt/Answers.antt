use Rattle.std.proofs.Common.{◌≤◌, ◌^◌, arith, ap}
use Rattle.std.specs.Prelude.{None}
use Rattle.min_res.specs.Values.{ResolutionValue}
use Rattle.min_res.proofs.StageLists.{grown, none-some}
use Rattle.min_res.proofs.resolution.Resolution.adopt.Goals as goal

pub invariant_of-self-2 : goal.invariant_of-self-2
invariant_of-self-2 g c =
    let limit : 268435456 ≤ 2 ^ 28 = omega arith in
    grown _ c.args.self.now.group _ None c.self.inside.stages.items _
    c.self.inside.computed c.self.inside.computed c.args.self.now.last 268435456
    c.in_ok-next.next c.in_ok-stage.stage c.self.invariant (omega arith)
    (ap (λ (v : ResolutionValue). v.group) c.self.view_is)
    (ap (λ (v : ResolutionValue). v.last) c.self.view_is) c.requires.few
    c.in_ok-stage.ensures.stage c.in_ok-stage.ensures.width limit (λ B e. none-some B e)
    c.in_ok-next.ensures.ok c.in_ok-push.ensures.items
