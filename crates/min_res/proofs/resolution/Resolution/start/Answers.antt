use Rattle.min_res.proofs.StageLists.{started}
use Rattle.min_res.proofs.resolution.Resolution.start.Goals as goal

pub invariant_of-result : goal.invariant_of-result
invariant_of-result c = started c.args.a c.new-stages.result.items c.push.new.self.items c.in_ok-first.first
    c.in_ok-first_stage.field-0 c.in_ok-first_stage.ensures.stage c.in_ok-first_stage.ensures.small
    c.in_ok-first.ensures.ok c.new-stages.ensures.items c.in_ok-push.ensures.items
