use Rattle.std.proofs.Common.{sym, subst}
use Rattle.min_res.specs.Defined.{IsStageAt}
use Rattle.stage_answers.specs.Stages.{HasRows}
use Rattle.stage_answers.proofs.StageRows.{has_rows, line_of}
use Rattle.stage_answers.proofs.answers.line_at.Goals as goal

pub stage_line-requires : goal.stage_line-requires
stage_line-requires c = subst HasRows (sym c.deref.ensures)
    (has_rows c.args.resolution.now.group c.args.d c.stage_at.result.now.value c.stage_at.ensures.stage)

pub returns : goal.returns
returns c = line_of c.args.resolution.now.group c.args.d c.deref.result.now
    (subst (IsStageAt c.args.resolution.now.group c.args.d)
    (sym c.deref.ensures) c.stage_at.ensures.stage) c.stage_line.result c.stage_line.ensures
