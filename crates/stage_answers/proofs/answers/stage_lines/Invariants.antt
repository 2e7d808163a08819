use Rattle.stage_answers.specs.Resolving.{TellsStages}
use Rattle.coho_steps.specs.Lines.{contents}
use Rattle.stage_answers.proofs.answers.stage_lines.Given as goal

abbrev pub invariant-loop-d : goal.invariant-loop-d
invariant-loop-d l = TellsStages l.resolution.group l.d (contents l.lines.items)
