-- How a resolution to a degree is found, or refused.
use Rattle.std.specs.Prelude.{◌≡◌, ℕ, List, ⊤}
use Rattle.power_commutator.specs.Presentations.{Presentation}
use Rattle.p_groups.specs.PGroups.{PGroup}
use Rattle.min_res.specs.Values.{ResolutionValue}
use Rattle.min_res.specs.declared.fault.ResFault.{ResFault}
use Rattle.coho_steps.specs.declared.stop.Stop.{Stop}
use Rattle.coho_steps.specs.Groups.{IsTableOf}
use Rattle.stage_answers.specs.Stages.{Summary, stage_at, stages_below}
use Rattle.stage_walk.specs.Dimensions.{Fit, IsFirstAbove}
use Rattle.stage_answers.specs.Answers.{stage_line, stage_lines}
use Rattle.min_res.specs.declared.fault.ResFault.TheVariants as fault
use Rattle.coho_steps.specs.declared.cause.Cause.TheVariants as cause
use Rattle.coho_steps.specs.declared.stop.Stop.TheVariants as stop

-- the fault names the first stage to degree n that does not fit, or memory was wanting
abbrev pub IsStageFault : PGroup → ℕ → ResFault → Type 0
IsStageFault G n (fault.TooLarge d X) = IsFirstAbove G n d X
IsStageFault G n fault.Memory = ⊤

-- the program's stop at a fault
abbrev pub stop_of : ResFault → Stop
stop_of (fault.TooLarge d X) = stop.Refused (cause.Stage d X)
stop_of fault.Memory = stop.Memory

-- the stages to degree n, whose dimensions fit, for the group of P
pub record IsResolutionTo (P : Presentation) (n : ℕ) (r : ResolutionValue) : Type 0 where
  pub is_table : IsTableOf P r.group
  pub last : r.last ≡ n
  pub fit : Fit r.group n

-- the line of the stage of degree d
abbrev pub TellsStage : PGroup → ℕ → List ℕ → Type 0
TellsStage G d line = (stage : Summary) × (stage ≡ stage_at G d) × (line ≡ stage_line stage)

-- the lines of the stages of the degrees below c
abbrev pub TellsStages : PGroup → ℕ → List (List ℕ) → Type 0
TellsStages G c lines =
    (stages : List Summary) × (stages ≡ stages_below G c) × (lines ≡ stage_lines stages)
