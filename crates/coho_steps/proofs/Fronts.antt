-- A file that was read to its end, or to one byte more than a text may have.
use Rattle.std.proofs.Common.{ℕ, ◌+◌, List, take, refl, ap}
use Rattle.std.specs.declared.option.Option.{Option}
use Rattle.std.specs.declared.option.Option.TheVariants.{None, Some}
use Rattle.std.specs.declared.result.Result.TheVariants.{Ok, Err}
use Rattle.std.specs.Option.{option_map}
use Rattle.limits.specs.declared.TheConstants.{LONGEST_TEXT}
use Rattle.coho_io.specs.Content.{Content}
use Rattle.coho_io.specs.Pieces.{IsPart}
use Rattle.coho_steps.specs.declared.stop.Stop.{Stop}
use Rattle.coho_steps.specs.Steps.{Step, OrRefuse}
use Rattle.coho_steps.specs.Stops.{Meets, IsReadStop}
use Rattle.coho_steps.specs.Refusals.{read_refused}
use Rattle.coho_steps.specs.declared.stop.Stop.TheVariants as stop

-- the bytes of a file, or the refusal of a read where it is missing
abbrev ReadsAs : List ℕ → Option (List ℕ) → Content → List ℕ → Type 0
ReadsAs path o told text = OrRefuse (read_refused path) (option_map (take (LONGEST_TEXT + 1)) o) told
    (Ok text) told

pub part_read : (o : Option (List ℕ)) (path text : List ℕ) (told : Content) → IsPart o 0 (LONGEST_TEXT + 1) text
    → ReadsAs path o told text
part_read None path text told part = absurd part
part_read (Some bytes) path text told part = (ap (λ t. Ok t) part, refl)

-- a fault says nothing of the step
pub fault_meets : {T A : Type 0} (view : T
    → A) (step : Step A) (old new : Content) (path : List ℕ) (before now : List ℕ → ℕ) (s : Stop)
    → IsReadStop path before now s → Meets view step old new (Err s)
fault_meets view step old new path before now (stop.Refused why) h = absurd h
fault_meets view step old new path before now (stop.Read p) h = tt
fault_meets view step old new path before now stop.Write h = tt
fault_meets view step old new path before now (stop.Save other) h = tt
fault_meets view step old new path before now stop.Memory h = tt
