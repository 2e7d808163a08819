-- The program's stop at a fault of stages.
use Rattle.std.specs.Prelude.{◌≡◌, ⊤, IsSome}
use Rattle.std.specs.declared.option.Option.TheVariants.{Some}
use Rattle.stage_walk.specs.declared.fault.StagesFault.{StagesFault}
use Rattle.coho_words.specs.declared.ring_words.StageFiles.{StageFiles as NamedFiles}
use Rattle.coho_steps.specs.declared.stop.Stop.{Stop}
use Rattle.stage_walk.specs.declared.fault.StagesFault.TheVariants as fault
use Rattle.coho_steps.specs.declared.cause.Cause.TheVariants as cause
use Rattle.coho_steps.specs.declared.cause.FilePart.TheVariants as part
use Rattle.coho_steps.specs.declared.stop.Stop.TheVariants as stop

-- the path at which it came is named
abbrev pub HasPath : NamedFiles → StagesFault → Type 0
HasPath named fault.Read = IsSome named.from
HasPath named fault.Write = IsSome named.save
HasPath named _ = ⊤

-- the stop at it
abbrev pub IsStopAt : NamedFiles → StagesFault → Stop → Type 0
IsStopAt named fault.Header s = s ≡ stop.Refused (cause.StageFile part.Header)
IsStopAt named fault.Presentation s = s ≡ stop.Refused (cause.StageFile part.Presentation)
IsStopAt named (fault.Record d) s = s ≡ stop.Refused (cause.StageFile (part.Record d))
IsStopAt named (fault.TooLarge d X) s = s ≡ stop.Refused (cause.Stage d X)
IsStopAt named fault.Memory s = s ≡ stop.Memory
IsStopAt named fault.Read (stop.Read path) = named.from ≡ Some path
IsStopAt named fault.Read _ = ⊥
IsStopAt named fault.Write (stop.Save path) = named.save ≡ Some path
IsStopAt named fault.Write _ = ⊥
