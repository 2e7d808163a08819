-- The program's stop at words that are not read.
use Rattle.coho_words.specs.declared.fault.WordsFault.{WordsFault}
use Rattle.coho_words.specs.declared.fault.WordsFault.TheVariants as fault
use Rattle.coho_steps.specs.declared.cause.Cause.TheVariants as cause
use Rattle.coho_steps.specs.declared.stop.Stop.{Stop}
use Rattle.coho_steps.specs.declared.stop.Stop.TheVariants as stop

-- the program's stop at a fault
abbrev pub stop_of : WordsFault → Stop
stop_of fault.Refused = stop.Refused cause.Words
stop_of fault.Memory = stop.Memory
