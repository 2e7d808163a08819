-- Why words are not read.
use Rattle.std.specs.Prelude.{⊤}
use Rattle.clap.specs.declared.error.kind.ErrorKind.{ErrorKind}
use Rattle.coho_words.specs.declared.fault.WordsFault.{WordsFault}
use Rattle.clap.specs.declared.error.kind.ErrorKind.TheVariants as kind
use Rattle.coho_words.specs.declared.fault.WordsFault.TheVariants as fault

-- the fault of words that clap refuses: want of memory, or they are not those of a command
abbrev pub parse_fault : ErrorKind → WordsFault
parse_fault kind.OutOfMemory = fault.Memory
parse_fault _ = fault.Refused

-- words were refused, where P says why, or memory was wanting
abbrev pub IsWordsFault : Type 0 → WordsFault → Type 0
IsWordsFault P fault.Refused = P
IsWordsFault P fault.Memory = ⊤
