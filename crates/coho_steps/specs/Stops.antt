-- Where the program's own calls stop: at a refusal, at a fault, or for want of memory.
use Rattle.std.specs.Prelude.{◌≡◌, ℕ, List, ⊤}
use Rattle.std.specs.declared.option.Option.{Option}
use Rattle.std.specs.declared.result.Result.{Result}
use Rattle.std.specs.declared.result.Result.TheVariants.{Ok, Err}
use Rattle.std.specs.Result.{IfErr}
use Rattle.coho_io.specs.Causes.{NoneFell, Rose}
use Rattle.coho_io.specs.Content.{Content}
use Rattle.coho_steps.specs.declared.cause.Cause.{Cause}
use Rattle.coho_steps.specs.declared.cause.FilePart.{FilePart}
use Rattle.stage_records.specs.Walks.{WalkFault}
use Rattle.coho_steps.specs.declared.stop.Stop.{Stop}
use Rattle.coho_steps.specs.Steps.{Refusal, Step}
use Rattle.coho_steps.specs.Refusals.{words_refused, read_refused, length_refused, text_refused}
use Rattle.coho_steps.specs.Refusals.{order_refused, test_refused, stage_refused, subgroup_refused}
use Rattle.coho_steps.specs.Refusals.{element_refused, class_refused, file_refused, write_refused}
use Rattle.coho_steps.specs.Refusals.{save_refused, memory_refused}
use Rattle.coho_steps.specs.declared.cause.Cause.TheVariants as cause
use Rattle.coho_steps.specs.declared.cause.FilePart.TheVariants as part
use Rattle.stage_records.specs.Walks as walks
use Rattle.coho_steps.specs.declared.stop.Stop.TheVariants as stop

-- what of a stage file is refused
abbrev pub fault_at : FilePart → WalkFault
fault_at part.Header = walks.Header
fault_at part.Presentation = walks.Presentation
fault_at (part.Record d) = walks.Record d

-- the refusal of a cause
abbrev pub refusal_of : Cause → Refusal
refusal_of cause.Words = words_refused
refusal_of cause.Length = length_refused
refusal_of (cause.Text kind line column) =
    text_refused (record { kind = kind; line = line; column = column })
refusal_of cause.Order = order_refused
refusal_of (cause.Inconsistent name) = test_refused name
refusal_of (cause.StageFile part) = file_refused (fault_at part)
refusal_of (cause.Stage d X) = stage_refused d X
refusal_of (cause.SubgroupStage i d X) = subgroup_refused i d X
refusal_of (cause.Element E n) = element_refused E n
refusal_of (cause.Class d b) = class_refused d b

-- the status and the line of a stop
abbrev pub told : Stop → Refusal
told (stop.Refused why) = refusal_of why
told (stop.Read path) = read_refused path.now
told stop.Write = write_refused
told (stop.Save path) = save_refused path.now
told stop.Memory = memory_refused

-- A call ended as its step does, from these files to those; of a fault, and of want of memory,
-- this says nothing.
abbrev pub Meets : {T A : Type 0} → (T → A) → Step A → Content → Content → Result T Stop → Type 0
Meets view step old new (Ok x) = step old (Ok (view x)) new
Meets view step old new (Err (stop.Refused why)) = step old (Err (refusal_of why)) new
Meets view step old new (Err (stop.Read path)) = ⊤
Meets view step old new (Err stop.Write) = ⊤
Meets view step old new (Err (stop.Save path)) = ⊤
Meets view step old new (Err stop.Memory) = ⊤

-- A call that reads and writes nothing ended as its step does, or for want of memory.
abbrev pub Settles : {T A : Type 0} → (T → A) → Step A → Result T Stop → Type 0
Settles view step (Ok x) = (files : Content) → step files (Ok (view x)) files
Settles view step (Err (stop.Refused why)) = (files : Content) → step files (Err (refusal_of why)) files
Settles view step (Err (stop.Read path)) = ⊥
Settles view step (Err stop.Write) = ⊥
Settles view step (Err (stop.Save path)) = ⊥
Settles view step (Err stop.Memory) = ⊤

-- a call stopped at a fault of reading only where it reads the path and its count rose, and at no
-- fault of writing
abbrev pub HasReadCause : (List ℕ → Type 0) → (List ℕ → ℕ) → (List ℕ → ℕ) → Stop → Type 0
HasReadCause Reads before now (stop.Read p) = Reads p.now × Rose (before p.now) (now p.now)
HasReadCause Reads before now stop.Write = ⊥
HasReadCause Reads before now (stop.Save p) = ⊥
HasReadCause Reads before now _ = ⊤

-- the same, or at a fault of saving to a path that it saves to, whose count rose
abbrev pub HasCause : (Reads Saves : List ℕ → Type 0) → (reads reads_now writes writes_now : List ℕ → ℕ)
    → Stop → Type 0
HasCause Reads Saves reads reads_now writes writes_now (stop.Save p) =
    Saves p.now × Rose (writes p.now) (writes_now p.now)
HasCause Reads Saves reads reads_now writes writes_now s = HasReadCause Reads reads reads_now s

-- a stop at a fault of reading leaves what is told of the files
abbrev pub KeepsAtRead : (told told_now : Option Content) → Stop → Type 0
KeepsAtRead told told_now (stop.Read path) = told_now ≡ told
KeepsAtRead told told_now _ = ⊤

-- a call stopped only at a fault of reading the path, whose count rose, or for want of memory
abbrev pub IsReadStop : List ℕ → (List ℕ → ℕ) → (List ℕ → ℕ) → Stop → Type 0
IsReadStop path before now (stop.Read p) = (p.now ≡ path) × Rose (before path) (now path)
IsReadStop path before now stop.Memory = ⊤
IsReadStop path before now _ = ⊥

-- a call stopped only at a fault of writing, as the count rose, or for want of memory
abbrev pub IsWriteStop : ℕ → ℕ → Stop → Type 0
IsWriteStop before now stop.Write = Rose before now
IsWriteStop before now stop.Memory = ⊤
IsWriteStop before now _ = ⊥

-- a call stopped at a refusal of which Q holds, or for want of memory
abbrev pub IsRefused : (Refusal → Type 0) → Stop → Type 0
IsRefused Q (stop.Refused why) = Q (refusal_of why)
IsRefused Q (stop.Read path) = ⊥
IsRefused Q stop.Write = ⊥
IsRefused Q (stop.Save path) = ⊥
IsRefused Q stop.Memory = ⊤

-- a call only read files: what is told of them stays, no count fell, and where it stopped, the cause is told
pub record OnlyReads {T : Type 0}
    (IsCause : (List ℕ → ℕ) → (List ℕ → ℕ) → Stop → Type 0)
    (told told_now : Option Content) (before now : List ℕ → ℕ) (r : Result T Stop) : Type 0 where
  pub content : told_now ≡ told
  pub later : NoneFell before now
  pub cause : IfErr r (IsCause before now)
