-- What the clauses of a run say of its files and sinks.
use Rattle.std.specs.Prelude.{◌≡◌, ◌⊎◌, ℕ, List, ⊤}
use Rattle.std.specs.declared.option.Option.{Option}
use Rattle.std.specs.declared.option.Option.TheVariants.{Some}
use Rattle.std.specs.Io.KnownBytes.{Appends}
use Rattle.coho_io.specs.Causes.{Rose}
use Rattle.coho_io.specs.Bytes.{AppendsFront}
use Rattle.coho_io.specs.Content.{Content, file}
use Rattle.coho_steps.specs.declared.status.Status.{Status}
use Rattle.coho_steps.specs.Refusals.{read_refused, save_refused, write_refused, memory_refused}
use Rattle.coho_run.specs.InTurn.{MayRead, MaySave}
use Rattle.coho_words.specs.Words.{IsRead, IsSaved}
use Rattle.coho_run.specs.Outcome.{Ending, Outcome}
use Rattle.coho_steps.specs.Told.{Leaves, OfFiles, Tells}
use Rattle.coho_steps.specs.declared.status.Status.TheVariants as status

-- every path but those that the words save to stays, where files are told
abbrev pub Stays : List (List ℕ) → Option Content → Option Content → Type 0
Stays words before now = (told : Content) → before ≡ Some told
    → (left : Content) × (now ≡ Some left)
    × ((path : List ℕ) → (IsSaved words path → ⊥) → file left path ≡ file told path)

-- every status but those of a fault and of want of memory
abbrev pub IsSettled : Status → Type 0
IsSettled status.Read = ⊥
IsSettled status.Write = ⊥
IsSettled status.Memory = ⊥
IsSettled _ = ⊤

-- a status with which a run may have written to out
abbrev pub MayWrite : Status → Type 0
MayWrite status.Answered = ⊤
MayWrite status.Write = ⊤
MayWrite status.Memory = ⊤
MayWrite _ = ⊥

-- a run ended so: with this status, these files, these bytes on out and this line on err
pub record EndsAs
    (e : Ending) (answer : Status) (files files_now : Option Content)
    (out out_now err err_now : Option (List ℕ)) (err_faults err_faults_now : ℕ) : Type 0 where
  pub same_status : answer ≡ e.status
  pub same_files : Leaves files files_now e.files
  pub on_out : Appends out out_now e.out
  pub on_err : Tells err err_now err_faults err_faults_now e.line

-- the outcome is an answer, of which a run wrote the first bytes to out
abbrev pub AnswersFront : List (List ℕ) → Option (List ℕ) → Option (List ℕ) → Content → Type 0
AnswersFront words old new files =
    (e : Ending) × Outcome words files e × (e.status ≡ status.Answered) × AppendsFront old new e.out

-- the bytes that a run may have written to out before it stopped: the first bytes of the answer,
-- or nothing
abbrev pub WroteFront : List (List ℕ) → Option (List ℕ) → Option (List ℕ) → Content → Type 0
WroteFront words old new files = (old ≡ new) ⊎ AnswersFront words old new files

-- the outcome is an answer
abbrev pub Answers : List (List ℕ) → Content → Type 0
Answers words files = (e : Ending) × Outcome words files e × (e.status ≡ status.Answered)

-- the lines of which a run that wants memory may have written the first bytes: that of want of
-- memory, that of the outcome, that of a read that failed, that of a call on a file to save to that
-- failed, and that of a write of an answer that failed
abbrev pub MayTell : List (List ℕ) → (ReadFailed SaveFailed : List ℕ → Type 0) → Type 0 → List ℕ → Content
    → Type 0
MayTell words ReadFailed SaveFailed WriteFailed line files =
    (line ≡ memory_refused.line)
    ⊎ (((e : Ending) × Outcome words files e × (line ≡ e.line))
    ⊎ (((path : List ℕ) × ReadFailed path × (line ≡ (read_refused path).line))
    ⊎ (((path : List ℕ) × SaveFailed path × (line ≡ (save_refused path).line))
    ⊎ (WriteFailed × Answers words files × (line ≡ write_refused.line)))))

-- the sink gained the first bytes of such a line
abbrev pub ToldFront :
    List (List ℕ) → (ReadFailed SaveFailed : List ℕ → Type 0) → Type 0 → Option (List ℕ) → Option (List ℕ)
    → Content → Type 0
ToldFront words ReadFailed SaveFailed WriteFailed old new files =
    (line : List ℕ) × AppendsFront old new line × MayTell words ReadFailed SaveFailed WriteFailed line files

-- what a run that wants memory has written, on out and on err
pub record WantsMemory
    (words : List (List ℕ)) (ReadFailed SaveFailed : List ℕ → Type 0) (WriteFailed : Type 0)
    (out out_now err err_now : Option (List ℕ)) (files : Content) : Type 0 where
  pub on_out : WroteFront words out out_now files
  pub on_err : ToldFront words ReadFailed SaveFailed WriteFailed err err_now files

-- a read of a path failed that the words may read: its count rose
abbrev pub IsReadFault : List (List ℕ) → Option Content → (before now : List ℕ → ℕ) → List ℕ → Type 0
IsReadFault words known before now path = MayRead words known path × Rose (before path) (now path)

-- the same of a call on a path that the words may save to
abbrev pub IsSaveFault : List (List ℕ) → Option Content → (before now : List ℕ → ℕ) → List ℕ → Type 0
IsSaveFault words known before now path = MaySave words known path × Rose (before path) (now path)

-- no count of a path that the words' command reads rose
abbrev pub NoReadFault : List (List ℕ) → (List ℕ → ℕ) → (List ℕ → ℕ) → Type 0
NoReadFault words before now = (path : List ℕ) → IsRead words path → Rose (before path) (now path) → ⊥

-- the same of a path that the words save to
abbrev pub NoSaveFault : List (List ℕ) → (List ℕ → ℕ) → (List ℕ → ℕ) → Type 0
NoSaveFault words before now = (path : List ℕ) → IsSaved words path → Rose (before path) (now path) → ⊥

-- a write to out failed: its count rose, its line was told, and out has the first bytes of the answer
pub record FailsOnOut
    (words : List (List ℕ)) (known : Option Content) (out out_now err err_now : Option (List ℕ))
    (faults faults_now err_faults err_faults_now : ℕ) : Type 0 where
  pub rose : Rose faults faults_now
  pub line : Tells err err_now err_faults err_faults_now write_refused.line
  pub front : OfFiles known (AnswersFront words out out_now)

-- a call on a file that the words save to failed: its count rose, its line was told, and out has gained
-- nothing
pub record FailsOnSave
    (words : List (List ℕ)) (known : Option Content) (out out_now err err_now : Option (List ℕ))
    (writes writes_now : List ℕ → ℕ) (err_faults err_faults_now : ℕ) : Type 0 where
  pub path : List ℕ
  pub fault : IsSaveFault words known writes writes_now path
  pub line : Tells err err_now err_faults err_faults_now (save_refused path).line
  pub unwritten : out_now ≡ out
