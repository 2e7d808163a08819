-- What the words come to, over the files that there are.
use Rattle.std.specs.Prelude.{◌≡◌, ℕ, List, []}
use Rattle.std.specs.declared.result.Result.{Result}
use Rattle.std.specs.declared.result.Result.TheVariants.{Ok, Err}
use Rattle.std.specs.List.{concat}
use Rattle.coho_io.specs.Content.{Content, file}
use Rattle.power_commutator.specs.Presentations.{Presentation}
use Rattle.coho_steps.specs.declared.status.Status.{Status}
use Rattle.coho_steps.specs.Steps.{◌>>=◌, Refusal, Step, OrRefuse}
use Rattle.coho_steps.specs.Refusals.{words_refused}
use Rattle.sample_groups.specs.Samples.{sample}
use Rattle.coho_words.specs.Words.{Command, Group, Resolve, Ring, Check, Value, Sample, command}
use Rattle.coho_steps.specs.Loading.{Accept, Load}
use Rattle.coho_steps.specs.Lines.{line}
use Rattle.stage_answers.specs.Answers.{AnswerGroup, AnswerResolve, AnswerCheck}
use Rattle.ring_answers.specs.Answers.{AnswerRing, AnswerValue, AnswerSample}
use Rattle.coho_steps.specs.declared.status.Status.TheVariants as status

-- the steps

-- the command of the words
abbrev pub Ask : List (List ℕ) → Step Command
Ask words = OrRefuse words_refused (command words)

-- the answers

abbrev pub Answer : Command → Presentation → Step (List (List ℕ))
Answer (Group path) P = AnswerGroup P
Answer (Resolve path n) P = AnswerResolve P n
Answer (Ring path n files) P = AnswerRing P n files
Answer (Check path stages) P = AnswerCheck P stages
Answer (Value path k es) P = AnswerValue P k es
Answer (Sample k) P = AnswerSample P k

-- the consistent presentation that a command is asked about: that of its file, or the one that a number names
abbrev pub Given : Command → Step Presentation
Given (Group path) = Load path
Given (Resolve path n) = Load path
Given (Ring path n files) = Load path
Given (Check path stages) = Load path
Given (Value path k es) = Load path
Given (Sample k) = Accept (sample k)

-- the answer to a command: its presentation is had, and then the command is answered on it
abbrev pub Reply : Command → Step (List (List ℕ))
Reply asked = do
  P ← Given asked
  Answer asked P

abbrev pub Comes : List (List ℕ) → Step (List (List ℕ))
Comes words = do
  asked ← Ask words
  Reply asked

-- how a run ends: its status, its bytes for out, its line for err, and the files afterwards
pub record Ending : Type 0 where
  pub status : Status
  pub out : List ℕ
  pub line : List ℕ
  pub files : Content

abbrev pub ending : Result (List (List ℕ)) Refusal → Content → Ending
ending (Ok lines) files =
    record { status = status.Answered; out = concat lines; line = []; files = files }
ending (Err refusal) files =
    record { status = refusal.status; out = []; line = refusal.line; files = files }

-- the outcome of the words over these files
abbrev pub Outcome : List (List ℕ) → Content → Ending → Type 0
Outcome words old e =
    (end : Result (List (List ℕ)) Refusal) × (new : Content)
    × Comes words old end new
    × (e ≡ ending end new)
