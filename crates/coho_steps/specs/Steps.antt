-- A run is a chain of steps: each goes on with a value, or refuses, and leaves some files.
use Rattle.std.specs.Prelude.{◌≡◌, ◌⊎◌, Bool, true, false, List, ℕ}
use Rattle.std.specs.declared.option.Option.{Option}
use Rattle.std.specs.declared.option.Option.TheVariants.{None, Some}
use Rattle.std.specs.declared.result.Result.{Result}
use Rattle.std.specs.declared.result.Result.TheVariants.{Ok, Err}
use Rattle.coho_io.specs.Content.{Content}
use Rattle.power_commutator.specs.Presentations.{Presentation}
use Rattle.p_groups.specs.PGroups.{PGroup}
use Rattle.coho_steps.specs.declared.status.Status.{Status}
use Rattle.coho_steps.specs.Groups.{ForGroupOf}

infixr 10 ◌>>=◌
-- the status of a run that is refused, and its line on err
pub record Refusal : Type 0 where
  pub status : Status
  pub line : List ℕ

-- a step from some files: how it ends, and the files that it leaves
abbrev pub Step : Type 0 → Type 1
Step A = Content → Result A Refusal → Content → Type 0

-- the one step, and then the other with its value; a refusal ends the chain
abbrev pub ◌>>=◌ : {A B : Type 0} → Step A → (A → Step B) → Step B
◌>>=◌ {A} first next old end new =
    ((x : A) × (mid : Content) × first old (Ok x) mid × next x mid end new)
    ⊎ ((refusal : Refusal) × first old (Err refusal) new × (end ≡ Err refusal))

-- goes on with this value, and leaves the files
abbrev pub Gives : {A : Type 0} → A → Step A
Gives x old end new = (end ≡ Ok x) × (new ≡ old)

-- is refused, and leaves the files
abbrev pub Refuses : {A : Type 0} → Refusal → Step A
Refuses refusal old end new = (end ≡ Err refusal) × (new ≡ old)

-- the value that is there, and else a refusal
abbrev pub OrRefuse : {A : Type 0} → Refusal → Option A → Step A
OrRefuse refusal None = Refuses refusal
OrRefuse refusal (Some x) = Gives x

-- a refusal where the test is true
abbrev pub RefuseIf : Bool → Refusal → Step (Unit {0})
RefuseIf true refusal = Refuses refusal
RefuseIf false refusal = Gives tt

-- goes on with a value that belongs to the group of P, or is refused for it, and leaves the files
abbrev pub OnGroup : {A : Type 0} → Presentation → (PGroup → A → Type 0) → (PGroup → Refusal → Type 0)
    → Step A
OnGroup P Value Refused old (Ok x) new = ForGroupOf P (λ G. Value G x) × (new ≡ old)
OnGroup P Value Refused old (Err refusal) new = ForGroupOf P (λ G. Refused G refusal) × (new ≡ old)
