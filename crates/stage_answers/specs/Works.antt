-- A call that reads one stage file and saves another.
use Rattle.std.specs.Prelude.{◌≡◌, ℕ, List}
use Rattle.std.specs.declared.option.Option.{Option}
use Rattle.std.specs.declared.option.Option.TheVariants.{Some}
use Rattle.std.specs.declared.result.Result.{Result}
use Rattle.std.specs.Result.{IfErr}
use Rattle.coho_io.specs.Content.{Content}
use Rattle.coho_steps.specs.declared.stop.Stop.{Stop}
use Rattle.coho_steps.specs.Told.{WhereTold, OfTold, FromAny}
use Rattle.coho_steps.specs.Steps.{Step}
use Rattle.coho_steps.specs.Stops.{HasCause, KeepsAtRead, Meets}

-- A call that reads one stage file and saves another, each where it is named, ended as its step does. It
-- stopped at no fault but one of these two, and at one of saving only where it comes to save. What it may
-- have left holds of the files, and a read that failed left them.
pub record Works {T A : Type 0}
    (view : T → A) (step : Step A) (from save : Option (List ℕ)) (MayLeave : Content → Content → Type 0)
    (Saves : Content → Type 0) (known now : Option Content)
    (reads reads_now writes writes_now : List ℕ → ℕ) (r : Result T Stop) : Type 0 where
  pub ends : FromAny from known now (λ files left. Meets view step files left r)
  pub cause : IfErr r (HasCause (λ path. from ≡ Some path)
      (λ path. (save ≡ Some path) × WhereTold known Saves) reads reads_now writes writes_now)
  pub left : OfTold known now MayLeave
  pub kept : IfErr r (KeepsAtRead known now)
