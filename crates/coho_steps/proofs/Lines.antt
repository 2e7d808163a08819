-- The lines that a call gave, and calls over files that agree with what is told.
use Rattle.std.proofs.Common.{List, ℕ, Vec, Global}
use Rattle.std.specs.declared.option.Option.{Option}
use Rattle.std.specs.declared.result.Result.{Result}
use Rattle.coho_io.specs.Content.{Content}
use Rattle.power_commutator.specs.Presentations.{Presentation}
use Rattle.coho_steps.specs.declared.stop.Stop.{Stop}
use Rattle.coho_steps.specs.Told.{OfFiles}
use Rattle.coho_steps.specs.Steps.{Step}
use Rattle.coho_steps.specs.Stops.{Meets, Settles}
use Rattle.coho_steps.specs.Lines.{contents}
use Rattle.coho_steps.proofs.Chain.{settled_meets}
use Rattle.coho_steps.proofs.Seen.{some_files}

abbrev pub Lines : Type 0
Lines = Vec (Vec ℕ Global) Global

abbrev pub lines_of : Lines → List (List ℕ)
lines_of lines = contents lines.items

abbrev pub itself : Presentation → Presentation
itself P = P

-- a call met its step, over files that agree
abbrev pub MeetsOf : {T A : Type 0} → (T → A) → Step A → Option Content → Result T Stop → Type 0
MeetsOf view step known r = OfFiles known (λ files. Meets view step files files r)

-- a call that reads no file met its step
pub settled_given : {T A : Type 0} (known : Option Content) (view : T → A) (step : Step A) (r : Result T Stop)
    → Settles view step r → MeetsOf view step known r
settled_given known view step r h =
    let some = some_files known in (some.0, some.1, settled_meets view step some.0 r h)
