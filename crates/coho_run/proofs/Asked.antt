-- The words are read as their command says.
use Rattle.std.proofs.Common.{◌≡◌, ℕ, List, refl, sym, subst}
use Rattle.std.specs.declared.option.Option.{Option}
use Rattle.std.specs.declared.option.Option.TheVariants.{None, Some}
use Rattle.std.specs.declared.result.Result.TheVariants.{Ok, Err}
use Rattle.coho_words.specs.declared.words.Command.{Command as Named}
use Rattle.coho_words.specs.Faults.{IsWordsFault}
use Rattle.coho_words.specs.Words.{Command, asked, command}
use Rattle.coho_words.specs.declared.fault.WordsFault.{WordsFault}
use Rattle.coho_words.specs.declared.fault.WordsFault.TheVariants as fault
use Rattle.coho_steps.specs.declared.cause.Cause.TheVariants as cause
use Rattle.coho_steps.specs.declared.stop.Stop.TheVariants as stop
use Rattle.coho_steps.specs.Refusals.{words_refused}
use Rattle.coho_steps.specs.Steps.{OrRefuse}
use Rattle.coho_steps.specs.Stops.{Settles}
use Rattle.coho_run.specs.Outcome.{Ask}
use Rattle.coho_run.specs.Stopping.{stop_of}

some_asked : (o : Option Command) (found : Named) → o ≡ Some (asked found)
    → Settles asked (OrRefuse words_refused o) (Ok found)
some_asked o found e = subst (λ o. Settles asked (OrRefuse words_refused o) (Ok found)) (sym e)
    (λ files. (refl, refl))

none_asked : (o : Option Command) → o ≡ None
    → Settles asked (OrRefuse words_refused o) (Err (stop.Refused cause.Words))
none_asked o e = subst (λ o. Settles asked (OrRefuse words_refused o) (Err (stop.Refused cause.Words)))
    (sym e) (λ files. (refl, refl))

pub reads : (words : List (List ℕ)) (found : Named) → command words ≡ Some (asked found)
    → Settles asked (Ask words) (Ok found)
reads words found e = some_asked (command words) found e

refuses : (words : List (List ℕ)) → command words ≡ None
    → Settles asked (Ask words) (Err (stop.Refused cause.Words))
refuses words e = none_asked (command words) e

-- the words were not read
pub stopped : (words : List (List ℕ)) (e : WordsFault) → IsWordsFault (command words ≡ None) e
    → Settles asked (Ask words) (Err (stop_of e))
stopped words fault.Refused none = refuses words none
stopped words fault.Memory h = tt
