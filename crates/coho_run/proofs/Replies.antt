-- The answers to commands, as the calls make them.
use Rattle.std.proofs.Common.{◌≡◌, List, ℕ, sym, subst}
use Rattle.std.specs.declared.option.Option.{Option}
use Rattle.std.specs.declared.option.Option.TheVariants.{None, Some}
use Rattle.std.specs.declared.result.Result.{Result}
use Rattle.std.specs.declared.result.Result.TheVariants.{Ok, Err}
use Rattle.coho_io.specs.Content.{Content}
use Rattle.power_commutator.specs.Presentations.{Presentation}
use Rattle.coho_steps.specs.declared.stop.Stop.{Stop}
use Rattle.coho_words.specs.declared.words.Command.{Command as Named}
use Rattle.coho_run.specs.Outcome.{Ask, Given, Answer, Reply, Comes}
use Rattle.coho_steps.specs.Loading.{Load}
use Rattle.coho_steps.specs.Stops.{Settles}
use Rattle.coho_words.specs.Words.{Command, Group, Resolve, Ring, Check, Value, Sample, asked, path_of}
use Rattle.coho_steps.proofs.Chain.{after_ok, at_stop, settled_meets}
use Rattle.coho_steps.proofs.Seen.{some_files}
use Rattle.coho_steps.proofs.Lines.{Lines, lines_of, itself, MeetsOf}

same_path : (p q : List ℕ) → ◌≡◌ {A = Option (List ℕ)} (Some p) (Some q) → p ≡ q
same_path p q e = cc

module _ (known : Option Content) where
  pub ask_stop : (words : List (List ℕ)) (s : Stop) → Settles asked (Ask words) (Err s)
      → MeetsOf lines_of (Comes words) known (Err s)
  ask_stop words s h =
      let some = some_files known in (
        some.0,
        some.1,
        at_stop asked lines_of (Ask words) Reply some.0 some.0 s
            (settled_meets asked (Ask words) some.0 (Err s) h),
      )

  pub ask_then : (words : List (List ℕ)) (c : Named) (r : Result Lines Stop)
      → Settles asked (Ask words) (Ok c) → MeetsOf lines_of (Reply (asked c)) known r
      → MeetsOf lines_of (Comes words) known r
  ask_then words c r h k = (k.0, k.1, after_ok asked lines_of (Ask words) Reply k.0 k.0 k.0 c r (h k.0) k.2)

  pub given_stop : (named : Command) (s : Stop) → MeetsOf itself (Given named) known (Err s)
      → MeetsOf lines_of (Reply named) known (Err s)
  given_stop named s h = (h.0, h.1, at_stop itself lines_of (Given named) (Answer named) h.0 h.0 s h.2)

  -- the file of a command was read
  pub given_load : (named : Command) (path : List ℕ) (r : Result Presentation Stop)
      → path_of named ≡ Some path
      → MeetsOf itself (Load path) known r → MeetsOf itself (Given named) known r
  given_load (Group p) path r e h = subst (λ p. MeetsOf itself (Load p) known r) (sym (same_path p path e)) h
  given_load (Resolve p n) path r e h = subst (λ p. MeetsOf itself (Load p) known r)
      (sym (same_path p path e)) h
  given_load (Ring p n files) path r e h = subst (λ p. MeetsOf itself (Load p) known r)
      (sym (same_path p path e)) h
  given_load (Check p stages) path r e h = subst (λ p. MeetsOf itself (Load p) known r)
      (sym (same_path p path e)) h
  given_load (Value p k es) path r e h = subst (λ p. MeetsOf itself (Load p) known r)
      (sym (same_path p path e)) h
  given_load (Sample k) path r e h = absurd (let no : ◌≡◌ {A = Option (List ℕ)} None (Some path) = e in cc)
