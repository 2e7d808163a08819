-- Calls one after another end as their steps do.
use Rattle.std.proofs.Common.{◌≡◌, List, ℕ, refl, sym, subst, inl, inr, arith}
use Rattle.std.specs.declared.option.Option.{Option}
use Rattle.std.specs.declared.result.Result.{Result}
use Rattle.std.specs.declared.result.Result.TheVariants.{Ok, Err}
use Rattle.std.specs.Result.{IfErr}
use Rattle.coho_io.specs.Causes.{Rose}
use Rattle.coho_io.specs.Content.{Content}
use Rattle.coho_steps.specs.declared.stop.Stop.{Stop}
use Rattle.coho_steps.specs.Steps.{Refusal, Step, ◌>>=◌}
use Rattle.coho_steps.specs.Stops.{refusal_of, Meets, Settles, HasReadCause, IsReadStop, IsRefused, OnlyReads}
use Rattle.coho_steps.specs.declared.stop.Stop.TheVariants as stop

module _ {T U A B : Type 0} (seen : T → A) (view : U → B) (first : Step A) (next : A → Step B) where
  -- the first call ended well, and the rest as it does
  pub after_ok : (old mid new : Content) (x : T) (r : Result U Stop) → first old (Ok (seen x)) mid
      → Meets view (next (seen x)) mid new r → Meets view (first >>= next) old new r
  after_ok old mid new x (Ok y) h k = inl (seen x, mid, h, k)
  after_ok old mid new x (Err (stop.Refused why)) h k = inl (seen x, mid, h, k)
  after_ok old mid new x (Err (stop.Read path)) h k = tt
  after_ok old mid new x (Err stop.Write) h k = tt
  after_ok old mid new x (Err (stop.Save path)) h k = tt
  after_ok old mid new x (Err stop.Memory) h k = tt

  -- the first call stopped
  pub at_stop : (old new : Content) (s : Stop) → Meets seen first old new (Err s)
      → Meets view (first >>= next) old new (Err s)
  at_stop old new (stop.Refused why) h = inr (refusal_of why, h, refl)
  at_stop old new (stop.Read path) h = tt
  at_stop old new stop.Write h = tt
  at_stop old new (stop.Save path) h = tt
  at_stop old new stop.Memory h = tt

  -- the same of calls that read and write nothing
  pub settled_after_ok : (x : T) (r : Result U Stop) → Settles seen first (Ok x)
      → Settles view (next (seen x)) r → Settles view (first >>= next) r
  settled_after_ok x (Ok y) h k = λ files. inl (seen x, files, h files, k files)
  settled_after_ok x (Err (stop.Refused why)) h k = λ files. inl (seen x, files, h files, k files)
  settled_after_ok x (Err (stop.Read path)) h k = absurd k
  settled_after_ok x (Err stop.Write) h k = absurd k
  settled_after_ok x (Err (stop.Save path)) h k = absurd k
  settled_after_ok x (Err stop.Memory) h k = tt

  pub settled_at_stop : (s : Stop) → Settles seen first (Err s) → Settles view (first >>= next) (Err s)
  settled_at_stop (stop.Refused why) h = λ files. inr (refusal_of why, h files, refl)
  settled_at_stop (stop.Read path) h = absurd h
  settled_at_stop stop.Write h = absurd h
  settled_at_stop (stop.Save path) h = absurd h
  settled_at_stop stop.Memory h = tt

module _ {T A : Type 0} (view : T → A) (step : Step A) where
  pub settled_meets : (files : Content) (r : Result T Stop) → Settles view step r
      → Meets view step files files r
  settled_meets files (Ok x) h = h files
  settled_meets files (Err (stop.Refused why)) h = h files
  settled_meets files (Err (stop.Read path)) h = tt
  settled_meets files (Err stop.Write) h = tt
  settled_meets files (Err (stop.Save path)) h = tt
  settled_meets files (Err stop.Memory) h = tt

  settled_stop : (Reads : List ℕ → Type 0) (before now : List ℕ → ℕ) (s : Stop) → Settles view step (Err s)
      → HasReadCause Reads before now s
  settled_stop Reads before now (stop.Refused why) h = tt
  settled_stop Reads before now (stop.Read path) h = absurd h
  settled_stop Reads before now stop.Write h = absurd h
  settled_stop Reads before now (stop.Save path) h = absurd h
  settled_stop Reads before now stop.Memory h = tt

  -- a call that reads and writes nothing stopped at no fault
  pub settled_cause : (Reads : List ℕ → Type 0) (before now : List ℕ → ℕ) (r : Result T Stop)
      → Settles view step r → IfErr r (HasReadCause Reads before now)
  settled_cause Reads before now (Ok x) h = tt
  settled_cause Reads before now (Err s) h = settled_stop Reads before now s h

  -- a call that wants memory meets every step
  pub memory_settles : (s : Stop) → s ≡ stop.Memory → Settles view step (Err s)
  memory_settles s e = subst (λ s. Settles view step (Err s)) (sym e) tt

  -- a call that is refused as its step is
  pub refused_settles : (Q : Refusal → Type 0) (s : Stop) → IsRefused Q s
      → ((r : Refusal) → Q r → (files : Content) → step files (Err r) files) → Settles view step (Err s)
  refused_settles Q (stop.Refused why) h f = f (refusal_of why) h
  refused_settles Q (stop.Read path) h f = absurd h
  refused_settles Q stop.Write h f = absurd h
  refused_settles Q (stop.Save path) h f = absurd h
  refused_settles Q stop.Memory h f = tt

-- a path of the first kind is one of the second
pub cause_weaker : (Reads Others : List ℕ → Type 0) (f : (path : List ℕ) → Reads path
    → Others path) (before now : List ℕ → ℕ) (s : Stop) → HasReadCause Reads before now s
    → HasReadCause Others before now s
cause_weaker Reads Others f before now (stop.Refused why) h = tt
cause_weaker Reads Others f before now (stop.Read path) h = (f path.now h.0, h.1)
cause_weaker Reads Others f before now stop.Write h = absurd h
cause_weaker Reads Others f before now (stop.Save path) h = absurd h
cause_weaker Reads Others f before now stop.Memory h = tt

pub path_cause : (path : List ℕ) (before now : List ℕ → ℕ) (s : Stop) → IsReadStop path before now s
    → HasReadCause (λ p. p ≡ path) before now s
path_cause path before now (stop.Refused why) h = absurd h
path_cause path before now (stop.Read p) h = (h.0, subst (λ q. Rose (before q) (now q)) (sym h.0) h.1)
path_cause path before now stop.Write h = absurd h
path_cause path before now (stop.Save other) h = absurd h
path_cause path before now stop.Memory h = tt

-- what calls one after another read

abbrev Causes : Type 1
Causes = (List ℕ → ℕ) → (List ℕ → ℕ) → Stop → Type 0

module _ {T U : Type 0} (First All : Causes) (content content_now : Option Content) (before now : List ℕ
    → ℕ) where
  -- the call that reads stopped, and so does the whole
  pub reads_stop : (s : Stop) → OnlyReads {T = T} First content content_now before now (Err s)
      → (First before now s → All before now s) → OnlyReads {T = U} All content content_now before now (Err s)
  reads_stop s h f = record { content = h.content; later = h.later; cause = f h.cause }

  -- it ended well, and then nothing was read
  pub reads_then : (x : T) (r : Result U Stop) → OnlyReads First content content_now before now (Ok x)
      → IfErr r (All before now) → OnlyReads All content content_now before now r
  reads_then x r h cause = record { content = h.content; later = h.later; cause = cause }

-- nothing was read
pub reads_nothing : {T : Type 0} (All : Causes) (content : Option Content) (before : List ℕ
    → ℕ) (r : Result T Stop) → IfErr r (All before before) → OnlyReads All content content before before r
reads_nothing All content before r cause =
    record { content = refl; later = λ path. omega arith; cause = cause }
