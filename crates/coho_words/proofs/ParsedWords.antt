-- What a parse makes of words that are not empty and begin with no dash.
use Rattle.std.proofs.Common.{◌≡◌, ◌∙◌, ◌⊎◌, inl, inr, ⊎_elim, Bool, true, false, not, ◌&&◌, ◌==◌, ℕ, List}
use Rattle.std.proofs.Common.{[], ◌∷◌, sym, ap, ap₂, subst, refl, codes, true≢false}
use Rattle.std.specs.declared.option.Option.{Option}
use Rattle.std.specs.declared.option.Option.TheVariants.{None, Some}
use Rattle.std.specs.List.{list_all}
use Rattle.std.specs.Str.{bytes_eq}
use Rattle.clap.specs.Lexer.{long_of, short_of}
use Rattle.clap.specs.Walk.{Held, Row, Rule, rows_of, rule_of, Text, Walk, arg_by_index, first_of, idle}
use Rattle.clap.specs.Walk.{nothing_held, to_positional, value, walked}
use Rattle.clap.specs.Simple.{App, HasMatchesOf, Shape, app_of, app_of_fields, built, matches_of, new_app}
use Rattle.clap.specs.Simple.{new_rule, on_top, with_rule}
use Rattle.clap.specs.Matches.{first_value, found_of}
use Rattle.clap.proofs.WalkLemmas.{first_value-rows}
use Rattle.clap.specs.declared.builder.arg.Arg.{Arg}
use Rattle.clap.specs.declared.builder.command.Command.{Command}
use Rattle.clap.specs.declared.builder.command.Command.TheViews.{out-Command}
use Rattle.clap.specs.declared.parser.matches.ArgMatches.{ArgMatches}
use Rattle.clap.specs.Kinds.{HasKind, IsAmong, Kinds}
use Rattle.clap.specs.Faults.{defaults_fault, fault_of, is_simple_and_free, step_fault, turn_fault}
use Rattle.clap.specs.Faults.{walk_fault}
use Rattle.clap.specs.declared.error.kind.ErrorKind.{ErrorKind}
use Rattle.clap.specs.declared.error.kind.ErrorKind.TheVariants.{MissingRequiredArgument, OutOfMemory}
use Rattle.clap.specs.declared.error.kind.ErrorKind.TheVariants.{UnknownArgument}
use Rattle.clap.specs.declared.error.Error.{Error}
use Rattle.clap.specs.Values.{kind_of}
use Rattle.coho_words.specs.Words.{is_path, one_operand, two_operands}

pub both : (a b : Bool) → (a && b) ≡ true → (a ≡ true) × (b ≡ true)
both true b e = (refl, e)
both false b e = absurd (true≢false (sym e))

negated : (a : Bool) → not a ≡ true → a ≡ false
negated true e = absurd (true≢false (sym e))
negated false e = refl

-- ---- such a word is no flag

pub no_long : (word : Text) → is_path word ≡ true → long_of word ≡ None
no_long [] h = absurd (true≢false (sym h))
no_long (b ∷ bs) h = rw (negated (b == 45) h) refl

pub no_short : (word : Text) → is_path word ≡ true → short_of word ≡ None
no_short [] h = absurd (true≢false (sym h))
no_short (b ∷ bs) h = rw (negated (b == 45) h) refl

pub no_dashes : (word : Text) → is_path word ≡ true → bytes_eq word (45 ∷ 45 ∷ []) ≡ false
no_dashes [] h = absurd (true≢false (sym h))
no_dashes (b ∷ bs) h = rw (negated (b == 45) h) refl

-- ---- so it goes to a positional

abbrev pub at : Held → ℕ → Walk
at h place = record { held = h; waiting = idle; position = place; is_trailing = false; stopped = None }

module _ (word : Text) (plain : is_path word ≡ true) where
  pub walked_is : (c : List Rule) (h : Held) (place : ℕ)
      → walked c [] (at h place) word ≡ to_positional c (arg_by_index c place) word (at h place) h
  unfolding walked
  walked_is c h place = rw (no_dashes word plain, no_long word plain, no_short word plain) refl

  pub turn_is : (s : Shape) (h : Held) (place : ℕ)
      → turn_fault s [] (at h place) word ≡ step_fault s place h value
  turn_is s h place = rw (no_dashes word plain, no_long word plain, no_short word plain) refl

-- ---- a command with one positional, and one with two

abbrev pub positional : Text → Rule
positional id = record (new_rule id) { required = true }

abbrev none : App
none = on_top (λ s. record s { disable_help_flag = true }) (new_app (codes "coho"))

abbrev pub one : App
one = with_rule none (positional (codes "file"))

abbrev pub two : App
two = with_rule one (positional (codes "degree"))

abbrev pub first_held : Text → Held
first_held a = record { rows = []; pending = Some (codes "file", a ∷ []); skip = 0 }

first_walk : (a : Text) → is_path a ≡ true
    → walked (built one).top.rules [] (at nothing_held 1) a ≡ at (first_held a) 2
first_walk a plain = walked_is a plain (built one).top.rules nothing_held 1

one_taken : (name a : Text) → is_path a ≡ true → fault_of one (name ∷ a ∷ []) ≡ []
unfolding walk_fault defaults_fault
one_taken name a plain = rw (first_walk a plain, turn_is a plain (built one).top nothing_held 1) refl

one_found : (name a : Text) → is_path a ≡ true
    → first_of (codes "file") (matches_of one (name ∷ a ∷ [])) ≡ Some a
one_found name a plain = rw (first_walk a plain) refl

one_more : (name a b : Text) (rest : List Text) → is_path a ≡ true → is_path b ≡ true
    → fault_of one (name ∷ a ∷ b ∷ rest) ≡ UnknownArgument ∷ []
unfolding walk_fault defaults_fault
one_more name a b rest plain other =
    rw (
      first_walk a plain,
      turn_is a plain (built one).top nothing_held 1,
      turn_is b other (built one).top (first_held a) 2,
    ) refl

two_first : (a : Text) → is_path a ≡ true
    → walked (built two).top.rules [] (at nothing_held 1) a ≡ at (first_held a) 2
two_first a plain = walked_is a plain (built two).top.rules nothing_held 1

abbrev pub second_held : Text → Text → Held
second_held a b = (to_positional (built two).top.rules (arg_by_index (built two).top.rules 2) b
    (at (first_held a) 2) (first_held a)).held

two_second : (a b : Text) → is_path b ≡ true
    → walked (built two).top.rules [] (at (first_held a) 2) b ≡ at (second_held a b) 3
two_second a b plain = walked_is b plain (built two).top.rules (first_held a) 2

two_taken : (name a b : Text) → is_path a ≡ true → is_path b ≡ true → fault_of two (name ∷ a ∷ b ∷ []) ≡ []
unfolding walk_fault defaults_fault
two_taken name a b plain other =
    rw (
      two_first a plain,
      two_second a b other,
      turn_is a plain (built two).top nothing_held 1,
      turn_is b other (built two).top (first_held a) 2,
    ) refl

two_files : (name a b : Text) → is_path a ≡ true → is_path b ≡ true
    → first_of (codes "file") (matches_of two (name ∷ a ∷ b ∷ [])) ≡ Some a
two_files name a b plain other = rw (two_first a plain, two_second a b other) refl

two_degrees : (name a b : Text) → is_path a ≡ true → is_path b ≡ true
    → first_of (codes "degree") (matches_of two (name ∷ a ∷ b ∷ [])) ≡ Some b
two_degrees name a b plain other = rw (two_first a plain, two_second a b other) refl

two_fewer : (name a : Text) → is_path a ≡ true → fault_of two (name ∷ a ∷ []) ≡ MissingRequiredArgument ∷ []
unfolding walk_fault defaults_fault
two_fewer name a plain = rw (two_first a plain, turn_is a plain (built two).top nothing_held 1) refl

two_more : (name a b c : Text) (rest : List Text) → is_path a ≡ true → is_path b ≡ true → is_path c ≡ true
    → fault_of two (name ∷ a ∷ b ∷ c ∷ rest) ≡ UnknownArgument ∷ []
unfolding walk_fault defaults_fault
two_more name a b c rest plain other more =
    rw (
      two_first a plain,
      two_second a b other,
      turn_is a plain (built two).top nothing_held 1,
      turn_is b other (built two).top (first_held a) 2,
      turn_is c more (built two).top (second_held a b) 3,
    ) refl

-- ---- so the words after the name are those that the parse gives, where it gives any

pub wanting : (k : ErrorKind) → ◌≡◌ {A = Kinds} (k ∷ []) [] → ⊥
wanting k e = absurd (cc)

pub one_is : (words : List Text) → list_all is_path words ≡ true → fault_of one words ≡ [] → (path : Text)
    × (one_operand words ≡ Some path) × (first_of (codes "file") (matches_of one words) ≡ Some path)
unfolding walk_fault defaults_fault
one_is [] h e = absurd (wanting MissingRequiredArgument e)
one_is (name ∷ []) h e = absurd (wanting MissingRequiredArgument e)
one_is (name ∷ a ∷ []) h e = let p = both _ _ (both _ _ h).1 in (a, refl, one_found name a p.0)
one_is (name ∷ a ∷ b ∷ rest) h e =
    let p = both _ _ (both _ _ h).1 in
    absurd (wanting UnknownArgument (sym (one_more name a b rest p.0 (both _ _ p.1).0) ∙ e))

pub one_none : (words : List Text) (k : ErrorKind) → list_all is_path words ≡ true
    → IsAmong k (fault_of one words) → one_operand words ≡ None
one_none [] k h f = refl
one_none (name ∷ []) k h f = refl
one_none (name ∷ a ∷ []) k h f = let p = both _ _ (both _ _ h).1 in
    absurd (subst (IsAmong k) (one_taken name a p.0) f)
one_none (name ∷ a ∷ b ∷ rest) k h f = refl

pub two_are : (words : List Text) → list_all is_path words ≡ true → fault_of two words ≡ []
    → (path : Text) × (degree : Text) × (two_operands words ≡ Some (path, degree))
    × (first_of (codes "file") (matches_of two words) ≡ Some path)
    × (first_of (codes "degree") (matches_of two words) ≡ Some degree)
unfolding walk_fault defaults_fault
two_are [] h e = absurd (wanting MissingRequiredArgument e)
two_are (name ∷ []) h e = absurd (wanting MissingRequiredArgument e)
two_are (name ∷ a ∷ []) h e = let p = both _ _ (both _ _ h).1 in
    absurd (wanting MissingRequiredArgument (sym (two_fewer name a p.0) ∙ e))
two_are (name ∷ a ∷ b ∷ []) h e =
    let p = both _ _ (both _ _ h).1 in
    let q = (both _ _ p.1).0 in
    (a, b, refl, two_files name a b p.0 q, two_degrees name a b p.0 q)
two_are (name ∷ a ∷ b ∷ c ∷ rest) h e =
    let p = both _ _ (both _ _ h).1 in
    let q = both _ _ p.1 in
    absurd (wanting UnknownArgument (sym (two_more name a b c rest p.0 q.0 (both _ _ q.1).0) ∙ e))

pub two_none : (words : List Text) (k : ErrorKind) → list_all is_path words ≡ true
    → IsAmong k (fault_of two words) → two_operands words ≡ None
two_none [] k h f = refl
two_none (name ∷ []) k h f = refl
two_none (name ∷ a ∷ []) k h f = refl
two_none (name ∷ a ∷ b ∷ []) k h f =
    let p = both _ _ (both _ _ h).1 in
    absurd (subst (IsAmong k) (two_taken name a b p.0 (both _ _ p.1).0) f)
two_none (name ∷ a ∷ b ∷ c ∷ rest) k h f = refl

-- ---- the same of the commands as they are built, and of what their getters read

module _ (fresh disabled command : Command) (new : app_of fresh ≡ new_app (codes "coho"))
    (set : out-Command disabled ≡ record (out-Command fresh) { disable_help_flag = true }) (file : Arg)
    (is_file : rule_of file ≡ positional (codes "file"))
    (added : app_of command ≡ with_rule (app_of disabled) (rule_of file)) where
  pub one_built : app_of command ≡ one
  one_built = added ∙ ap₂ with_rule (ap app_of_fields set
      ∙ ap (on_top (λ s. record s { disable_help_flag = true })) new) is_file

  pub two_built : (longer : Command) (degree : Arg) → rule_of degree ≡ positional (codes "degree")
      → app_of longer ≡ with_rule (app_of command) (rule_of degree) → app_of longer ≡ two
  two_built longer degree is_degree more = more ∙ ap₂ with_rule one_built is_degree

pub first_in : (m : ArgMatches) (id : Text) (rows : List Row) (word : Text) → rows_of (found_of m) ≡ rows
    → first_of id rows ≡ Some word → first_value (found_of m) id ≡ Some word
first_in m id rows word is first = first_value-rows (found_of m) id ∙ ap (first_of id) is ∙ first

module _ (words : List Text) (plain : list_all is_path words ≡ true) (a : App) where
  pub one_read : a ≡ one → (m : ArgMatches) → (is_simple_and_free a ≡ true → fault_of a words ≡ [])
      → HasMatchesOf a words m
      → (file : Text) × (one_operand words ≡ Some file)
      × (first_value (found_of m) (codes "file") ≡ Some file)
  one_read same m free has =
      let found = one_is words plain (rw same at free refl) in
      let rows = (rw same at has refl).0 in
      (found.0, found.1, first_in m (codes "file") (matches_of one words) found.0 rows found.2)

  pub one_refused : a ≡ one → (e : Error) → (is_simple_and_free a ≡ true → HasKind (fault_of a words) e)
      → (kind_of e ≡ OutOfMemory) ⊎ (one_operand words ≡ None)
  one_refused same e fails = ⊎_elim (λ h. inl h) (λ h. inr (one_none words (kind_of e) plain h))
      (rw same at fails refl)

  pub two_read : a ≡ two → (m : ArgMatches) → (is_simple_and_free a ≡ true → fault_of a words ≡ [])
      → HasMatchesOf a words m
      → (file : Text) × (degree : Text) × (two_operands words ≡ Some (file, degree))
      × (first_value (found_of m) (codes "file") ≡ Some file)
      × (first_value (found_of m) (codes "degree") ≡ Some degree)
  two_read same m free has =
      let found = two_are words plain (rw same at free refl) in
      let rows = (rw same at has refl).0 in (
        found.0,
        found.1,
        found.2,
        first_in m (codes "file") (matches_of two words) found.0 rows found.3,
        first_in m (codes "degree") (matches_of two words) found.1 rows found.4,
      )

  pub two_refused : a ≡ two → (e : Error) → (is_simple_and_free a ≡ true → HasKind (fault_of a words) e)
      → (kind_of e ≡ OutOfMemory) ⊎ (two_operands words ≡ None)
  two_refused same e fails = ⊎_elim (λ h. inl h) (λ h. inr (two_none words (kind_of e) plain h))
      (rw same at fails refl)

some_is : {A : Type 0} (x y : A) → ◌≡◌ {A = Option A} (Some x) (Some y) → x ≡ y
some_is x y e = cc

pub two_given : (o : Option (Text × Text)) (f d : Option Text) (x y a b : Text) → o ≡ Some (x, y) → f ≡ Some x
    → d ≡ Some y → f ≡ Some a → d ≡ Some b → o ≡ Some (a, b)
two_given o f d x y a b is first second file degree =
    let same = some_is x a (sym first ∙ file) in
    let other = some_is y b (sym second ∙ degree) in
    is ∙ ap (λ u. Some (u, y)) same ∙ ap (λ v. Some (a, v)) other
