-- What a parse makes of words that are a file, the degree and the number of a class, and elements.
use Rattle.std.proofs.Common.{◌≡◌, ◌∙◌, ◌⊎◌, inl, inr, ⊎_elim, subst, true, false, ◌≤◌, ℕ, List, [], ◌∷◌}
use Rattle.std.proofs.Common.{◌++◌, append_assoc, length, refl, ap, ap₂, sym, codes, arith}
use Rattle.std.proofs.lemmas.List.{append-nil}
use Rattle.std.specs.List.{list_all}
use Rattle.std.specs.Prelude.{fold, IfErr, IfOk, IsSomeAnd}
use Rattle.std.specs.declared.option.Option.{Option}
use Rattle.std.specs.declared.option.Option.TheVariants.{None, Some}
use Rattle.std.specs.declared.result.Result.{Result}
use Rattle.std.specs.declared.result.Result.TheVariants.{Err, Ok}
use Rattle.std.proofs.lemmas.Bool.Decides.{nat_tests}
use Rattle.clap.specs.Lexer.{usize_max}
use Rattle.clap.specs.Kinds.{FailsBy, IsAmong, or_else, range_kinds, values_kinds}
use Rattle.clap.specs.Faults.{fault_of, defaults_fault, is_simple_and_free, turn_fault, walk_fault}
use Rattle.clap.specs.Matches.{found_of}
use Rattle.clap.specs.Simple.{App, HasMatchesOf, app_of, built, matches_of, with_rule}
use Rattle.clap.specs.declared.builder.arg.Arg.{Arg}
use Rattle.clap.specs.declared.builder.command.Command.{Command}
use Rattle.clap.specs.declared.builder.range.ValueRange.{ValueRange}
use Rattle.clap.specs.Values.{kind_of}
use Rattle.clap.specs.declared.error.Error.{Error}
use Rattle.clap.specs.declared.error.kind.ErrorKind.{ErrorKind}
use Rattle.clap.specs.declared.parser.matches.ArgMatches.{ArgMatches}
use Rattle.clap.specs.Walk.{Held, Rule, rows_of, rule_of, Text, Walk, walked, to_positional, arg_by_index}
use Rattle.clap.specs.Walk.{nothing_held, all_of, first_of, walk, positional as several}
use Rattle.clap.specs.declared.error.kind.ErrorKind.TheVariants.{MissingRequiredArgument, OutOfMemory}
use Rattle.clap.proofs.WalkLemmas.{raw_values-rows}
use Rattle.coho_words.specs.Operands.{HoldsPlace}
use Rattle.coho_words.specs.Words.{is_path, place_operands}
use Rattle.coho_words.proofs.ParsedWords.{at, both, first_held, no_dashes, no_long, no_short, positional}
use Rattle.coho_words.proofs.ParsedWords.{second_held, turn_is, two, first_in, walked_is, wanting}
use Rattle.clap.specs.declared.builder.value_parser.ValueParser.TheVariants as parser

-- ---- a command with three positionals and one that takes several words

abbrev pub at_least_one : ValueRange
at_least_one = record { start_inclusive = 1; end_inclusive = usize_max }

abbrev pub repeated : Text → Rule
repeated id = record (positional id) { range = Some at_least_one }

abbrev pub three : App
three = with_rule two (positional (codes "class"))

abbrev pub four : App
four = with_rule three (repeated (codes "element"))

abbrev rules : List Rule
rules = (built four).top.rules

abbrev third_held : Text → Text → Text → Held
third_held a b c =
    (to_positional rules (arg_by_index rules 3) c (at (second_held a b) 3) (second_held a b)).held

abbrev settled_held : Text → Text → Text → Held
settled_held a b c =
    (to_positional rules (arg_by_index rules 4) c (at (third_held a b c) 4) (third_held a b c)).held

module _ (a b c : Text) where
  -- the words from the fourth on are held
  abbrev holding : List Text → Held
  holding es = record (settled_held a b c) { pending = Some (codes "element", es) }

  abbrev among : List Text → Walk
  among es =
      record { held = holding es; waiting = several; position = 4; is_trailing = false; stopped = None }

  first_turn : is_path a ≡ true → walked rules [] (at nothing_held 1) a ≡ at (first_held a) 2
  first_turn plain = walked_is a plain rules nothing_held 1

  second_turn : is_path b ≡ true → walked rules [] (at (first_held a) 2) b ≡ at (second_held a b) 3
  second_turn plain = walked_is b plain rules (first_held a) 2

  third_turn : is_path c ≡ true → walked rules [] (at (second_held a b) 3) c ≡ at (third_held a b c) 4
  third_turn plain = walked_is c plain rules (second_held a b) 3

  fourth_turn : (e : Text) → is_path e ≡ true → walked rules [] (at (third_held a b c) 4) e ≡ among (e ∷ [])
  fourth_turn e plain = walked_is e plain rules (third_held a b c) 4

  next_turn : (es : List Text) (e : Text) → is_path e ≡ true
      → walked rules [] (among es) e ≡ among (es ++ e ∷ [])
  unfolding walked
  next_turn es e plain = rw (no_dashes e plain, no_long e plain, no_short e plain) refl

  next_fault : (es : List Text) (e : Text) → is_path e ≡ true
      → turn_fault (built four).top [] (among es) e ≡ []
  next_fault es e plain = rw (no_dashes e plain, no_long e plain, no_short e plain) refl

  all_turns : (es rest : List Text) → list_all is_path rest ≡ true
      → fold (walked rules []) (among es) rest ≡ among (es ++ rest)
  all_turns es [] plain = ap among (sym (append-nil es))
  all_turns es (e ∷ rest) plain =
      let p = both _ _ plain in
      ap (λ w. fold (walked rules []) w rest) (next_turn es e p.0)
      ∙ all_turns (es ++ e ∷ []) rest p.1
      ∙ ap among (append_assoc es (e ∷ []) rest)

  no_fault : (es rest : List Text) → list_all is_path rest ≡ true
      → walk_fault (built four).top [] (among es) rest ≡ []
  unfolding walk_fault
  no_fault es [] plain = refl
  no_fault es (e ∷ rest) plain =
      let p = both _ _ plain in
      ap (λ k. or_else k (walk_fault (built four).top [] (walked rules [] (among es) e) rest))
      (next_fault es e p.0)
      ∙ ap (λ w. walk_fault (built four).top [] w rest) (next_turn es e p.0)
      ∙ no_fault (es ++ e ∷ []) rest p.1

  -- ---- such words are taken

  no_value_fault : (es : List Text) → values_kinds false parser.String es ≡ []
  no_value_fault [] = refl
  no_value_fault (e ∷ es) = no_value_fault es

  in_range : (n : ℕ) → 1 ≤ n → n ≤ usize_max → range_kinds 1 usize_max n ≡ []
  in_range n some few = grind (arith, nat_tests)

  module _ (name e : Text) (rest : List Text) (at_a : is_path a ≡ true) (at_b : is_path b ≡ true)
      (at_c : is_path c ≡ true) (at_e : is_path e ≡ true) (plain : list_all is_path rest ≡ true) where
    abbrev words : List Text
    words = name ∷ a ∷ b ∷ c ∷ e ∷ rest

    walk_is : walk rules [] nothing_held (a ∷ b ∷ c ∷ e ∷ rest) ≡ among (e ∷ rest)
    walk_is = rw (first_turn at_a, second_turn at_b, third_turn at_c, fourth_turn e at_e)
        (all_turns (e ∷ []) rest plain)

    no_walk_fault : walk_fault (built four).top [] (at nothing_held 1) (a ∷ b ∷ c ∷ e ∷ rest) ≡ []
    unfolding walk_fault
    no_walk_fault = rw (
      first_turn at_a,
      second_turn at_b,
      third_turn at_c,
      fourth_turn e at_e,
      turn_is a at_a (built four).top nothing_held 1,
      turn_is b at_b (built four).top (first_held a) 2,
      turn_is c at_c (built four).top (second_held a b) 3,
      turn_is e at_e (built four).top (third_held a b c) 4,
    ) (no_fault (e ∷ []) rest plain)

    found_first : first_of (codes "file") (matches_of four words) ≡ Some a
    found_first = rw walk_is refl

    found_second : first_of (codes "degree") (matches_of four words) ≡ Some b
    found_second = rw walk_is refl

    found_third : first_of (codes "class") (matches_of four words) ≡ Some c
    found_third = rw walk_is refl

    found_rest : all_of (codes "element") (matches_of four words) ≡ Some (e ∷ rest)
    found_rest = rw walk_is refl

    taken : length (e ∷ rest) ≤ usize_max → fault_of four words ≡ []
    unfolding defaults_fault
    taken few = rw (no_walk_fault, walk_is) (ap₂ (λ x y. or_else (or_else x y) [])
        (in_range (length (e ∷ rest)) (omega arith) few) (no_value_fault rest))

-- ---- three words are too few

none_given : (name : Text) → fault_of four (name ∷ []) ≡ MissingRequiredArgument ∷ []
unfolding walk_fault defaults_fault
none_given name = refl

one_given : (name a : Text) → is_path a ≡ true → fault_of four (name ∷ a ∷ []) ≡ MissingRequiredArgument ∷ []
unfolding walk_fault defaults_fault
one_given name a at_a = rw (first_turn a a a at_a, turn_is a at_a (built four).top nothing_held 1) refl

two_given : (name a b : Text) → is_path a ≡ true → is_path b ≡ true
    → fault_of four (name ∷ a ∷ b ∷ []) ≡ MissingRequiredArgument ∷ []
unfolding walk_fault defaults_fault
two_given name a b at_a at_b =
    rw (
      first_turn a b b at_a,
      second_turn a b b at_b,
      turn_is a at_a (built four).top nothing_held 1,
      turn_is b at_b (built four).top (first_held a) 2,
    ) refl

three_given : (name a b c : Text) → is_path a ≡ true → is_path b ≡ true → is_path c ≡ true
    → fault_of four (name ∷ a ∷ b ∷ c ∷ []) ≡ MissingRequiredArgument ∷ []
unfolding walk_fault defaults_fault
three_given name a b c at_a at_b at_c =
    rw (
      first_turn a b c at_a,
      second_turn a b c at_b,
      third_turn a b c at_c,
      turn_is a at_a (built four).top nothing_held 1,
      turn_is b at_b (built four).top (first_held a) 2,
      turn_is c at_c (built four).top (second_held a b) 3,
    ) refl

-- ---- so the words after the name are those that the parse gives, where it gives any

four_are : (words : List Text) (m : ArgMatches) → list_all is_path words ≡ true → fault_of four words ≡ []
    → rows_of (found_of m) ≡ matches_of four words → HoldsPlace words m
unfolding walk_fault defaults_fault
four_are [] m h e is = absurd (wanting MissingRequiredArgument e)
four_are (name ∷ []) m h e is = absurd (wanting MissingRequiredArgument (sym (none_given name) ∙ e))
four_are (name ∷ a ∷ []) m h e is = let p = both _ _ (both _ _ h).1 in
    absurd (wanting MissingRequiredArgument (sym (one_given name a p.0) ∙ e))
four_are (name ∷ a ∷ b ∷ []) m h e is =
    let p = both _ _ (both _ _ h).1 in
    let q = both _ _ p.1 in
    absurd (wanting MissingRequiredArgument (sym (two_given name a b p.0 q.0) ∙ e))
four_are (name ∷ a ∷ b ∷ c ∷ []) m h e is =
    let p = both _ _ (both _ _ h).1 in
    let q = both _ _ p.1 in
    let r = both _ _ q.1 in
    absurd (wanting MissingRequiredArgument (sym (three_given name a b c p.0 q.0 r.0) ∙ e))
four_are (name ∷ a ∷ b ∷ c ∷ d ∷ rest) m h e is =
    let p = both _ _ (both _ _ h).1 in
    let q = both _ _ p.1 in
    let r = both _ _ q.1 in
    let s = both _ _ r.1 in
    let words = name ∷ a ∷ b ∷ c ∷ d ∷ rest in
    record {
      file = a;
      degree = b;
      class = c;
      elements = d ∷ rest;
      are = refl;
      has_file = first_in m (codes "file") (matches_of four words) a is
          (found_first a b c name d rest p.0 q.0 r.0 s.0 s.1);
      has_degree = first_in m (codes "degree") (matches_of four words) b is
          (found_second a b c name d rest p.0 q.0 r.0 s.0 s.1);
      has_class = first_in m (codes "class") (matches_of four words) c is
          (found_third a b c name d rest p.0 q.0 r.0 s.0 s.1);
      has_elements = raw_values-rows (found_of m) (codes "element") ∙ ap (all_of (codes "element")) is
          ∙ found_rest a b c name d rest p.0 q.0 r.0 s.0 s.1;
    }

four_none : (words : List Text) (k : ErrorKind) → list_all is_path words ≡ true → length words ≤ usize_max
    → IsAmong k (fault_of four words) → place_operands words ≡ None
four_none [] k h few f = refl
four_none (name ∷ []) k h few f = refl
four_none (name ∷ a ∷ []) k h few f = refl
four_none (name ∷ a ∷ b ∷ []) k h few f = refl
four_none (name ∷ a ∷ b ∷ c ∷ []) k h few f = refl
four_none (name ∷ a ∷ b ∷ c ∷ d ∷ rest) k h few f =
    let p = both _ _ (both _ _ h).1 in
    let q = both _ _ p.1 in
    let r = both _ _ q.1 in
    let s = both _ _ r.1 in
    absurd (subst (IsAmong k) (taken a b c name d rest p.0 q.0 r.0 s.0 s.1 (omega arith)) f)

module _ (words : List Text) (plain : list_all is_path words ≡ true) (a : App) (same : a ≡ four) where
  pub four_read : (r : Result ArgMatches Error) → (is_simple_and_free a ≡ true → FailsBy (fault_of a words) r)
      → IfOk r (HasMatchesOf a words) → IfOk r (HoldsPlace words)
  four_read (Ok m) fails has = four_are words m plain (rw same at fails refl) (rw same at has refl).0
  four_read (Err e) fails has = tt

  pub four_refused : (r : Result ArgMatches Error) → length words ≤ usize_max
      → (is_simple_and_free a ≡ true → FailsBy (fault_of a words) r)
      → IfErr r (λ e. (kind_of e ≡ OutOfMemory) ⊎ (place_operands words ≡ None))
  four_refused (Ok m) few fails = tt
  four_refused (Err e) few fails = ⊎_elim (λ h. inl h) (λ h. inr (four_none words (kind_of e) plain few h))
      (rw same at fails refl)

-- ---- the same of the command as it is built

pub four_built : (second third last : Command) (class element : Arg) → app_of second ≡ two
    → rule_of class ≡ positional (codes "class") → rule_of element ≡ repeated (codes "element")
    → app_of third ≡ with_rule (app_of second) (rule_of class)
    → app_of last ≡ with_rule (app_of third) (rule_of element) → app_of last ≡ four
four_built second third last class element is is_class is_element adds ends =
    ends ∙ ap₂ with_rule (adds ∙ ap₂ with_rule is is_class) is_element

pub is_repeated : (arg repeats : Arg) (id : Text) → rule_of arg ≡ positional id
    → repeats ≡ record arg { num_vals = repeats.num_vals }
    → IsSomeAnd repeats.num_vals (λ r. r ≡ at_least_one) → rule_of repeats ≡ repeated id
is_repeated arg repeats id is changed range =
    ap rule_of changed ∙ ap₂ with_range is (known repeats.num_vals range)
  where
    with_range : Rule → Option ValueRange → Rule
    with_range rule range = record rule { range = range }

    known : (o : Option ValueRange) → IsSomeAnd o (λ r. r ≡ at_least_one) → o ≡ Some at_least_one
    known None h = absurd h
    known (Some r) h = ap (λ r. Some r) h
