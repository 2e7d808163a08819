-- The words of `ring` with `--from` and a file, and those without.
use Rattle.std.proofs.Common.{◌≡◌, ◌∙◌, ℕ, Bool, true, false, List, [], ◌∷◌, ◌++◌, codes, refl, sym, ap}
use Rattle.std.specs.Prelude.{if◌then◌else◌, option_and_then}
use Rattle.std.specs.declared.option.Option.{Option}
use Rattle.std.specs.declared.option.Option.TheVariants.{None, Some}
use Rattle.std.specs.Option.{option_map}
use Rattle.std.specs.Str.{bytes_eq}
use Rattle.limits.specs.declared.TheConstants.{GREATEST_DEGREE}
use Rattle.pc_text.specs.Numerals.{numeral}
use Rattle.coho_words.specs.declared.ring_words.StageOption.{StageOption}
use Rattle.coho_words.specs.declared.ring_words.StageOption.TheVariants as option
use Rattle.coho_words.specs.Words.{Command, Ring, RingWords, StageFiles, command, is_path, no_ring_words, put}
use Rattle.coho_words.specs.Words.{ring_asked, ring_command, ring_of, saves_over, with_due, with_from}
use Rattle.coho_words.specs.Words.{with_operand, with_save, with_word, with_words}

abbrev Word : Type 0
Word = List ℕ

no_value : {A P : Type 0} (x : A) → ◌≡◌ {A = Option A} None (Some x) → P
no_value x e = absurd (let no = e in cc)

same_value : {A : Type 0} (x y : A) → ◌≡◌ {A = Option A} (Some x) (Some y) → x ≡ y
same_value x y e = cc

-- what the words have given, with this path of `--from`
abbrev from_is : Option Word → RingWords → RingWords
from_is from w = record w { files = record { from = from; save = w.files.save } }

-- `--from` is no path
no_path : (o : Option Word) → put o (codes "--from") ≡ None
no_path None = refl
no_path (Some other) = refl

-- a word that is not the path of `--from` gives the same with each path of it
one_word : (f : Option Word) (w : RingWords) (due : Option StageOption) (word : Word)
    → (due ≡ Some option.From → ⊥) → with_word (from_is f w) due word
    ≡ option_map (from_is f) (with_word w due word)
one_word f w (Some option.From) word other = absurd (other refl)
one_word f w (Some option.Save) word other = go (put w.files.save word)
  where
    go : (o : Option Word)
        → option_map (λ path. record (from_is f w) {
          files = record { from = f; save = Some path };
          due = None;
        }) o
        ≡ option_map (from_is f)
        (option_map (λ path. record w {
          files = record { from = w.files.from; save = Some path };
          due = None;
        }) o)
    go None = refl
    go (Some path) = refl
one_word f w None word other = first (bytes_eq word (codes "--from")) (bytes_eq word (codes "--save"))
  where
    operand : (path : Option Word) → with_operand (from_is f w) path word
        ≡ option_map (from_is f) (with_operand w path word)
    operand None = go (put None word)
      where
        go : (o : Option Word) → option_map (λ path. record (from_is f w) { path = Some path }) o
            ≡ option_map (from_is f) (option_map (λ path. record w { path = Some path }) o)
        go None = refl
        go (Some path) = refl
    operand (Some path) = go (put w.degree word)
      where
        go : (o : Option Word) → option_map (λ degree. record (from_is f w) { degree = Some degree }) o
            ≡ option_map (from_is f) (option_map (λ degree. record w { degree = Some degree }) o)
        go None = refl
        go (Some degree) = refl

    first : (a b : Bool)
        → (if a then Some (with_due option.From (from_is f w))
        else (if b then Some (with_due option.Save (from_is f w))
        else with_operand (from_is f w) w.path word))
        ≡ option_map (from_is f) (if a then Some (with_due option.From w)
        else (if b then Some (with_due option.Save w) else with_operand w w.path word))
    first true b = refl
    first false true = refl
    first false false = operand w.path

-- more words after none
none_more : (words : List Word) → with_words None words ≡ None
none_more [] = refl
none_more (word ∷ words) = none_more words

with_words_append : (found : Option RingWords) (before after : List Word)
    → with_words found (before ++ after) ≡ with_words (with_words found before) after
with_words_append found [] after = refl
with_words_append found (word ∷ before) after =
    with_words_append (option_and_then (λ w. with_word w w.due word) found) before after

module _ (from : Word) where
  -- what more words give is the same with and without the file
  record AreBoth (words : List Word) (w v : RingWords) : Type 0 where
    pub all : RingWords
    pub with_file : v ≡ from_is (Some from) all
    pub without : with_words (Some (from_is None w)) words ≡ Some (from_is None all)

  -- one word, where more words after it are known to do so
  module _ (word : Word) (words : List Word) (w v : RingWords)
      (e : with_words (Some (from_is (Some from) w)) (word ∷ words) ≡ Some v)
      (rest : (x : RingWords) → with_words (Some (from_is (Some from) x)) words ≡ Some v
      → AreBoth words x v) where
    with_one : (due : Option StageOption) → w.due ≡ due → (due ≡ Some option.From → ⊥)
        → (o : Option RingWords) → with_word w due word ≡ o → AreBoth (word ∷ words) w v
    with_one due is other None none =
        no_value v (sym (none_more words) ∙ sym (ap (λ o. with_words o words)
        (ap (λ d. with_word (from_is (Some from) w) d word) is ∙ one_word (Some from) w due word other
        ∙ ap (option_map (from_is (Some from))) none)) ∙ e)
    with_one due is other (Some x) some =
        let next : (f : Option Word) → with_word (from_is f w) w.due word ≡ Some (from_is f x)
        = λ f. ap (λ d. with_word (from_is f w) d word) is ∙ one_word f w due word other
        ∙ ap (option_map (from_is f)) some in
        let after : AreBoth words x v
        = rest x (sym (ap (λ o. with_words o words) (next (Some from))) ∙ e) in
        record {
          all = after.all;
          with_file = after.with_file;
          without = ap (λ o. with_words o words) (next None) ∙ after.without;
        }

    with_due_word : (due : Option StageOption) → w.due ≡ due → AreBoth (word ∷ words) w v
    with_due_word None is = with_one None is (λ n. no_value option.From n) (with_word w None word) refl
    with_due_word (Some option.Save) is =
        with_one (Some option.Save) is (λ n. absurd (let no = n in cc)) (with_word w (Some option.Save) word)
        refl
    with_due_word (Some option.From) is =
        no_value v (sym (none_more words) ∙ sym (ap (λ d. with_words (with_word (from_is (Some from) w) d
        word) words) is) ∙ e)

  more : (words : List Word) (w v : RingWords) → with_words (Some (from_is (Some from) w)) words ≡ Some v
      → AreBoth words w v
  more [] w v e = record {
    all = w;
    with_file = sym (same_value (from_is (Some from) w) v e);
    without = refl;
  }
  more (word ∷ words) w v e =
      with_due_word word words w v e (λ x. more words x v) w.due refl

  -- the command is the same but for the file
  abbrev Alike : Option Command → Command → Type 0
  Alike other c = (path : Word) × (n : ℕ) × (save : Option Word)
      × (c ≡ Ring path n (record { from = Some from; save = save }))
      × (other ≡ Some (Ring path n (record { from = None; save = save })))

  abbrev named : Word → Option Word → Option Word → ℕ → Command
  named path save f n = Ring path n (record { from = f; save = save })

  read_alike : (path : Word) (save : Option Word) (c : Command) (b : Bool) (o : Option ℕ)
      → (if b then None else option_map (named path save (Some from)) o) ≡ Some c
      → Alike (if b then None else option_map (named path save None) o) c
  read_alike path save c true o e = no_value c e
  read_alike path save c false None e = no_value c e
  read_alike path save c false (Some n) e =
      (path, n, save, sym (same_value (named path save (Some from) n) c e), refl)

  asked_alike : (due : Option StageOption) (path degree save : Option Word) (c : Command)
      → ring_asked due path degree (record { from = Some from; save = save }) ≡ Some c
      → Alike (ring_asked due path degree (record { from = None; save = save })) c
  asked_alike (Some due) path degree save c e = no_value c e
  asked_alike None None degree save c e = no_value c e
  asked_alike None (Some path) None save c e = no_value c e
  asked_alike None (Some path) (Some degree) save c e =
      read_alike path save c (saves_over save path) (numeral 1 GREATEST_DEGREE degree) e

  -- `--from` and the file, where no word is due and no file was given before
  given : (w : RingWords) (after : List Word) (v : RingWords) (due : Option StageOption) → w.due ≡ due
      → (o : Option Word) → w.files.from ≡ o
      → with_words (Some w) (codes "--from" ∷ from ∷ after) ≡ Some v
      → (all : RingWords) × (v ≡ from_is (Some from) all)
      × (with_words (Some w) after ≡ Some (from_is None all))
  given w after v (Some option.From) is o at e =
      no_value v (sym (none_more after) ∙ sym (ap (λ d. with_words (option_and_then
      (λ w. with_word w w.due from) (with_word w d (codes "--from"))) after) is
      ∙ ap (λ p. with_words (option_and_then (λ w. with_word w w.due from) (option_map (λ path. record w {
        files = record { from = Some path; save = w.files.save };
        due = None;
      }) p)) after) (no_path w.files.from)) ∙ e)
  given w after v (Some option.Save) is o at e =
      no_value v (sym (none_more after) ∙ sym (ap (λ d. with_words (option_and_then
      (λ w. with_word w w.due from) (with_word w d (codes "--from"))) after) is
      ∙ ap (λ p. with_words (option_and_then (λ w. with_word w w.due from) (option_map (λ path. record w {
        files = record { from = w.files.from; save = Some path };
        due = None;
      }) p)) after) (no_path w.files.save)) ∙ e)
  given w after v None is (Some other) at e =
      no_value v (sym (none_more after) ∙ sym (ap (λ d. with_words (option_and_then
      (λ w. with_word w w.due from) (with_word w d (codes "--from"))) after) is
      ∙ ap (λ f. with_words (option_map (λ path. record w {
        files = record { from = Some path; save = w.files.save };
        due = None;
      }) (put f from)) after) at) ∙ e)
  given w after v None is None at e = taken (is_path from)
      (sym (ap (λ d. with_words (option_and_then
      (λ w. with_word w w.due from) (with_word w d (codes "--from"))) after) is
      ∙ ap (λ f. with_words (option_map (λ path. record w {
        files = record { from = Some path; save = w.files.save };
        due = None;
      }) (put f from)) after) at) ∙ e)
    where
      taken : (b : Bool) → with_words (option_map (λ path. record w {
        files = record { from = Some path; save = w.files.save };
        due = None;
      }) (if b then Some from else None)) after ≡ Some v
          → (all : RingWords) × (v ≡ from_is (Some from) all)
          × (with_words (Some w) after ≡ Some (from_is None all))
      taken false h = no_value v (sym (none_more after) ∙ h)
      taken true h =
          let same : from_is (Some from) w ≡ record w {
            files = record { from = Some from; save = w.files.save };
            due = None;
          }
          = λ i. record w { files = record { from = Some from; save = w.files.save }; due = is i } in
          let self : w ≡ from_is None w
          = λ i. record w { files = record { from = at i; save = w.files.save } } in
          let both = more after w v (ap (λ x. with_words (Some x) after) same ∙ h) in
          (both.all, both.with_file, ap (λ x. with_words (Some x) after) self ∙ both.without)

  started : (found : Option RingWords) (after : List Word) (v : RingWords)
      → with_words found (codes "--from" ∷ from ∷ after) ≡ Some v
      → (all : RingWords) × (v ≡ from_is (Some from) all)
      × (with_words found after ≡ Some (from_is None all))
  started None after v e = no_value v (sym (none_more after) ∙ e)
  started (Some w) after v e = given w after v w.due refl w.files.from refl e

  ring_alike : (o p : Option RingWords) (c : Command)
      → ((v : RingWords) → o ≡ Some v → (all : RingWords) × (v ≡ from_is (Some from) all)
      × (p ≡ Some (from_is None all)))
      → option_and_then ring_of o ≡ Some c → Alike (option_and_then ring_of p) c
  ring_alike None p c h e = no_value c e
  ring_alike (Some v) p c h e =
      let found = h v refl in
      let all = found.0 in
      let alike = asked_alike all.due all.path all.degree all.files.save c
      (sym (ap ring_of found.1) ∙ e) in
      (alike.0, alike.1, alike.2, alike.3, ap (option_and_then ring_of) found.2 ∙ alike.4)

pub without_from : (before after : List Word) (from : Word) (c : Command)
    → command (codes "ring" ∷ (before ++ codes "--from" ∷ from ∷ after)) ≡ Some c
    → Alike from (command (codes "ring" ∷ (before ++ after))) c
without_from before after from c e =
    let start : Option RingWords = Some no_ring_words in
    ring_alike from (with_words start (before ++ codes "--from" ∷ from ∷ after))
    (with_words start (before ++ after)) c
    (λ v is.
    let found = started from (with_words start before) after v
    (sym (with_words_append start before (codes "--from" ∷ from ∷ after)) ∙ is) in
    (found.0, found.1, with_words_append start before after ∙ found.2)) e
