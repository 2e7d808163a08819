-- The command of the words, by its name and the words after it.
use Rattle.std.proofs.Common.{◌≡◌, ◌∙◌, ◌⊎◌, inl, inr, Bool, true, false, not, ◌&&◌, ◌==◌, ℕ, List, [], ◌∷◌}
use Rattle.std.proofs.Common.{length, cond, sym, ap, subst, refl, codes, arith, true≢false}
use Rattle.std.proofs.lemmas.Slice.Eq.{bytes_eq-Decides}
use Rattle.std.proofs.lemmas.Bool.Decides.{nat_tests}
use Rattle.std.specs.declared.option.Option.{Option}
use Rattle.std.specs.declared.option.Option.TheVariants.{None, Some}
use Rattle.std.specs.Option.{option_map}
use Rattle.std.specs.Prelude.{option_and_then}
use Rattle.std.specs.Str.{bytes_eq}
use Rattle.std.specs.List.{list_all}
use Rattle.pc_text.specs.Numerals.{numeral}
use Rattle.limits.specs.declared.TheConstants.{GREATEST_DEGREE}
use Rattle.clap.specs.declared.error.kind.ErrorKind.{ErrorKind}
use Rattle.coho_words.specs.declared.numbers.TheConstants.{GREATEST_NUMBER, MOST_ELEMENTS, GREATEST_SAMPLE}
use Rattle.coho_words.specs.Faults.{IsWordsFault, parse_fault}
use Rattle.coho_words.specs.Words.{Command, Group, Resolve, Check, Value, Sample, command, elements_of}
use Rattle.coho_words.specs.Words.{file_and_degree, file_and_place, is_path, numbers, place, one_operand}
use Rattle.coho_words.specs.Words.{plain_command, sample_number, two_operands, with_degree}
use Rattle.clap.specs.declared.error.kind.ErrorKind.TheVariants as kind

abbrev pub Text : Type 0
Text = List ℕ

both : (a b : Bool) → (a && b) ≡ true → (a ≡ true) × (b ≡ true)
both true b e = (refl, e)
both false b e = absurd (true≢false (sym e))

negated : (a : Bool) → not a ≡ false → a ≡ true
negated true e = refl
negated false e = absurd (true≢false e)

is_name : (name known : Text) → bytes_eq name known ≡ true → name ≡ known
is_name name known e = (bytes_eq-Decides name known).0 e

-- ---- words of which none is empty or begins with a dash

group_at : (rest : List Text) → list_all is_path rest ≡ true
    → plain_command (codes "group" ∷ rest) ≡ option_map Group (one_operand (codes "group" ∷ rest))
group_at [] h = refl
group_at (a ∷ []) h = rw (both (is_path a) _ h).0 refl
group_at (a ∷ b ∷ []) h = refl
group_at (a ∷ b ∷ c ∷ rest) h = refl

-- what a command with a file and a degree asks for
abbrev pub of_degree : (Text → ℕ → Command) → Option (Text × ℕ) → Option Command
of_degree make o = option_map (λ p. make p.0 p.1) o

same_degree : (make : Text → ℕ → Command) (a : Text) (o : Option ℕ)
    → option_map (make a) o ≡ of_degree make (option_map (λ n. (a, n)) o)
same_degree make a None = refl
same_degree make a (Some n) = refl

resolve_at : (rest : List Text) → list_all is_path rest ≡ true
    → plain_command (codes "resolve" ∷ rest) ≡ of_degree Resolve (file_and_degree (codes "resolve" ∷ rest))
resolve_at [] h = refl
resolve_at (a ∷ []) h = refl
resolve_at (a ∷ b ∷ []) h = rw (both (is_path a) _ h).0 (same_degree Resolve a (numeral 1 GREATEST_DEGREE b))
resolve_at (a ∷ b ∷ c ∷ rest) h = refl

-- what `check` asks for
abbrev pub of_check : Option (Text × Text) → Option Command
of_check o = option_map (λ p. Check p.0 p.1) o

check_at : (rest : List Text) → list_all is_path rest ≡ true
    → plain_command (codes "check" ∷ rest) ≡ of_check (two_operands (codes "check" ∷ rest))
check_at [] h = refl
check_at (a ∷ []) h = refl
check_at (a ∷ b ∷ []) h =
    let p = both (is_path a) _ h in rw (p.0, (both (is_path b) true p.1).0) refl
check_at (a ∷ b ∷ c ∷ rest) h = refl

-- what `value` asks for
abbrev pub placed : Text → ℕ × List ℕ → Command
placed path p = Value path p.0 p.1

abbrev pub of_place : Option (Text × ℕ × List ℕ) → Option Command
of_place o = option_map (λ p. Value p.0 p.1 p.2) o

same_place : (a : Text) (o : Option (ℕ × List ℕ))
    → option_map (placed a) o ≡ of_place (option_map (λ p. (a, p.0, p.1)) o)
same_place a None = refl
same_place a (Some p) = refl

value_at : (rest : List Text) → list_all is_path rest ≡ true
    → plain_command (codes "value" ∷ rest) ≡ of_place (file_and_place (codes "value" ∷ rest))
value_at [] h = refl
value_at (a ∷ []) h = refl
value_at (a ∷ b ∷ []) h = refl
value_at (a ∷ b ∷ c ∷ rest) h = rw (both (is_path a) _ h).0 (same_place a (place b c rest))

sample_at : (rest : List Text) → list_all is_path rest ≡ true
    → plain_command (codes "sample" ∷ rest) ≡ option_map Sample (sample_number (codes "sample" ∷ rest))
sample_at [] h = refl
sample_at (a ∷ []) h = refl
sample_at (a ∷ b ∷ []) h = refl
sample_at (a ∷ b ∷ c ∷ rest) h = refl

pub group_is : (name : Text) (rest : List Text) → list_all is_path (name ∷ rest) ≡ true
    → bytes_eq name (codes "group") ≡ true
    → plain_command (name ∷ rest) ≡ option_map Group (one_operand (name ∷ rest))
group_is name rest h e =
    subst (λ n. list_all is_path (n ∷ rest) ≡ true
    → plain_command (n ∷ rest) ≡ option_map Group (one_operand (n ∷ rest)))
    (sym (is_name name (codes "group") e)) (group_at rest) h

pub resolve_is : (name : Text) (rest : List Text) → list_all is_path (name ∷ rest) ≡ true
    → bytes_eq name (codes "resolve") ≡ true
    → plain_command (name ∷ rest) ≡ of_degree Resolve (file_and_degree (name ∷ rest))
resolve_is name rest h e =
    subst (λ n. list_all is_path (n ∷ rest) ≡ true
    → plain_command (n ∷ rest) ≡ of_degree Resolve (file_and_degree (n ∷ rest)))
    (sym (is_name name (codes "resolve") e)) (resolve_at rest) h

pub check_is : (name : Text) (rest : List Text) → list_all is_path (name ∷ rest) ≡ true
    → bytes_eq name (codes "check") ≡ true
    → plain_command (name ∷ rest) ≡ of_check (two_operands (name ∷ rest))
check_is name rest h e =
    subst (λ n. list_all is_path (n ∷ rest) ≡ true
    → plain_command (n ∷ rest) ≡ of_check (two_operands (n ∷ rest)))
    (sym (is_name name (codes "check") e)) (check_at rest) h

pub value_is : (name : Text) (rest : List Text) → list_all is_path (name ∷ rest) ≡ true
    → bytes_eq name (codes "value") ≡ true
    → plain_command (name ∷ rest) ≡ of_place (file_and_place (name ∷ rest))
value_is name rest h e =
    subst (λ n. list_all is_path (n ∷ rest) ≡ true
    → plain_command (n ∷ rest) ≡ of_place (file_and_place (n ∷ rest)))
    (sym (is_name name (codes "value") e)) (value_at rest) h

pub sample_is : (name : Text) (rest : List Text) → list_all is_path (name ∷ rest) ≡ true
    → bytes_eq name (codes "sample") ≡ true
    → plain_command (name ∷ rest) ≡ option_map Sample (sample_number (name ∷ rest))
sample_is name rest h e =
    subst (λ n. list_all is_path (n ∷ rest) ≡ true
    → plain_command (n ∷ rest) ≡ option_map Sample (sample_number (n ∷ rest)))
    (sym (is_name name (codes "sample") e)) (sample_at rest) h

-- ---- words of no command

pub other_is : (name : Text) (rest : List Text) → bytes_eq name (codes "group") ≡ false
    → bytes_eq name (codes "resolve") ≡ false → bytes_eq name (codes "check") ≡ false
    → bytes_eq name (codes "value") ≡ false → bytes_eq name (codes "sample") ≡ false
    → plain_command (name ∷ rest) ≡ None
other_is name [] g r k v p = refl
other_is name (a ∷ []) g r k v p = rw (g, p) refl
other_is name (a ∷ b ∷ []) g r k v p = rw (r, k) refl
other_is name (a ∷ b ∷ c ∷ rest) g r k v p = rw v refl

dash_first : (low high : ℕ) (word : Text) → is_path word ≡ false → numeral low high word ≡ None
dash_first low high [] h = refl
dash_first low high (b ∷ bs) h = subst (λ b. numeral low high (b ∷ bs) ≡ None) (sym dash) (at bs)
  where
    dash : b ≡ 45
    dash = let e = negated (b == 45) h in grind (arith, nat_tests)

    at : (bs : Text) → numeral low high (45 ∷ bs) ≡ None
    at [] = refl
    at (c ∷ bs) = refl

unless : {A : Type 0} (t p : Bool) (x y : Option A) → (t ≡ true → p ≡ true → x ≡ None) → y ≡ None
    → cond (t && p) x y ≡ None
unless true true x y h k = h refl refl
unless true false x y h k = k
unless false p x y h k = k

unless_named : {A : Type 0} (t : Bool) (x y : Option A) → (t ≡ true → x ≡ None) → y ≡ None → cond t x y ≡ None
unless_named true x y h k = h refl
unless_named false x y h k = k

-- of the words after a plain name, and after a plain file, the next is not plain
after_name : (name known : Text) (rest : List Text) → list_all is_path (name ∷ rest) ≡ false
    → is_path known ≡ true → bytes_eq name known ≡ true → list_all is_path rest ≡ false
after_name name known rest h k e = rw (is_name name known e, k) at h

after_file : (a : Text) (rest : List Text) → list_all is_path (a ∷ rest) ≡ false → is_path a ≡ true
    → list_all is_path rest ≡ false
after_file a rest h p = rw p at h

ends : (b : Text) → list_all is_path (b ∷ []) ≡ false → is_path b ≡ false
ends b h = go (is_path b) h
  where
    go : (t : Bool) → (t && true) ≡ false → t ≡ false
    go true e = e
    go false e = refl

split : (a b : Bool) → (a && b) ≡ false → (a ≡ false) ⊎ ((a ≡ true) × (b ≡ false))
split true b e = inr (refl, e)
split false b e = inl refl

none_after : {A B : Type 0} (f : A → Option B) (o : Option A) → ((x : A) → f x ≡ None)
    → option_and_then f o ≡ None
none_after f None h = refl
none_after f (Some x) h = h x

numbers_dashed : (words : List Text) → list_all is_path words ≡ false → numbers words ≡ None
numbers_dashed [] h = absurd (true≢false h)
numbers_dashed (word ∷ words) h =
    go (split (is_path word) (list_all is_path words) h) (λ e. numbers_dashed words e)
  where
    go : (is_path word ≡ false) ⊎ ((is_path word ≡ true) × (list_all is_path words ≡ false))
        → (list_all is_path words ≡ false → numbers words ≡ None) → numbers (word ∷ words) ≡ None
    go (inl e) rest = ap (option_and_then (λ n. option_map (λ ns. n ∷ ns) (numbers words)))
        (dash_first 0 GREATEST_NUMBER word e)
    go (inr e) rest = none_after _ (numeral 0 GREATEST_NUMBER word)
        (λ n. ap (option_map (λ ns. n ∷ ns)) (rest e.1))

place_dashed : (b c : Text) (rest : List Text) → list_all is_path (b ∷ c ∷ rest) ≡ false
    → place b c rest ≡ None
place_dashed b c rest h = go (split (is_path b) (list_all is_path (c ∷ rest)) h)
  where
    of_class : ℕ → ℕ → Option (ℕ × List ℕ)
    of_class d k = option_map (λ es. (k, es)) (elements_of d rest)

    of_number : ℕ → Option (ℕ × List ℕ)
    of_number d = option_and_then (of_class d) (numeral 1 GREATEST_NUMBER c)

    no_elements : list_all is_path rest ≡ false → (d k : ℕ) → of_class d k ≡ None
    no_elements e d k = ap (λ o. option_map (λ es. (k, es))
        (option_and_then (λ es. cond (length es == d) (Some es) None) o)) (numbers_dashed rest e)

    no_number : (is_path c ≡ false) ⊎ ((is_path c ≡ true) × (list_all is_path rest ≡ false)) → (d : ℕ)
        → of_number d ≡ None
    no_number (inl e) d = ap (option_and_then (of_class d)) (dash_first 1 GREATEST_NUMBER c e)
    no_number (inr e) d = none_after (of_class d) (numeral 1 GREATEST_NUMBER c) (no_elements e.1 d)

    go : (is_path b ≡ false) ⊎ ((is_path b ≡ true) × (list_all is_path (c ∷ rest) ≡ false))
        → place b c rest ≡ None
    go (inl e) = ap (option_and_then of_number) (dash_first 1 MOST_ELEMENTS b e)
    go (inr e) = none_after of_number (numeral 1 MOST_ELEMENTS b)
        (no_number (split (is_path c) (list_all is_path rest) e.1))

pub dashed_is : (words : List Text) → list_all is_path words ≡ false → plain_command words ≡ None
dashed_is [] h = refl
dashed_is (name ∷ []) h = refl
dashed_is (name ∷ a ∷ []) h =
    let dashed = λ (known : Text) (k : is_path known ≡ true) (e : bytes_eq name known ≡ true).
    after_name name known (a ∷ []) h k e in
    unless (bytes_eq name (codes "group")) (is_path a) (Some (Group a)) _
    (λ e p. absurd (true≢false (after_file a [] (dashed (codes "group") refl e) p)))
    (unless_named (bytes_eq name (codes "sample")) (option_map Sample (numeral 0 GREATEST_SAMPLE a)) None
    (λ e. ap (option_map Sample) (dash_first 0 GREATEST_SAMPLE a (ends a (dashed
    (codes "sample") refl e)))) refl)
dashed_is (name ∷ a ∷ b ∷ []) h =
    let last = λ (known : Text) (k : is_path known ≡ true) (e : bytes_eq name known ≡ true)
    (p : is_path a ≡ true). ends b (after_file a (b ∷ []) (after_name name known (a ∷ b ∷ []) h k e) p) in
    unless (bytes_eq name (codes "resolve")) (is_path a)
    (option_map (Resolve a) (numeral 1 GREATEST_DEGREE b)) _
    (λ e p. ap (option_map (Resolve a)) (dash_first 1 GREATEST_DEGREE b (last (codes "resolve") refl e p)))
    (unless (bytes_eq name (codes "check")) (is_path a && is_path b) (Some (Check a b)) None
    (λ e p. (let q = both (is_path a) (is_path b) p in
    absurd (true≢false (sym q.1 ∙ last (codes "check") refl e q.0)))) refl)
dashed_is (name ∷ a ∷ b ∷ c ∷ rest) h =
    unless (bytes_eq name (codes "value")) (is_path a) (option_map (placed a) (place b c rest)) None
    (λ e p. ap (option_map (placed a)) (place_dashed b c rest
    (after_file a (b ∷ c ∷ rest) (after_name name (codes "value") (a ∷ b ∷ c ∷ rest) h refl e) p))) refl

-- ---- words that clap refuses

pub unread_words : (P : Type 0) (k : ErrorKind) → (k ≡ kind.OutOfMemory) ⊎ P → IsWordsFault P (parse_fault k)
unread_words P k (inl e) = rw e tt
unread_words P k (inr p) = go k
  where
    go : (k : ErrorKind) → IsWordsFault P (parse_fault k)
    go kind.OutOfMemory = tt
    go _ = p

pub degree_found : (words : List Text) (path word : Text) (n : ℕ) → two_operands words ≡ Some (path, word)
    → numeral 1 GREATEST_DEGREE word ≡ Some n → file_and_degree words ≡ Some (path, n)
degree_found words path word n is number = ap (option_and_then with_degree) is
    ∙ ap (option_map (λ n. (path, n))) number

pub degree_none : (words : List Text) (path word : Text) → two_operands words ≡ Some (path, word)
    → numeral 1 GREATEST_DEGREE word ≡ None → file_and_degree words ≡ None
degree_none words path word is number = ap (option_and_then with_degree) is
    ∙ ap (option_map (λ n. (path, n))) number

pub operands_none : (words : List Text) (k : ErrorKind) → (k ≡ kind.OutOfMemory) ⊎ (two_operands words ≡ None)
    → (k ≡ kind.OutOfMemory) ⊎ (file_and_degree words ≡ None)
operands_none words k (inl m) = inl m
operands_none words k (inr none) = inr (ap (option_and_then with_degree) none)

pub number_found : (words : List Text) (word : Text) (k : ℕ) → one_operand words ≡ Some word
    → numeral 0 GREATEST_SAMPLE word ≡ Some k → sample_number words ≡ Some k
number_found words word k is number = ap (option_and_then (numeral 0 GREATEST_SAMPLE)) is ∙ number

pub number_none : (words : List Text) (word : Text) → one_operand words ≡ Some word
    → numeral 0 GREATEST_SAMPLE word ≡ None → sample_number words ≡ None
number_none words word is number = ap (option_and_then (numeral 0 GREATEST_SAMPLE)) is ∙ number

pub operand_none : (words : List Text) (k : ErrorKind) → (k ≡ kind.OutOfMemory) ⊎ (one_operand words ≡ None)
    → (k ≡ kind.OutOfMemory) ⊎ (sample_number words ≡ None)
operand_none words k (inl m) = inl m
operand_none words k (inr none) = inr (ap (option_and_then (numeral 0 GREATEST_SAMPLE)) none)
