-- The words of the command line.
use Rattle.std.specs.Prelude.{◌≡◌, ℕ, ◌≤◌, ◌==◌, length, ◌&&◌, Bool, false, not, if◌then◌else◌, List, [], ◌∷◌}
use Rattle.std.specs.Prelude.{◌++◌, map, string_bytes, String, codes, ⊤, option_and_then}
use Rattle.std.specs.Borrow.{Bor}
use Rattle.std.specs.declared.alloc.Global.{Global}
use Rattle.std.specs.declared.option.Option.{Option}
use Rattle.std.specs.declared.option.Option.TheVariants.{None, Some}
use Rattle.std.specs.Option.{option_map}
use Rattle.std.specs.List.{Contains}
use Rattle.std.specs.Str.{bytes_eq}
use Rattle.limits.specs.declared.TheConstants.{GREATEST_DEGREE}
use Rattle.pc_text.specs.Numerals.{numeral}
use Rattle.coho_words.specs.declared.numbers.TheConstants.{GREATEST_NUMBER, MOST_ELEMENTS, GREATEST_SAMPLE}
use Rattle.coho_words.specs.declared.ring_words.StageFiles.{StageFiles as NamedFiles}
use Rattle.coho_words.specs.declared.ring_words.RingWords.{RingWords as NamedWords}
use Rattle.coho_words.specs.declared.ring_words.StageOption.{StageOption}
use Rattle.coho_words.specs.declared.words.Command.{Command as Named}
use Rattle.coho_words.specs.declared.ring_words.StageOption.TheVariants as option
use Rattle.coho_words.specs.declared.words.Command.TheVariants as named

-- the bytes of each word
abbrev pub texts : List (String Global) → List (List ℕ)
texts words = map string_bytes words

-- the same of words that are borrowed
abbrev pub spelled : List (Bor (List ℕ)) → List (List ℕ)
spelled words = map (λ word. word.now) words

-- the stage files that the options of `ring` name: one to take stages from, and one to save them to
pub record StageFiles : Type 0 where
  pub from : Option (List ℕ)
  pub save : Option (List ℕ)

-- what a run is asked for
pub data Command : Type 0 where
  -- to test the presentation of a file, and to describe its group
  Group : List ℕ → Command
  -- to find the minimal resolution of a file's group to a degree
  Resolve : List ℕ → ℕ → Command
  -- to find generators and relations of the cohomology ring of a file's group through a degree, with stage
  -- files
  Ring : List ℕ → ℕ → StageFiles → Command
  -- to count the records of a stage file, which are the second path's, for a file's group
  Check : List ℕ → List ℕ → Command
  -- to find the value of the cocycle of a class of a file's group, by its number, at elements: the degree of
  -- the class is their number
  Value : List ℕ → ℕ → List ℕ → Command
  -- to make the product of small groups that a number names, and to describe its cohomology ring
  Sample : ℕ → Command

-- the path that may be borrowed
abbrev pub path_in : Option (Bor (List ℕ)) → Option (List ℕ)
path_in path = option_map (λ p. p.now) path

-- the stage files by the program's own value
abbrev pub stage_files : NamedFiles → StageFiles
stage_files files = record { from = path_in files.from; save = path_in files.save }

-- the command by the program's own value
abbrev pub asked : Named → Command
asked (named.Group path) = Group path.now
asked (named.Resolve path n) = Resolve path.now n
asked (named.Ring path n files) = Ring path.now n (stage_files files)
asked (named.Check path stages) = Check path.now stages.now
asked (named.Value path k es) = Value path.now k es.items
asked (named.Sample k) = Sample k

-- the path of its file, where it has one
abbrev pub path_of : Command → Option (List ℕ)
path_of (Group path) = Some path
path_of (Resolve path n) = Some path
path_of (Ring path n files) = Some path
path_of (Check path stages) = Some path
path_of (Value path k es) = Some path
path_of (Sample k) = None

-- the path of the stage file that it reads, where it has one
abbrev pub from_of : Command → Option (List ℕ)
from_of (Ring path n files) = files.from
from_of (Check path stages) = Some stages
from_of _ = None

-- the path of the one that it saves to, where it has one
abbrev pub save_of : Command → Option (List ℕ)
save_of (Ring path n files) = files.save
save_of _ = None

-- it names no stage file
abbrev pub IsAlone : Command → Type 0
IsAlone (Ring path n files) = ⊥
IsAlone (Check path stages) = ⊥
IsAlone _ = ⊤

-- a class has a number from 1 on, and it is to be evaluated at 1 to 8 elements
pub record IsPlace (k : ℕ) (es : List ℕ) : Type 0 where
  pub some : 1 ≤ k
  pub class : k ≤ GREATEST_NUMBER
  pub degree : 1 ≤ length es
  pub few : length es ≤ MOST_ELEMENTS

-- the numbers of a command are within their limits
abbrev pub IsWithin : Command → Type 0
IsWithin (Group path) = ⊤
IsWithin (Resolve path n) = (1 ≤ n) × (n ≤ GREATEST_DEGREE)
IsWithin (Ring path n files) = (1 ≤ n) × (n ≤ GREATEST_DEGREE)
IsWithin (Check path stages) = ⊤
IsWithin (Value path k es) = IsPlace k es
IsWithin (Sample k) = k ≤ GREATEST_SAMPLE

-- a word that may stand for a file: it is not empty, and begins with no dash
abbrev pub is_path : List ℕ → Bool
is_path [] = false
is_path (b ∷ bs) = not (b == 45)

-- the numbers of which the words are the numerals, and None where one of them is none
abbrev pub numbers : List (List ℕ) → Option (List ℕ)
numbers [] = Some []
numbers (word ∷ words) = option_and_then (λ n. option_map (λ ns. n ∷ ns) (numbers words))
    (numeral 0 GREATEST_NUMBER word)

-- the elements, where there are as many as the degree
abbrev pub elements_of : ℕ → List (List ℕ) → Option (List ℕ)
elements_of d words = option_and_then (λ es. if length es == d then Some es else None) (numbers words)

-- the number of a class and as many elements as its degree, from the words for degree, number and elements
abbrev pub place : List ℕ → List ℕ → List (List ℕ) → Option (ℕ × List ℕ)
place degree class elements =
    option_and_then (λ d. option_and_then (λ k. option_map (λ es. (k, es)) (elements_of d elements))
    (numeral 1 GREATEST_NUMBER class)) (numeral 1 MOST_ELEMENTS degree)

-- what the words of `ring` after its name have given so far
pub record RingWords : Type 0 where
  pub path : Option (List ℕ)
  pub degree : Option (List ℕ)
  pub files : StageFiles
  -- the option whose path comes next
  pub due : Option StageOption

-- the same by the program's own value
abbrev pub ring_words_of : NamedWords → RingWords
ring_words_of w = record {
  path = path_in w.path;
  degree = path_in w.degree;
  files = stage_files w.files;
  due = w.due;
}

-- no word has given anything
abbrev pub no_ring_words : RingWords
no_ring_words =
    record { path = None; degree = None; files = record { from = None; save = None }; due = None }

-- a place that no word has yet takes this one, which may stand for a file
abbrev pub put : Option (List ℕ) → List ℕ → Option (List ℕ)
put None word = if is_path word then Some word else None
put (Some other) word = None

-- what the words have given, with the path of `--from`
abbrev pub with_from : RingWords → List ℕ → Option RingWords
with_from w word = option_map
    (λ path. record w { files = record { from = Some path; save = w.files.save }; due = None })
    (put w.files.from word)

-- the same with the path of `--save`
abbrev pub with_save : RingWords → List ℕ → Option RingWords
with_save w word = option_map
    (λ path. record w { files = record { from = w.files.from; save = Some path }; due = None })
    (put w.files.save word)

-- the same with a word that is neither an option nor its path: the first is a file, the second a degree
abbrev pub with_operand : RingWords → Option (List ℕ) → List ℕ → Option RingWords
with_operand w None word = option_map (λ path. record w { path = Some path }) (put None word)
with_operand w (Some path) word = option_map (λ degree. record w { degree = Some degree }) (put w.degree word)

-- the same where the path of an option comes next
abbrev pub with_due : StageOption → RingWords → RingWords
with_due option w = record w { due = Some option }

-- the same with one more word
abbrev pub with_word : RingWords → Option StageOption → List ℕ → Option RingWords
with_word w (Some option.From) word = with_from w word
with_word w (Some option.Save) word = with_save w word
with_word w None word =
    if bytes_eq word (codes "--from") then Some (with_due option.From w)
    else (if bytes_eq word (codes "--save") then Some (with_due option.Save w)
    else with_operand w w.path word)

-- the same with all words
abbrev pub with_words : Option RingWords → List (List ℕ) → Option RingWords
with_words found [] = found
with_words found (word ∷ words) = with_words (option_and_then (λ w. with_word w w.due word) found) words

-- the stage file that is saved to is the file of the presentation
abbrev pub saves_over : Option (List ℕ) → List ℕ → Bool
saves_over None path = false
saves_over (Some save) path = bytes_eq save path

-- the command, where no word is wanting and the file is not saved over
abbrev pub ring_asked : Option StageOption → Option (List ℕ) → Option (List ℕ) → StageFiles → Option Command
ring_asked None (Some path) (Some degree) files =
    if saves_over files.save path then None
    else option_map (λ n. Ring path n files) (numeral 1 GREATEST_DEGREE degree)
ring_asked _ _ _ files = None

-- the same of all that the words have given
abbrev pub ring_of : RingWords → Option Command
ring_of w = ring_asked w.due w.path w.degree w.files

-- the command that the words of `ring` after its name ask for
abbrev pub ring_command : List (List ℕ) → Option Command
ring_command words = option_and_then ring_of (with_words (Some no_ring_words) words)

-- the command of words whose command has no options
abbrev pub plain_command : List (List ℕ) → Option Command
plain_command (name ∷ word ∷ []) =
    if bytes_eq name (codes "group") && is_path word
    then Some (Group word)
    else (if bytes_eq name (codes "sample") then option_map Sample (numeral 0 GREATEST_SAMPLE word) else None)
plain_command (name ∷ path ∷ second ∷ []) =
    if bytes_eq name (codes "resolve") && is_path path
    then option_map (Resolve path) (numeral 1 GREATEST_DEGREE second)
    else (if bytes_eq name (codes "check") && (is_path path && is_path second)
    then Some (Check path second)
    else None)
plain_command (name ∷ path ∷ degree ∷ class ∷ elements) =
    if bytes_eq name (codes "value") && is_path path
    then option_map (λ p. Value path p.0 p.1) (place degree class elements)
    else None
plain_command _ = None

-- the command of the words, and None where they are not those of one
abbrev pub command : List (List ℕ) → Option Command
command [] = None
command (name ∷ words) =
    if bytes_eq name (codes "ring") then ring_command words else plain_command (name ∷ words)

-- the words are those of `value`
abbrev pub AskForValue : List (List ℕ) → Type 0
AskForValue words = (path : List ℕ) × (k : ℕ) × (es : List ℕ) × (command words ≡ Some (Value path k es))

-- the one word after the command's name, where there is one
abbrev pub one_operand : List (List ℕ) → Option (List ℕ)
one_operand (name ∷ first ∷ []) = Some first
one_operand _ = None

-- the two words after the command's name, where there are two
abbrev pub two_operands : List (List ℕ) → Option (List ℕ × List ℕ)
two_operands (name ∷ first ∷ second ∷ []) = Some (first, second)
two_operands _ = None

-- the same, where the second is the numeral of a degree
abbrev pub with_degree : List ℕ × List ℕ → Option (List ℕ × ℕ)
with_degree p = option_map (λ n. (p.0, n)) (numeral 1 GREATEST_DEGREE p.1)

abbrev pub file_and_degree : List (List ℕ) → Option (List ℕ × ℕ)
file_and_degree words = option_and_then with_degree (two_operands words)

-- the words after the command's name, a file, the degree and the number of a class, and elements, where there
-- is one element at least
abbrev pub place_operands : List (List ℕ) → Option (List ℕ × List ℕ × List ℕ × List (List ℕ))
place_operands (name ∷ file ∷ degree ∷ class ∷ element ∷ elements) =
    Some (file, degree, class, element ∷ elements)
place_operands _ = None

-- a file, the number of a class and as many elements as its degree, from the words after the command's name
abbrev pub file_and_place : List (List ℕ) → Option (List ℕ × ℕ × List ℕ)
file_and_place (name ∷ path ∷ degree ∷ class ∷ elements) =
    option_map (λ p. (path, p.0, p.1)) (place degree class elements)
file_and_place _ = None

-- the number that names a product, where the one word is its numeral
abbrev pub sample_number : List (List ℕ) → Option ℕ
sample_number words = option_and_then (numeral 0 GREATEST_SAMPLE) (one_operand words)

-- the path that is there
abbrev pub paths_of : Option (List ℕ) → List (List ℕ)
paths_of None = []
paths_of (Some path) = path ∷ []

-- the paths that a command reads
abbrev pub read_paths : Command → List (List ℕ)
read_paths c = paths_of (path_of c) ++ paths_of (from_of c)

-- the paths that a command saves to
abbrev pub saved_paths : Command → List (List ℕ)
saved_paths c = paths_of (save_of c)

-- a path that the command of the words reads
abbrev pub IsRead : List (List ℕ) → List ℕ → Type 0
IsRead words path = (c : Command) × (command words ≡ Some c) × Contains (read_paths c) path

-- a path that the command of the words saves to
abbrev pub IsSaved : List (List ℕ) → List ℕ → Type 0
IsSaved words path = (c : Command) × (command words ≡ Some c) × Contains (saved_paths c) path
