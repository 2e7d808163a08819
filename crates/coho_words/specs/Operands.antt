-- What the matches of clap hold of the words of a command.
use Rattle.std.specs.Prelude.{◌≡◌, ℕ, List, codes}
use Rattle.std.specs.declared.option.Option.TheVariants.{Some}
use Rattle.std.specs.Option.{option_map}
use Rattle.clap.specs.declared.parser.matches.ArgMatches.{ArgMatches}
use Rattle.clap.specs.Matches.{first_value, found_of, matched_of, raw_values}
use Rattle.coho_words.specs.Words.{place_operands}

-- they hold the words of `value` after its name
pub record HoldsPlace (words : List (List ℕ)) (m : ArgMatches) : Type 0 where
  pub file : List ℕ
  pub degree : List ℕ
  pub class : List ℕ
  pub elements : List (List ℕ)
  pub are : place_operands words ≡ Some (file, degree, class, elements)
  pub has_file : first_value (found_of m) (codes "file") ≡ Some file
  pub has_degree : first_value (found_of m) (codes "degree") ≡ Some degree
  pub has_class : first_value (found_of m) (codes "class") ≡ Some class
  pub has_elements : option_map raw_values (matched_of (found_of m) (codes "element")) ≡ Some elements
