-- The command of the words as they are given, by the name that each is read with.
use Rattle.std.proofs.Common.{◌≡◌, ◌∙◌, ◌⊎◌, inl, inr, true, false, List, [], ◌∷◌, length, slice_index_or}
use Rattle.std.proofs.Common.{drop, string_bytes, String, Global, ◌<◌, ◌≤◌, sym, ap, subst, refl, codes}
use Rattle.std.proofs.Common.{arith}
use Rattle.std.specs.declared.option.Option.TheVariants.{None, Some}
use Rattle.std.specs.Option.{option_map}
use Rattle.std.specs.Str.{bytes_eq}
use Rattle.std.specs.List.{list_all}
use Rattle.clap.specs.declared.error.kind.ErrorKind.{ErrorKind}
use Rattle.coho_words.specs.Faults.{IsWordsFault}
use Rattle.coho_words.specs.declared.fault.WordsFault.{WordsFault}
use Rattle.coho_words.specs.Words.{Group, Resolve, Check, Sample, command, file_and_degree, file_and_place}
use Rattle.coho_words.specs.Words.{is_path, one_operand, plain_command, ring_command, sample_number, texts}
use Rattle.coho_words.specs.Words.{two_operands}
use Rattle.coho_words.proofs.Commands.{Text, check_is, group_is, of_check, of_degree, of_place, other_is}
use Rattle.coho_words.proofs.Commands.{resolve_is, sample_is, value_is}
use Rattle.coho_words.specs.declared.fault.WordsFault.TheVariants as fault
use Rattle.clap.specs.declared.error.kind.ErrorKind.TheVariants as kind

pub named : (words : List (String Global)) (name : String Global) → 1 ≤ length words
    → name ≡ slice_index_or words 0 name → texts words ≡ string_bytes name ∷ drop 1 (texts words)
named [] name some is = absurd (omega arith)
named (x ∷ xs) name some is = ap (λ (n : String Global). string_bytes n ∷ texts xs) (sym is)

module _ (words rest : List Text) (plain : list_all is_path words ≡ true) (name : Text)
    (first : words ≡ name ∷ rest) where
  at_group : bytes_eq name (codes "group") ≡ true → plain_command words ≡ option_map Group (one_operand words)
  at_group e = subst (λ ws. plain_command ws ≡ option_map Group (one_operand ws)) (sym first)
      (group_is name rest (subst (λ ws. list_all is_path ws ≡ true) first plain) e)

  pub group_found : bytes_eq name (codes "group") ≡ true → (path : Text) → one_operand words ≡ Some path
      → plain_command words ≡ Some (Group path)
  group_found e path is = at_group e ∙ ap (option_map Group) is

  pub group_none : (k : ErrorKind) → bytes_eq name (codes "group") ≡ true → (k ≡ kind.OutOfMemory)
      ⊎ (one_operand words ≡ None) → (k ≡ kind.OutOfMemory) ⊎ (plain_command words ≡ None)
  group_none k e (inl m) = inl m
  group_none k e (inr none) = inr (at_group e ∙ ap (option_map Group) none)

  pub at_resolve : bytes_eq name (codes "resolve") ≡ true
      → plain_command words ≡ of_degree Resolve (file_and_degree words)
  at_resolve e = subst (λ ws. plain_command ws ≡ of_degree Resolve (file_and_degree ws)) (sym first)
      (resolve_is name rest (subst (λ ws. list_all is_path ws ≡ true) first plain) e)

  at_check : bytes_eq name (codes "check") ≡ true → plain_command words ≡ of_check (two_operands words)
  at_check e = subst (λ ws. plain_command ws ≡ of_check (two_operands ws)) (sym first)
      (check_is name rest (subst (λ ws. list_all is_path ws ≡ true) first plain) e)

  pub check_found : bytes_eq name (codes "check") ≡ true → (path stages : Text)
      → two_operands words ≡ Some (path, stages) → plain_command words ≡ Some (Check path stages)
  check_found e path stages is = at_check e ∙ ap of_check is

  pub check_none : (k : ErrorKind) → bytes_eq name (codes "check") ≡ true → (k ≡ kind.OutOfMemory)
      ⊎ (two_operands words ≡ None) → (k ≡ kind.OutOfMemory) ⊎ (plain_command words ≡ None)
  check_none k e (inl m) = inl m
  check_none k e (inr none) = inr (at_check e ∙ ap of_check none)

  pub at_value : bytes_eq name (codes "value") ≡ true → plain_command words ≡ of_place (file_and_place words)
  at_value e = subst (λ ws. plain_command ws ≡ of_place (file_and_place ws)) (sym first)
      (value_is name rest (subst (λ ws. list_all is_path ws ≡ true) first plain) e)

  pub at_sample : bytes_eq name (codes "sample") ≡ true
      → plain_command words ≡ option_map Sample (sample_number words)
  at_sample e = subst (λ ws. plain_command ws ≡ option_map Sample (sample_number ws)) (sym first)
      (sample_is name rest (subst (λ ws. list_all is_path ws ≡ true) first plain) e)

-- the words of `ring`, and those of another name
module _ (words rest : List Text) (name : Text) (first : words ≡ name ∷ rest) where
  pub at_ring : bytes_eq name (codes "ring") ≡ true → command words ≡ ring_command rest
  at_ring e = ap command first ∙ (rw e refl)

  pub not_ring : bytes_eq name (codes "ring") ≡ false → command words ≡ plain_command words
  not_ring e = ap command first ∙ (rw e refl) ∙ ap plain_command (sym first)

same_name : (words rest : List Text) (a b : Text) → words ≡ a ∷ rest → words ≡ b ∷ rest → a ≡ b
same_name words rest a b h k = cc

-- words whose name, as it is read for each command, is that of none
pub unnamed : (words : List Text) (a b c d e : Text) → words ≡ a ∷ drop 1 words → words ≡ b ∷ drop 1 words
    → words ≡ c ∷ drop 1 words → words ≡ d ∷ drop 1 words → words ≡ e ∷ drop 1 words
    → bytes_eq a (codes "group") ≡ false → bytes_eq b (codes "resolve") ≡ false
    → bytes_eq c (codes "check") ≡ false → bytes_eq d (codes "value") ≡ false
    → bytes_eq e (codes "sample") ≡ false → plain_command words ≡ None
unnamed words a b c d e h i j k l g r s v p =
    let rest = drop 1 words in
    ap plain_command l ∙ other_is e rest
    (subst (λ n. bytes_eq n (codes "group") ≡ false) (same_name words rest a e h l) g)
    (subst (λ n. bytes_eq n (codes "resolve") ≡ false) (same_name words rest b e i l) r)
    (subst (λ n. bytes_eq n (codes "check") ≡ false) (same_name words rest c e j l) s)
    (subst (λ n. bytes_eq n (codes "value") ≡ false) (same_name words rest d e k l) v) p

pub no_words : (words : List (String Global)) → length words < 1 → plain_command (texts words) ≡ None
no_words [] h = refl
no_words (x ∷ xs) h = absurd (omega arith)

pub no_ring : (words : List (String Global)) → length words < 1
    → command (texts words) ≡ plain_command (texts words)
no_ring [] h = refl
no_ring (x ∷ xs) h = absurd (omega arith)

-- words that are refused are those of the command
pub weaker_words : (P Q : Type 0) → (P → Q) → (e : WordsFault) → IsWordsFault P e → IsWordsFault Q e
weaker_words P Q f fault.Refused h = f h
weaker_words P Q f fault.Memory h = h
