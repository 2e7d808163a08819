-- The words of `value` after its name, and what they are numerals of.
use Rattle.std.proofs.Common.{◌≡◌, ◌∙◌, ℕ, List, [], ◌∷◌, ap}
use Rattle.std.specs.declared.option.Option.{Option}
use Rattle.std.specs.declared.option.Option.TheVariants.{None, Some}
use Rattle.std.specs.Option.{option_map}
use Rattle.coho_words.specs.Faults.{IsWordsFault}
use Rattle.coho_words.specs.declared.fault.WordsFault.{WordsFault}
use Rattle.coho_words.specs.Words.{file_and_place, place, place_operands}
use Rattle.coho_words.specs.declared.fault.WordsFault.TheVariants as fault

abbrev Text : Type 0
Text = List ℕ

abbrev Words : Type 0
Words = Text × Text × Text × List Text

abbrev read : Words → Option (Text × ℕ × List ℕ)
read w = option_map (λ p. (w.0, p.0, p.1)) (place w.1 w.2 w.3)

same : (x y : Words) → ◌≡◌ {A = Option Words} (Some x) (Some y) → x ≡ y
same x y e = cc

none : (x : Words) → ◌≡◌ {A = Option Words} None (Some x) → ⊥
none x e = cc

read_is : (words : List Text) (w : Words) → place_operands words ≡ Some w → file_and_place words ≡ read w
read_is [] w e = absurd (none w e)
read_is (name ∷ []) w e = absurd (none w e)
read_is (name ∷ file ∷ []) w e = absurd (none w e)
read_is (name ∷ file ∷ degree ∷ []) w e = absurd (none w e)
read_is (name ∷ file ∷ degree ∷ class ∷ []) w e = absurd (none w e)
read_is (name ∷ file ∷ degree ∷ class ∷ element ∷ elements) w e =
    ap read (same (file, degree, class, element ∷ elements) w e)

pub place_found : (words : List Text) (file degree class : Text) (elements : List Text) (k : ℕ) (es : List ℕ)
    → place_operands words ≡ Some (file, degree, class, elements) → place degree class elements ≡ Some (k, es)
    → file_and_place words ≡ Some (file, k, es)
place_found words file degree class elements k es is found =
    read_is words (file, degree, class, elements) is ∙ ap (option_map (λ p. (file, p.0, p.1))) found

place_none : (words : List Text) (file degree class : Text) (elements : List Text)
    → place_operands words ≡ Some (file, degree, class, elements) → place degree class elements ≡ None
    → file_and_place words ≡ None
place_none words file degree class elements is unread =
    read_is words (file, degree, class, elements) is ∙ ap (option_map (λ p. (file, p.0, p.1))) unread

pub place_refused : (words : List Text) (file degree class : Text) (elements : List Text) (e : WordsFault)
    → place_operands words ≡ Some (file, degree, class, elements)
    → IsWordsFault (place degree class elements ≡ None) e → IsWordsFault (file_and_place words ≡ None) e
place_refused words file degree class elements fault.Refused is h =
    place_none words file degree class elements is h
place_refused words file degree class elements fault.Memory is h = h
