-- The canonical text of a presentation.
use Rattle.std.specs.Prelude.{map, filter, ℕ, ◌-◌, not, if◌then◌else◌, List, [], ◌++◌, flat_map}
use Rattle.power_commutator.specs.Presentations.{Presentation, power_word, commutator_word, range}
use Rattle.pc_text.specs.declared.place.Place.{Place}
use Rattle.pc_text.specs.declared.place.Place.TheVariants.{Power, Commutator}
use Rattle.pc_text.specs.Relations.{Relation}
use Rattle.pc_text.specs.Texts.{Content}
use Rattle.pc_text.specs.Grammar.{is_empty_word, line_text, relation_text, text_of}

-- the powers of n generators by ascending I
abbrev pub power_places : ℕ → List Place
power_places n = map (λ i. Power i) (range 1 n)

-- the commutators of g_j and those before it, by ascending I
abbrev pub row_places : ℕ → List Place
row_places j = map (λ i. Commutator j i) (range 1 (j - 1))

-- the commutators of n generators by ascending J and then ascending I
abbrev pub commutator_places : ℕ → List Place
commutator_places n = flat_map row_places (range 1 n)

-- the left sides in order
abbrev pub places : ℕ → List Place
places n = power_places n ++ commutator_places n

-- the relation of P with this left side
abbrev pub word_at : Presentation → Place → List ℕ
word_at P (Power i) = power_word P i
word_at P (Commutator j i) = commutator_word P j i

abbrev pub relation_at : Presentation → Place → Relation
relation_at P place = record { place = place; word = word_at P place }

-- the relations of P whose words are not empty
abbrev pub written : Presentation → List Relation
written P = filter (λ r. not (is_empty_word r.word)) (map (relation_at P) (places P.gens))

-- p, n and these relations
abbrev pub content_of : Presentation → Content
content_of P = record { prime = P.prime; gens = P.gens; relations = written P }

abbrev pub canonical : Presentation → List ℕ
canonical P = text_of (content_of P)

-- the line of a relation, where its word is not empty
abbrev pub relation_line : ℕ → Relation → List ℕ
relation_line p r = if is_empty_word r.word then [] else line_text (relation_text p r)

-- the lines of the relations with these left sides
abbrev pub place_lines : Presentation → List Place → List ℕ
place_lines P places = flat_map (λ q. relation_line P.prime (relation_at P q)) places
