-- The texts of the grammar, written from what they say.
use Rattle.std.specs.Prelude.{ℕ, suc, ◌==◌, Bool, not, if◌then◌else◌, List, [], ◌∷◌, ◌++◌, codes, flat_map}
use Rattle.std.specs.Prelude.{decimal}
use Rattle.std.specs.List.{join_with_byte, list_any}
use Rattle.pc_text.specs.declared.place.Place.{Place}
use Rattle.pc_text.specs.declared.place.Place.TheVariants.{Power, Commutator}
use Rattle.pc_text.specs.Bytes.{line_feed, star, comma, open_bracket, close_bracket, caret, letter_g}
use Rattle.pc_text.specs.Relations.{Relation}
use Rattle.pc_text.specs.Texts.{Content}

-- `gK`
abbrev pub name : ℕ → List ℕ
name k = letter_g ∷ decimal k

-- `gK` or `gK^E`: an exponent 1 is not written
abbrev pub factor_text : ℕ → ℕ → List ℕ
factor_text k e = if e == 1 then name k else name k ++ (caret ∷ decimal e)

-- the factors of a word whose first exponent is that of g_k; an exponent 0 has none
abbrev pub factor_texts : ℕ → List ℕ → List (List ℕ)
factor_texts k [] = []
factor_texts k (e ∷ word) =
    if e == 0 then factor_texts (suc k) word else factor_text k e ∷ factor_texts (suc k) word

-- a word is empty where its exponents are 0
abbrev pub is_empty_word : List ℕ → Bool
is_empty_word word = not (list_any (λ e. not (e == 0)) word)

-- `1` for the empty word, and else its factors joined by `*`
abbrev pub word_text : List ℕ → List ℕ
word_text word = if is_empty_word word then codes "1" else join_with_byte star (factor_texts 1 word)

-- `gI^P` and `[gJ,gI]`
abbrev pub left_text : ℕ → Place → List ℕ
left_text p (Power i) = name i ++ (caret ∷ decimal p)
left_text p (Commutator j i) = open_bracket ∷ (name j ++ (comma ∷ (name i ++ close_bracket ∷ [])))

-- `gI^P = WORD` and `[gJ,gI] = WORD`
abbrev pub relation_text : ℕ → Relation → List ℕ
relation_text p r = left_text p r.place ++ (codes " = " ++ word_text r.word)

abbrev pub line_text : List ℕ → List ℕ
line_text bytes = bytes ++ line_feed ∷ []

-- the first three lines
abbrev pub header_text : ℕ → ℕ → List ℕ
header_text p n =
    line_text (codes "pgroup 1")
    ++ (line_text (codes "prime " ++ decimal p)
    ++ line_text (codes "gens " ++ decimal n))

-- the text that says this
abbrev pub text_of : Content → List ℕ
text_of c =
    line_text (codes "pgroup 1")
    ++ (line_text (codes "prime " ++ decimal c.prime)
    ++ (line_text (codes "gens " ++ decimal c.gens)
    ++ flat_map (λ r. line_text (relation_text c.prime r)) c.relations))
