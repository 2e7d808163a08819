use Rattle.std.proofs.Common.{◌≡◌, ◌∙◌, ℕ, zero, suc, ◌<◌, List, [], ◌∷◌, length, slice_index_or, drop, None}
use Rattle.std.proofs.Common.{Some, string_bytes, String, Global, refl, sym, ap, arith}
use Rattle.std.specs.Option.{option_map}
use Rattle.std.specs.declared.option.Option.{Option}
use Rattle.coho_words.specs.Words.{RingWords, ring_words_of, texts, with_word, with_words}
use Rattle.coho_words.proofs.ring_words.with_words.Goals as goal

-- the word at a place, and those after it
from_word : (words : List (String Global)) (i : ℕ) (word : String Global) → i < length words
    → word ≡ slice_index_or words i word
    → texts (drop i words) ≡ string_bytes word ∷ texts (drop (suc i) words)
from_word [] i word l e = absurd (omega (arith, l))
from_word (w ∷ words) zero word l e = ap (λ (v : String Global). string_bytes v ∷ texts words) (sym e)
from_word (w ∷ words) (suc i) word l e = from_word words i word (omega (arith, l)) e

-- after a word that is refused, all are
none_stays : (words : List (List ℕ)) → with_words None words ≡ None
none_stays [] = refl
none_stays (word ∷ words) = none_stays words

pub returns-in-None : goal.returns-in-None
returns-in-None c =
    let given = c.args.words.now in
    let i = c.loop-word.word-index in
    let word = c.word-item.result in
    let so_far = ring_words_of c.loop-word.found in
    let refused : with_word so_far so_far.due (string_bytes word) ≡ None
    = ap (with_word so_far so_far.due) (sym c.as_str.ensures.value) ∙ sym c.with_word.ensures
    ∙ ap (option_map ring_words_of) c.in-None.is in
    let rest = texts (drop (suc i) given) in
    sym (c.loop-word.invariant
    ∙ ap (with_words (Some so_far))
    (from_word given i word (omega (arith, c.loop-word-test.true)) c.word-item.is)
    ∙ ap (λ (o : Option RingWords). with_words o rest) refused ∙ none_stays rest)
