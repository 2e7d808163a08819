use Rattle.std.proofs.Common.{◌≡◌, Some, drop}
use Rattle.coho_words.specs.Words.{no_ring_words, ring_words_of, texts, with_words}
use Rattle.coho_words.proofs.ring_words.with_words.Given as goal

abbrev pub invariant-loop-word : goal.invariant-loop-word
invariant-loop-word l = with_words (Some no_ring_words) (texts l.words)
    ≡ with_words (Some (ring_words_of l.found)) (texts (drop l.word-index l.words))
