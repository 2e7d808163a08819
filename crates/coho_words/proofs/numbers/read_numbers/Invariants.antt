use Rattle.std.proofs.Common.{◌≡◌, ◌++◌, drop}
use Rattle.std.specs.Option.{option_map}
use Rattle.coho_words.specs.Words.{numbers, spelled}
use Rattle.coho_words.proofs.numbers.read_numbers.Given as goal

abbrev pub invariant-loop-word : goal.invariant-loop-word
invariant-loop-word l = numbers (spelled l.words)
    ≡ option_map (λ ns. l.found.items ++ ns) (numbers (spelled (drop l.word-index l.words)))
