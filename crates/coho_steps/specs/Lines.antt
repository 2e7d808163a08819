-- The lines of answers.
use Rattle.std.specs.Prelude.{ℕ, List, [], ◌∷◌, ◌++◌, map, Vec, codes, ◌+◌, decimal}
use Rattle.std.specs.declared.alloc.Global.{Global}

-- the bytes of each line
abbrev pub contents : List (Vec ℕ Global) → List (List ℕ)
contents lines = map (λ line. line.items) lines

-- a word, a number and an LF
abbrev pub line : List ℕ → ℕ → List ℕ
line word n = word ++ (decimal n ++ 10 ∷ [])

abbrev pub after_space : ℕ → List ℕ
after_space n = codes " " ++ decimal n
