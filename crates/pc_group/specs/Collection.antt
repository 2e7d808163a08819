-- Collection from the left: what a generator does to the generators that it passes.
use Rattle.std.specs.Prelude.{ℕ, List, [], ◌∷◌, ◌++◌}
use Rattle.power_commutator.specs.Presentations.{Presentation as Presented, commutator_word}
use Rattle.power_commutator.specs.Collect.{spell}

-- what each g_j of a list becomes where g_k passes it from the right: g_j g_k = g_k g_j c_{j,k}
abbrev pub passed : Presented → ℕ → List ℕ → List ℕ
passed P k [] = []
passed P k (j ∷ js) = j ∷ (spell 1 (commutator_word P j k) ++ passed P k js)
