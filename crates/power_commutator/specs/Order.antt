-- A row of pairs.
use Rattle.std.specs.Prelude.{ℕ, suc, ◌-◌, List, map}
use Rattle.power_commutator.specs.Presentations.{range}

-- the pairs of a with the numbers after it and before e
abbrev pub row : {A : Type 0} → (ℕ → ℕ → A) → (e a : ℕ) → List A
row f e a = map (f a) (range (suc a) (e - suc a))
