-- Where the vectors of a basis come from, and which generators are chosen.
use Rattle.std.specs.Prelude.{◌≡◌, ℕ, ◌<◌, ◌⊎◌, List, [], ◌∷◌, length, slice_index_or, take, ⊤}
use Rattle.linear_algebra.specs.Rows.{entry, row}
use Rattle.neg_basis.specs.Maps.{IsInSubmodule}
use Rattle.neg_basis.specs.declared.origin.Origin.{Origin}
use Rattle.neg_basis.specs.declared.origin.Origin.TheVariants.{Chosen, Step}

-- the origin of vector i
abbrev pub origin_at : List Origin → ℕ → Origin
origin_at origins i = slice_index_or origins i (Chosen 0)

-- a step goes out from a vector before position i
abbrev pub IsBefore : Origin → ℕ → Type 0
IsBefore (Chosen r) i = ⊤
IsBefore (Step m k) i = k < i

-- the origin names a generator, or a map and a vector before position i
abbrev pub IsOrigin : ℕ → ℕ → Origin → ℕ → Type 0
IsOrigin n m (Chosen r) i = r < n
IsOrigin n m (Step k of) i = (k < m) × (of < i)

-- what an origin stands for: a generator, or a map applied to a vector
abbrev pub source : (ℕ → (ℕ → ℕ) → ℕ → ℕ) → List (List ℕ) → List (List ℕ) → Origin → ℕ → ℕ
source image gens vectors (Chosen r) = entry (row gens r)
source image gens vectors (Step k of) = image k (entry (row vectors of))

-- the rows that were chosen, in the order of the vectors
abbrev pub chosen_rows : List Origin → List ℕ
chosen_rows [] = []
chosen_rows (Chosen r ∷ origins) = r ∷ chosen_rows origins
chosen_rows (Step k of ∷ origins) = chosen_rows origins

-- row r is chosen
abbrev pub IsChosen : List Origin → ℕ → Type 0
IsChosen origins r = (i : ℕ) × (i < length origins) × (origin_at origins i ≡ Chosen r)

-- row r is chosen exactly where it is not in the submodule that the rows before it generate
abbrev pub IsChosenRightly : ℕ → ℕ → (ℕ → (ℕ → ℕ) → ℕ → ℕ) → List (List ℕ) → List Origin → ℕ → Type 0
IsChosenRightly p m image gens origins r =
    (IsChosen origins r × ¬ (IsInSubmodule p m image (take r gens) (entry (row gens r))))
    ⊎ (¬ (IsChosen origins r) × IsInSubmodule p m image (take r gens) (entry (row gens r)))
