-- Combinations of count monomials with coefficients below p, as rows, and their order.
use Rattle.std.specs.Prelude.{◌≡◌, ℕ, zero, suc, ◌<◌, ◌⊎◌, List, [], ◌∷◌, length, slice_index}
use Rattle.std.specs.List.{AllByRecursion as Each}
use Rattle.param_test.specs.Firsts.{IsLess, AreFirst}

-- the places of the entries that are not 0, the first entry standing at place i
abbrev pub places_from : ℕ → List ℕ → List ℕ
places_from i [] = []
places_from i (zero ∷ c) = places_from (suc i) c
places_from i (suc x ∷ c) = i ∷ places_from (suc i) c

abbrev pub places : List ℕ → List ℕ
places c = places_from 0 c

-- the entries that are not 0
abbrev pub coefficients : List ℕ → List ℕ
coefficients [] = []
coefficients (zero ∷ c) = coefficients c
coefficients (suc x ∷ c) = suc x ∷ coefficients c

pub record IsCombination (p count : ℕ) (c : List ℕ) : Type 0 where
  pub length_is : length c ≡ count
  pub below : Each (λ x. x < p) c
  pub first_is_one : slice_index (coefficients c) 0 ≡ 1

-- by the number of terms, then by the list of positions, then by the list of coefficients
abbrev pub IsBefore : List ℕ → List ℕ → Type 0
IsBefore a b =
    (length (places a) < length (places b))
    ⊎ ((length (places a) ≡ length (places b))
    × (IsLess (places a) (places b) ⊎ ((places a ≡ places b) × IsLess (coefficients a) (coefficients b))))

-- the first 63 combinations
abbrev pub AreCandidates : ℕ → ℕ → List (List ℕ) → Type 0
AreCandidates p count cs = AreFirst (IsCombination p count) IsBefore 63 cs
