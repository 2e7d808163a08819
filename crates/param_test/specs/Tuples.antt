-- Tuples of r different candidates, as ascending lists of their numbers.
use Rattle.std.specs.Prelude.{◌≡◌, ℕ, suc, ◌<◌, ◌≤◌, ◌⊎◌, Option, List, [], ◌∷◌, length, sum_by, slice_index}
use Rattle.std.specs.Prelude.{MatchOption}
use Rattle.param_test.specs.Firsts.{IsLess, IsFirstPassing, NonePasses}

-- the numbers ascend, from low on and below n
abbrev pub Ascends : ℕ → ℕ → List ℕ → Type 0
Ascends low n [] = Unit {0}
Ascends low n (x ∷ t) = (low ≤ x) × (x < n) × Ascends (suc x) n t

pub record IsTuple (n r : ℕ) (t : List ℕ) : Type 0 where
  pub length_is : length t ≡ r
  pub ascends : Ascends 0 n t

abbrev pub total : List ℕ → List ℕ → ℕ
total degrees t = sum_by (λ k. slice_index degrees k) t

-- by total degree, then place by place
abbrev pub IsBefore : List ℕ → List ℕ → List ℕ → Type 0
IsBefore degrees a b = (total degrees a < total degrees b)
    ⊎ ((total degrees a ≡ total degrees b) × IsLess a b)

-- the candidates do not descend in degree
abbrev pub AreByDegree : List ℕ → Type 0
AreByDegree degrees = (i j : ℕ) → i ≤ j → j < length degrees → slice_index degrees i ≤ slice_index degrees j

-- the first tuple that passes, of the first 5,000 tuples of r candidates with these degrees
abbrev pub IsFound : List ℕ → ℕ → (List ℕ → Type 0) → Option (List ℕ) → Type 0
IsFound degrees r Passes found =
    MatchOption found
    (NonePasses (IsTuple (length degrees) r) (IsBefore degrees) 5000 Passes)
    (λ t. IsFirstPassing (IsTuple (length degrees) r) (IsBefore degrees) 5000 Passes t)
