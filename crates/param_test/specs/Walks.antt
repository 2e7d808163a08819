-- How far a walk through tuples has come.
use Rattle.std.specs.Prelude.{◌≡◌, ℕ, zero, suc, ◌+◌, ◌-◌, ◌<◌, ◌≤◌, ◌⊎◌, List, [], ◌∷◌, ◌++◌, length}
use Rattle.std.specs.Prelude.{slice_index}
use Rattle.std.specs.List.{AllByRecursion as Each}
use Rattle.param_test.specs.Firsts.{IsLess, IsOneOf, IsAscending}
use Rattle.param_test.specs.Tuples.{Ascends, IsTuple, IsBefore, total}

-- the members that are past were tried in order, and none passed
pub record IsWalked {X : Type 0} (IsMember : X → Type 0) (IsBefore : X → X → Type 0) (Passes : X → Type 0)
    (IsPast : X → Type 0) (tried : List X) : Type 0 where
  pub members : Each IsMember tried
  pub ascending : IsAscending IsBefore tried
  pub fail : Each (λ x. Passes x → ⊥) tried
  pub past : Each IsPast tried
  pub all : (y : X) → IsMember y → IsPast y → IsOneOf y tried

-- y is before the tuples of this total degree that begin with q or come after it
abbrev pub IsPast : List ℕ → ℕ → List ℕ → List ℕ → Type 0
IsPast degrees sum q y = (total degrees y < sum) ⊎ ((total degrees y ≡ sum) × IsLess y q)

-- the degree of the k candidates from i on
abbrev pub least : List ℕ → ℕ → ℕ → ℕ
least degrees zero i = 0
least degrees (suc k) i = slice_index degrees i + least degrees k (suc i)

-- a tuple of r candidates may begin with pre and next: there are enough candidates, and the least total
-- degree is not above sum
pub record Fits (degrees : List ℕ) (r sum : ℕ) (pre : List ℕ) (next : ℕ) : Type 0 where
  pub room : next + (r - length pre) ≤ length degrees
  pub light : total degrees pre + least degrees (r - length pre) next ≤ sum

-- all tuples before q in the total degree sum were tried, which leaves so many to be tried
pub record IsAt (degrees : List ℕ) (r : ℕ) (Passes : List ℕ → Type 0) (sum : ℕ) (q : List ℕ)
    (left : ℕ) : Type 0 where
  pub tried : List (List ℕ)
  pub count : length tried + left ≡ 5000
  pub walked : IsWalked (IsTuple (length degrees) r) (IsBefore degrees) Passes (IsPast degrees sum q) tried

-- the walk stands at pre and next
pub record Stands (degrees : List ℕ) (r : ℕ) (Passes : List ℕ → Type 0) (sum : ℕ) (pre : List ℕ)
    (next left : ℕ) : Type 0 where
  pub ascends : Ascends 0 next pre
  pub within : next ≤ length degrees
  pub room : length pre < r
  pub at : IsAt degrees r Passes sum (pre ++ next ∷ []) left
