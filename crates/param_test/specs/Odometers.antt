-- The next list of coefficients, the next list of positions and the next combination.
use Rattle.std.specs.Prelude.{◌≡◌, ℕ, zero, suc, ◌+◌, ◌<◌, ◌≤◌, ◌⊎◌, List, [], ◌∷◌, length, drop, take, map}
use Rattle.std.specs.Prelude.{Vec}
use Rattle.std.specs.List.{AllByRecursion as Each}
use Rattle.param_test.specs.Firsts.{IsLess}
use Rattle.param_test.specs.Tuples.{Ascends}
use Rattle.param_test.specs.Combinations.{IsCombination, IsBefore, places, coefficients}
use Rattle.param_test.specs.Walks.{IsWalked}

-- coefficients that are not 0
abbrev pub AreDigits : ℕ → List ℕ → Type 0
AreDigits p c = Each (λ x. (0 < x) × (x < p)) c

abbrev pub AreTop : ℕ → List ℕ → Type 0
AreTop p c = Each (λ x. p ≤ x + 1) c

abbrev pub AreOnes : List ℕ → Type 0
AreOnes c = Each (λ x. x ≡ 1) c

-- the last coefficient that is not p - 1 is one more, and those behind it are 1
abbrev pub IsTurned : ℕ → List ℕ → List ℕ → Type 0
IsTurned p [] d = ⊥
IsTurned p (x ∷ c) [] = ⊥
IsTurned p (x ∷ c) (y ∷ d) =
    ((x ≡ y) × IsTurned p c d)
    ⊎ ((y ≡ x + 1) × (y < p) × AreTop p c × AreOnes d × (length d ≡ length c))

-- i, i + 1 and so on, k numbers
abbrev pub run : ℕ → ℕ → List ℕ
run i zero = []
run i (suc k) = i ∷ run (suc i) k

-- the last of the lists of this length that ascend below n
abbrev pub IsLast : ℕ → List ℕ → Type 0
IsLast n [] = Unit {0}
IsLast n (x ∷ a) = (n ≤ x + 1 + length a) × IsLast n a

-- the last number that can grow is one more, and the numbers behind it follow it
abbrev pub IsShifted : ℕ → List ℕ → List ℕ → Type 0
IsShifted n [] b = ⊥
IsShifted n (x ∷ a) [] = ⊥
IsShifted n (x ∷ a) (y ∷ b) =
    ((x ≡ y) × IsShifted n a b)
    ⊎ ((y ≡ x + 1) × (y + length a < n) × IsLast n a × (b ≡ run (suc y) (length a)))

-- positions and coefficients in their order
abbrev pub Precedes : List ℕ → List ℕ → List ℕ → List ℕ → Type 0
Precedes a c b d =
    (length a < length b)
    ⊎ ((length a ≡ length b) × (IsLess a b ⊎ ((a ≡ b) × IsLess c d)))

-- positions and the coefficients of all terms but the first
pub record IsSparse (p n : ℕ) (a c : List ℕ) : Type 0 where
  pub some : 0 < length a
  pub ascends : Ascends 0 n a
  pub digits : AreDigits p c
  pub same_length : length a ≡ length c + 1

-- (b, d) is the one that comes next after (a, c)
pub record IsSuccessor (p n : ℕ) (a c b d : List ℕ) : Type 0 where
  pub sparse : IsSparse p n b d
  pub later : Precedes a c b d
  pub between : (e f : List ℕ) → IsSparse p n e f → Precedes e f b d → Precedes e f a c ⊎ ((e ≡ a) × (f ≡ c))

-- the coefficients of all terms but the first
abbrev pub rest : List ℕ → List ℕ
rest y = drop 1 (coefficients y)

-- the combinations before (a, c) are listed
pub record IsListed (p n : ℕ) (tried : List (List ℕ)) (a c : List ℕ) : Type 0 where
  pub sparse : IsSparse p n a c
  pub walked : IsWalked (IsCombination p n) IsBefore (λ _. ⊥)
      (λ y. IsCombination p n y × Precedes (places y) (rest y) a c) tried

-- the first i entries of the row with the positions a and the coefficients 1 ∷ c, next of which are not 0
pub record IsSpread (n : ℕ) (a c : List ℕ) (i next : ℕ) (r : List ℕ) : Type 0 where
  pub size : length r ≡ i
  pub within : next ≤ length a
  pub placed : places r ≡ take next a
  pub valued : coefficients r ≡ take next (1 ∷ c)
  pub later : Ascends i n (drop next a)

-- none comes after (a, c)
abbrev pub IsEnd : ℕ → ℕ → List ℕ → List ℕ → Type 0
IsEnd p n a c = (e f : List ℕ) → IsSparse p n e f → Precedes e f a c ⊎ ((e ≡ a) × (f ≡ c))

-- the rows that a list of vectors holds
abbrev pub lists : {Z : Type 0} → List (Vec ℕ Z) → List (List ℕ)
lists vs = map (λ v. v.items) vs
