-- Monomials of the free graded commutative algebra (Brown, "Cohomology of Groups", V.6) over generators with
-- the degrees ds, for the prime p = q + 1:
-- lists of exponents without a zero at the end.
use Rattle.std.specs.Prelude.{◌≡◌, ◌≢◌, ℕ, ◌+◌, ◌*◌, ◌%◌, ◌<◌, Bool, true, false, cond, not, ◌&&◌, ◌||◌, eqb}
use Rattle.std.specs.Prelude.{leb, List, [], ◌∷◌, length, slice_index_or}

-- the exponent of generator i, 0 past the end
abbrev pub exponent : List ℕ → ℕ → ℕ
exponent m i = slice_index_or m i 0

-- the sum of the degrees of the factors
abbrev pub degree : List ℕ → List ℕ → ℕ
degree [] m = 0
degree (d ∷ ds) [] = 0
degree (d ∷ ds) (e ∷ m) = d * e + degree ds m

-- a generator of odd degree, for odd p
abbrev pub is_exterior : ℕ → ℕ → Bool
is_exterior q d = not (eqb q 1) && eqb (d % 2) 1

-- for odd p a generator of odd degree has exponent at most 1: its square is 0
abbrev pub fits : ℕ → List ℕ → List ℕ → Bool
fits q [] m = true
fits q (d ∷ ds) [] = true
fits q (d ∷ ds) (e ∷ m) = (not (is_exterior q d) || leb e 1) && fits q ds m

-- no zero stands at the end, so that equal monomials have equal lists
abbrev pub IsTrimmed : List ℕ → Type 0
IsTrimmed [] = Unit {0}
IsTrimmed (e ∷ m) = (m ≡ [] → e ≢ 0) × IsTrimmed m

-- no more exponents than generators
abbrev pub IsWithin : List ℕ → List ℕ → Type 0
IsWithin ds [] = Unit {0}
IsWithin [] (e ∷ m) = ⊥
IsWithin (d ∷ ds) (e ∷ m) = IsWithin ds m

-- m is a monomial of degree d
pub record IsMonomial (q : ℕ) (ds : List ℕ) (d : ℕ) (m : List ℕ) : Type 0 where
  pub within : IsWithin ds m
  pub trimmed : IsTrimmed m
  pub fitting : fits q ds m ≡ true
  pub degree_is : degree ds m ≡ d

-- a has the greater exponent at the first generator where a and b differ
pub record IsGreater (a b : List ℕ) : Type 0 where
  pub at : ℕ
  pub more : exponent b at < exponent a at
  pub before : (i : ℕ) → i < at → exponent a i ≡ exponent b i

-- ms are all monomials of degree d, in descending order
pub record IsMonomials (q : ℕ) (ds : List ℕ) (d : ℕ) (ms : List (List ℕ)) : Type 0 where
  pub each : (i : ℕ) → i < length ms → IsMonomial q ds d (slice_index_or ms i [])
  pub all : (m : List ℕ) → IsMonomial q ds d m → (i : ℕ) × (i < length ms) × (slice_index_or ms i [] ≡ m)
  pub descending : (i j : ℕ) → i < j → j < length ms
      → IsGreater (slice_index_or ms i []) (slice_index_or ms j [])

-- the exponents added
abbrev pub joined : List ℕ → List ℕ → List ℕ
joined [] b = b
joined (x ∷ a) [] = x ∷ a
joined (x ∷ a) (y ∷ b) = (x + y) ∷ joined a b

-- how often a factor of odd degree changes place with another where the factors of a and then those of b are
-- put in order, modulo 2:
-- the factors of b at a generator go past what a has at the later generators
abbrev pub swaps : List ℕ → List ℕ → List ℕ → ℕ
swaps [] a b = 0
swaps (d ∷ ds) [] b = 0
swaps (d ∷ ds) (x ∷ a) [] = 0
swaps (d ∷ ds) (x ∷ a) (y ∷ b) = degree ds a * (d * y) + swaps ds a b

-- (-1)^n modulo p
abbrev pub sign : ℕ → ℕ → ℕ
sign q n = cond (eqb (n % 2) 0) 1 q

-- the lists are equal
abbrev pub same : List ℕ → List ℕ → Bool
same [] [] = true
same [] (y ∷ b) = false
same (x ∷ a) [] = false
same (x ∷ a) (y ∷ b) = eqb x y && same a b
