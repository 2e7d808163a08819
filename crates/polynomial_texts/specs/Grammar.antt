-- The texts of polynomials for the prime p = q + 1: a text is 0, 1, or terms joined by +.
use Rattle.std.specs.Prelude.{◌≡◌, ◌≢◌, ℕ, ◌+◌, ◌≤◌, ◌<◌, Bool, true, ◌&&◌, ◌||◌, eqb, leb, List, [], ◌∷◌}
use Rattle.std.specs.Prelude.{◌++◌, map, length, take, Option, None, Some, IfSome, decimal, codes}
use Rattle.std.specs.List.{AllByRecursion as Each}
use Rattle.limits.specs.declared.TheConstants.{GREATEST_DEGREE}
use Rattle.graded_polynomials.specs.Texts.{joined_by, star, plus_sign}

-- a factor as it stands: a name, and the exponent where one is written
pub record NamedFactor : Type 0 where
  pub name : List ℕ
  pub exponent : Option ℕ

-- a term as it stands: the numeral before it, where there is one, and its factors
pub record NamedTerm : Type 0 where
  pub numeral : Option ℕ
  pub factors : List NamedFactor

pub data Sum : Type 0 where
  zero_text : Sum
  one_text : Sum
  terms : List NamedTerm → Sum

abbrev pub is_letter : ℕ → Bool
is_letter b = (leb 65 b && leb b 90) || (leb 97 b && leb b 122)

abbrev pub is_digit : ℕ → Bool
is_digit b = leb 48 b && leb b 57

-- a letter, a digit or _
abbrev pub is_name_byte : ℕ → Bool
is_name_byte b = is_letter b || is_digit b || eqb b 95

-- an ASCII letter, and then ASCII letters, digits and _
abbrev pub IsName : List ℕ → Type 0
IsName [] = ⊥
IsName (b ∷ bs) = (is_letter b ≡ true) × Each (λ c. is_name_byte c ≡ true) bs

-- the exponent is from 1 to the greatest degree
pub record IsFactor (f : NamedFactor) : Type 0 where
  pub name : IsName f.name
  pub exponent : IfSome f.exponent (λ e. (1 ≤ e) × (e ≤ GREATEST_DEGREE))

-- the numeral is from 1 to p - 1, and there is a factor
pub record IsTerm (q : ℕ) (t : NamedTerm) : Type 0 where
  pub numeral : IfSome t.numeral (λ c. (1 ≤ c) × (c ≤ q))
  pub some : t.factors ≢ []
  pub each : Each IsFactor t.factors

abbrev pub IsSum : ℕ → Sum → Type 0
IsSum q zero_text = Unit {0}
IsSum q one_text = Unit {0}
IsSum q (terms ts) = (ts ≢ []) × Each (IsTerm q) ts

abbrev pub caret : ℕ
caret = 94

abbrev pub exponent_text : Option ℕ → List ℕ
exponent_text None = []
exponent_text (Some e) = caret ∷ decimal e

abbrev pub factor_text : NamedFactor → List ℕ
factor_text f = f.name ++ exponent_text f.exponent

abbrev pub numeral_pieces : Option ℕ → List (List ℕ)
numeral_pieces None = []
numeral_pieces (Some c) = decimal c ∷ []

abbrev pub term_bytes : NamedTerm → List ℕ
term_bytes t = joined_by star (numeral_pieces t.numeral ++ map factor_text t.factors)

abbrev pub sum_bytes : Sum → List ℕ
sum_bytes zero_text = codes "0"
sum_bytes one_text = codes "1"
sum_bytes (terms ts) = joined_by plus_sign (map term_bytes ts)

-- the text stands for the sum
pub record IsTextOf (q : ℕ) (s : Sum) (text : List ℕ) : Type 0 where
  pub formed : IsSum q s
  pub text_is : sum_bytes s ≡ text

-- some text of the grammar begins with these bytes
abbrev pub GoesOn : ℕ → List ℕ → Type 0
GoesOn q front = (rest : List ℕ) × (s : Sum) × IsTextOf q s (front ++ rest)

-- n bytes go on to a text, and the next byte, or the end, does not
pub record Stops (q : ℕ) (text : List ℕ) (n : ℕ) : Type 0 where
  pub within : n ≤ length text
  pub before : GoesOn q (take n text)
  pub byte : n < length text → GoesOn q (take (n + 1) text) → ⊥
  pub ending : n ≡ length text → (s : Sum) → IsTextOf q s text → ⊥

-- a name, and the column of its first byte
pub record PlacedName : Type 0 where
  pub column : ℕ
  pub name : List ℕ

-- the names of factors of which the first stands at this column
abbrev pub factor_names : ℕ → List NamedFactor → List PlacedName
factor_names c [] = []
factor_names c (f ∷ fs) = record {
  column = c;
  name = f.name;
} ∷ factor_names (c + length (factor_text f) + 1) fs

-- a numeral and the * after it
abbrev pub numeral_length : Option ℕ → ℕ
numeral_length None = 0
numeral_length (Some c) = length (decimal c) + 1

abbrev pub term_names : ℕ → List NamedTerm → List PlacedName
term_names c [] = []
term_names c (t ∷ ts) = factor_names (c + numeral_length t.numeral) t.factors ++ term_names
    (c + length (term_bytes t) + 1) ts

-- the names of a text with their columns, which count from 1
abbrev pub placed_names : Sum → List PlacedName
placed_names zero_text = []
placed_names one_text = []
placed_names (terms ts) = term_names 1 ts
