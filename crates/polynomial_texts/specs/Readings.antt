-- What a text is read as, for the prime p = q + 1 and generators with the degrees ds: a polynomial, or its
-- first fault.
use Rattle.std.specs.Prelude.{◌≡◌, ◌≢◌, ℕ, ◌+◌, ◌*◌, ◌≤◌, ◌<◌, ◌⊎◌, List, [], ◌∷◌, map, length, get_or, All}
use Rattle.std.specs.Prelude.{Option, None, Some}
use Rattle.std.specs.List.{AllByRecursion as Each, AllZip}
use Rattle.limits.specs.declared.TheConstants.{GREATEST_DEGREE}
use Rattle.graded_polynomials.specs.Polynomials.{Polynomial, IsPolynomial, IsSame}
use Rattle.graded_polynomials.specs.Texts.{Factor, ReadTerm, name, read_value}
use Rattle.polynomial_texts.specs.Grammar.{NamedFactor, NamedTerm, Sum, zero_text, one_text, terms, IsTextOf}
use Rattle.polynomial_texts.specs.Grammar.{Stops, placed_names}

-- degrees of generators, from 1 to the greatest
pub record AreDegrees (ds : List ℕ) : Type 0 where
  pub range : All (λ d. (1 ≤ d) × (d ≤ GREATEST_DEGREE)) ds
  pub few : length ds ≤ 4294967295

-- no generator has this name
abbrev pub IsUnknown : List ℕ → List ℕ → Type 0
IsUnknown ds n = (i : ℕ) → i < length ds → name ds i ≢ n

-- a number that is not written is 1
abbrev pub number : Option ℕ → ℕ
number None = 1
number (Some n) = n

-- x is the power of a generator that f names
pub record Names (ds : List ℕ) (f : NamedFactor) (x : Factor) : Type 0 where
  pub within : x.generator < length ds
  pub name_is : name ds x.generator ≡ f.name
  pub exponent_is : x.exponent ≡ number f.exponent

-- each of the factors is the power that is named
abbrev pub NamesEach : List ℕ → List NamedFactor → List Factor → Type 0
NamesEach ds fs xs = AllZip (Names ds) fs xs

pub record NamesTerm (ds : List ℕ) (t : NamedTerm) (r : ReadTerm) : Type 0 where
  pub numeral_is : r.numeral ≡ number t.numeral
  pub factors : NamesEach ds t.factors r.factors

abbrev pub NamesTerms : List ℕ → List NamedTerm → List ReadTerm → Type 0
NamesTerms ds ts rs = AllZip (NamesTerm ds) ts rs

-- the terms that a sum stands for: none for 0, and for 1 the numeral alone
abbrev pub NamesSum : List ℕ → Sum → List ReadTerm → Type 0
NamesSum ds zero_text rs = rs ≡ []
NamesSum ds one_text rs = rs ≡ record { numeral = 1; factors = [] } ∷ []
NamesSum ds (terms ts) rs = NamesTerms ds ts rs

-- the degree of a product of powers of generators
abbrev pub factors_degree : List ℕ → List Factor → ℕ
factors_degree ds [] = 0
factors_degree ds (x ∷ xs) = get_or ds x.generator 0 * x.exponent + factors_degree ds xs

abbrev pub term_degree : List ℕ → ReadTerm → ℕ
term_degree ds r = factors_degree ds r.factors

-- x is the first in the list with the property
abbrev pub IsFirst : {X : Type 0} → (X → Type 0) → X → List X → Type 0
IsFirst P x [] = ⊥
IsFirst P x (y ∷ ys) = (P y × (x ≡ y)) ⊎ ((P y → ⊥) × IsFirst P x ys)

-- the text stands for the sum s, whose names are those of generators: its terms are rs
pub record StandsFor (q : ℕ) (ds text : List ℕ) (s : Sum) (rs : List ReadTerm) : Type 0 where
  pub text_of : IsTextOf q s text
  pub names : NamesSum ds s rs

-- the text is read as f: its terms have the degree of f, at most the greatest, and f is their sum
pub record IsReading (q : ℕ) (ds text : List ℕ) (f : Polynomial) : Type 0 where
  pub sum : Sum
  pub terms : List ReadTerm
  pub stands_for : StandsFor q ds text sum terms
  pub degrees : Each (λ r. term_degree ds r ≡ f.degree) terms
  pub small : f.degree ≤ GREATEST_DEGREE
  pub zero_degree : terms ≡ [] → f.degree ≡ 0
  pub polynomial : IsPolynomial q ds f.degree f.terms
  pub value : IsSame q f.terms (read_value q ds terms)

-- the first name that is no generator's stands at this column
pub record HasUnknownName (q : ℕ) (ds text : List ℕ) (column : ℕ) : Type 0 where
  pub sum : Sum
  pub text_of : IsTextOf q sum text
  pub name : List ℕ
  pub first : IsFirst (λ n. IsUnknown ds n.name) (record { column = column; name = name }) (placed_names sum)

-- the first term of a degree above the greatest has degree d
pub record IsTooHigh (q : ℕ) (ds text : List ℕ) (d : ℕ) : Type 0 where
  pub sum : Sum
  pub terms : List ReadTerm
  pub stands_for : StandsFor q ds text sum terms
  pub first : IsFirst (λ e. GREATEST_DEGREE < e) d (map (term_degree ds) terms)

-- the first term has degree d, and the first degree that differs from it is e
pub record IsMixed (q : ℕ) (ds text : List ℕ) (d e : ℕ) : Type 0 where
  pub sum : Sum
  pub leading : ReadTerm
  pub others : List ReadTerm
  pub stands_for : StandsFor q ds text sum (leading ∷ others)
  pub small : Each (λ r. term_degree ds r ≤ GREATEST_DEGREE) (leading ∷ others)
  pub degree_is : term_degree ds leading ≡ d
  pub first : IsFirst (λ k. k ≢ d) e (map (term_degree ds) others)

-- the answers of a reader, columns counted from 1
pub data Answer : Type 0 where
  reads : Polynomial → Answer
  syntax_fault : ℕ → Answer
  unknown_name : ℕ → Answer
  too_high : ℕ → Answer
  mixed : ℕ → ℕ → Answer

-- the answer that a text has
abbrev pub IsAnswer : ℕ → List ℕ → List ℕ → Answer → Type 0
IsAnswer q ds text (reads f) = IsReading q ds text f
IsAnswer q ds text (syntax_fault column) = (n : ℕ) × (column ≡ n + 1) × Stops q text n
IsAnswer q ds text (unknown_name column) = HasUnknownName q ds text column
IsAnswer q ds text (too_high d) = IsTooHigh q ds text d
IsAnswer q ds text (mixed d e) = IsMixed q ds text d e
