-- What the reader of texts keeps, step by step, and what it answers.
use Rattle.std.specs.Prelude.{◌≡◌, ◌≢◌, ℕ, ◌+◌, ◌≤◌, ◌<◌, List, [], ◌∷◌, length, All, slice_index}
use Rattle.std.specs.Prelude.{slice_index_or, ◌*◌, Result, Ok, Err}
use Rattle.limits.specs.declared.TheConstants.{GREATEST_DEGREE, LONGEST_TEXT}
use Rattle.graded_polynomials.specs.Polynomials.{Term, Polynomial, IsSame, product}
use Rattle.graded_polynomials.specs.Texts.{Factor, ReadTerm, name, power}
use Rattle.polynomial_texts.specs.Grammar.{PlacedName}
use Rattle.polynomial_texts.specs.Readings.{IsUnknown, IsFirst, IsAnswer, reads, syntax_fault, unknown_name}
use Rattle.polynomial_texts.specs.Readings.{too_high, mixed}
use Rattle.polynomial_reader.specs.declared.fault.PolyFault.{PolyFault}
use Rattle.polynomial_reader.specs.declared.fault.PolyFault.TheVariants.{Syntax, UnknownName, Mixed, TooHigh}
use Rattle.polynomial_reader.specs.declared.fault.PolyFault.TheVariants.{Memory}
use Rattle.gc_poly.specs.Generators.{Generators, greatest}
use Rattle.gc_poly.specs.Polynomials.{IsOverGenerators}

-- the names of the generators in order
pub record AreNames (ds : List ℕ) (ns : List (List ℕ)) : Type 0 where
  pub number : length ns ≡ length ds
  pub each : (i : ℕ) → i < length ds → slice_index_or ns i [] ≡ name ds i

-- the bytes of the pieces, with one more behind each
abbrev pub spans : List (List ℕ) → ℕ
spans [] = 0
spans (p ∷ ps) = length p + 1 + spans ps

-- the fault is the first of the names that is no generator's, or want of memory
abbrev pub IsUnknownAt : List ℕ → List PlacedName → PolyFault → Type 0
IsUnknownAt ds ns (Syntax c) = ⊥
IsUnknownAt ds ns (UnknownName c) = (n : List ℕ)
    × IsFirst (λ m. IsUnknown ds m.name) (record { column = c; name = n }) ns
IsUnknownAt ds ns (Mixed d e) = ⊥
IsUnknownAt ds ns (TooHigh d) = ⊥
IsUnknownAt ds ns Memory = Unit {0}

-- a power of a generator, with an exponent from 1 to the greatest degree
pub record IsFactorOf (ds : List ℕ) (x : Factor) : Type 0 where
  pub within : x.generator < length ds
  pub low : 1 ≤ x.exponent
  pub high : x.exponent ≤ GREATEST_DEGREE

pub record AreFactorsOf (ds : List ℕ) (xs : List Factor) : Type 0 where
  pub few : length xs ≤ LONGEST_TEXT
  pub each : All (IsFactorOf ds) xs

pub record IsTermOf (g : Generators) (t : ReadTerm) : Type 0 where
  pub low : 1 ≤ t.numeral
  pub high : t.numeral < g.prime
  pub factors : AreFactorsOf g.degrees t.factors

abbrev pub AreTermsOf : Generators → List ReadTerm → Type 0
AreTermsOf g ts = All (IsTermOf g) ts

-- f is the power of a generator as a factor: 0 where for odd p the generator has odd degree and the exponent
-- is above 1
pub record IsPowerOf (g : Generators) (x : Factor) (f : Polynomial) : Type 0 where
  pub degree_is : f.degree ≡ slice_index g.degrees x.generator * x.exponent
  pub over : IsOverGenerators g f
  pub factor : (h : List Term) → IsSame (greatest g) (product (greatest g) g.degrees h f.terms)
      (product (greatest g) g.degrees h (record { scalar = 1; monomial = power x.generator x.exponent } ∷ []))

-- the degrees are all d, at most the greatest; where there is none, d is 0
pub record IsDegreeOf (degrees : List ℕ) (d : ℕ) : Type 0 where
  pub each : All (λ e. e ≡ d) degrees
  pub small : d ≤ GREATEST_DEGREE
  pub none : degrees ≡ [] → d ≡ 0

abbrev pub IsDegreeFault : List ℕ → PolyFault → Type 0
IsDegreeFault ds (Syntax c) = ⊥
IsDegreeFault ds (UnknownName c) = ⊥
IsDegreeFault ds (TooHigh d) = IsFirst (λ e. GREATEST_DEGREE < e) d ds
IsDegreeFault [] (Mixed d e) = ⊥
IsDegreeFault (x ∷ xs) (Mixed d e) = All (λ k. k ≤ GREATEST_DEGREE) (x ∷ xs) × (x ≡ d)
    × IsFirst (λ k. k ≢ d) e xs
IsDegreeFault ds Memory = ⊥

-- the answer is the one that the text has, or want of memory
abbrev pub IsAnswerOf : Generators → List ℕ → Result Polynomial PolyFault → Type 0
IsAnswerOf g text (Ok f) = IsAnswer (greatest g) g.degrees text (reads f)
IsAnswerOf g text (Err (Syntax c)) = IsAnswer (greatest g) g.degrees text (syntax_fault c)
IsAnswerOf g text (Err (UnknownName c)) = IsAnswer (greatest g) g.degrees text (unknown_name c)
IsAnswerOf g text (Err (Mixed d e)) = IsAnswer (greatest g) g.degrees text (mixed d e)
IsAnswerOf g text (Err (TooHigh d)) = IsAnswer (greatest g) g.degrees text (too_high d)
IsAnswerOf g text (Err Memory) = Unit {0}
