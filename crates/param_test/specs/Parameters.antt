-- Parameters: candidates whose restrictions to every subgroup leave a finite ring (Quillen 1971).
use Rattle.std.specs.Prelude.{◌≡◌, ℕ, Option, Some, List, [], map, slice_get, slice_index_or}
use Rattle.graded_polynomials.specs.Polynomials.{Polynomial}
use Rattle.gc_poly.specs.Generators.{Generators}
use Rattle.param_test.specs.Finiteness.{IsFinite}
use Rattle.param_test.specs.Tables.{CandidateValue, TableValue, degrees_of}
use Rattle.param_test.specs.Tuples.{IsFound}

-- what stands for a candidate or a polynomial that is not there
abbrev none : CandidateValue
none = record { degree = 0; images = [] }

abbrev zero : Polynomial
zero = record { degree = 0; terms = [] }

-- the restriction of candidate k to subgroup j
abbrev pub restriction : TableValue → ℕ → ℕ → Polynomial
restriction t j k = slice_index_or (slice_index_or t.candidates k none).images j zero

-- the restrictions of the candidates of a tuple are finite on each subgroup
abbrev pub Passes : TableValue → List ℕ → Type 0
Passes t tuple = (j : ℕ) (g : Generators) → slice_get t.subgroups j ≡ Some g
    → IsFinite g (map (restriction t j) tuple)

-- the first tuple of r candidates that passes, of the first 5,000
abbrev pub IsFoundIn : TableValue → ℕ → Option (List ℕ) → Type 0
IsFoundIn t r found = IsFound (degrees_of t.candidates) r (Passes t) found
