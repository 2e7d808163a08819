-- Candidates for parameters, and their restrictions to subgroups.
use Rattle.std.specs.Prelude.{◌≡◌, ℕ, ◌≤◌, List, map, length, slice_get, Some, All, AllPairs}
use Rattle.limits.specs.declared.TheConstants.{GREATEST_DEGREE}
use Rattle.graded_polynomials.specs.Polynomials.{Polynomial}
use Rattle.gc_poly.specs.Generators.{Generators}
use Rattle.gc_poly.specs.Polynomials.{IsOverGenerators}

-- the degree of a class, and its restriction to each subgroup
pub record CandidateValue : Type 0 where
  pub degree : ℕ
  pub images : List Polynomial

-- the generators of the cohomology rings of the subgroups, and the candidates
pub record TableValue : Type 0 where
  pub prime : ℕ
  pub subgroups : List Generators
  pub candidates : List CandidateValue

abbrev pub degrees_of : List CandidateValue → List ℕ
degrees_of cs = map (λ c. c.degree) cs

-- one polynomial of degree d over the generators of each subgroup
pub record AreRestrictions (subgroups : List Generators) (d : ℕ) (images : List Polynomial) : Type 0 where
  pub count : length images ≡ length subgroups
  pub degrees : All (λ f. f.degree ≡ d) images
  pub over : (j : ℕ) (g : Generators) (f : Polynomial) → slice_get subgroups j ≡ Some g
      → slice_get images j ≡ Some f → IsOverGenerators g f

-- the candidates do not descend in degree, and have a restriction to each subgroup
pub record AreCandidatesOver (subgroups : List Generators) (candidates : List CandidateValue) : Type 0 where
  pub few : length candidates ≤ 4294967295
  pub low : All (λ c. c.degree ≤ GREATEST_DEGREE) candidates
  pub order : AllPairs (λ c d. c.degree ≤ d.degree) candidates
  pub restrictions : All (λ c. AreRestrictions subgroups c.degree c.images) candidates
