-- Combinations of standard monomials, from which parameters are chosen.
use Rattle.std.specs.Prelude.{◌≡◌, ℕ, zero, suc, cond, List, [], ◌++◌, length, map}
use Rattle.p_groups.specs.PGroups.{PGroup, largest_residue, prime_of}
use Rattle.graded_polynomials.specs.Monomials.{is_exterior}
use Rattle.graded_polynomials.specs.Polynomials.{Polynomial}
use Rattle.graded_algebra.specs.Algebras.{Generator}
use Rattle.graded_algebra.specs.Vectors.{Vector}
use Rattle.presentation_rows.specs.RowPolynomials.{polynomial_of}
use Rattle.param_test.specs.Combinations as combinations
use Rattle.ring_present.specs.Rings.{cohomology}
use Rattle.ring_present.specs.Standard.{AreStandard}

-- the polynomials of degree d that rows over the monomials ms stand for
abbrev pub polynomials_of : ℕ → List (List ℕ) → List (List ℕ) → List Polynomial
polynomials_of d ms rows = map (λ row. record { degree = d; terms = polynomial_of ms row }) rows

module _ (G : PGroup) where
  -- the first 63 combinations of the standard monomials of degree d in the generators gs
  pub record AreCombinations (gs : List (Generator (Vector (largest_residue G)))) (d : ℕ)
      (fs : List Polynomial) : Type 0 where
    pub monomials : List (List ℕ)
    pub rows : List (List ℕ)
    pub monomials_are : AreStandard (largest_residue G) (cohomology G) gs d monomials
    pub rows_are : combinations.AreCandidates (prime_of G) (length monomials) rows
    pub polynomials_are : fs ≡ polynomials_of d monomials rows

  -- the candidates of degree d: for odd p there are none in odd degrees
  abbrev pub AreCandidatesIn : List (Generator (Vector (largest_residue G))) → ℕ → List Polynomial → Type 0
  AreCandidatesIn gs d fs = cond (is_exterior (largest_residue G) d) (fs ≡ []) (AreCombinations gs d fs)

  -- the candidates of degrees 1 to n, by degree
  abbrev pub AreCandidates : List (Generator (Vector (largest_residue G))) → ℕ → List Polynomial → Type 0
  AreCandidates gs zero fs = fs ≡ []
  AreCandidates gs (suc d) fs =
      (before : List Polynomial) × (new : List Polynomial) × AreCandidates gs d before
      × AreCandidatesIn gs (suc d) new × (fs ≡ before ++ new)
