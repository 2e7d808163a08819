-- The candidates of a degree as a list that is made from the standard monomials of lower degrees, each by its
-- first factor.
use Rattle.std.specs.Prelude.{ℕ, zero, suc, ◌-◌, ◌<◌, Bool, true, false, cond, ◌||◌, ◌&&◌, eqb, leb, List, []}
use Rattle.std.specs.Prelude.{◌∷◌, ◌++◌, length, slice_index_or}
use Rattle.graded_polynomials.specs.Monomials.{exponent, fits, joined, same}
use Rattle.graded_polynomials.specs.Texts.{power}
use Rattle.graded_algebra.specs.Algebras.{Algebra, Generator, degrees}
use Rattle.graded_algebra.specs.Presentations.{IsStandard}
use Rattle.ring_completion.specs.Candidates.{AreSome, IsListed}
use Rattle.ring_completion.specs.Completions.{IsStandardOf}

-- the standard monomials of degree e, where lists has those of degrees 1, 2, ..
abbrev pub standard_of : List (List (List ℕ)) → ℕ → List (List ℕ)
standard_of lists zero = [] ∷ []
standard_of lists (suc e) = slice_index_or lists e []

-- lists has all standard monomials of the degrees 1 to n, each degree in descending order
pub record AreStandardLists (q : ℕ) {V : Type 0} (A : Algebra V) (gs : List (Generator V)) (n : ℕ)
    (lists : List (List (List ℕ))) : Type 0 where
  pub some : (e : ℕ) → e < n → AreSome q (degrees gs) (suc e) (slice_index_or lists e [])
  pub each : (e k : ℕ) → e < n → k < length (slice_index_or lists e [])
      → IsStandard q A gs (suc e) (slice_index_or (slice_index_or lists e []) k [])
  pub all : (e : ℕ) (m : List ℕ) → e < n → IsStandardOf q A gs (suc e) m
      → IsListed (slice_index_or lists e []) m

-- an exponent in front, without a zero at the end
abbrev pub put : ℕ → List ℕ → List ℕ
put zero [] = []
put (suc x) [] = suc x ∷ []
put x (y ∷ k) = x ∷ y ∷ k

-- m without one factor of generator i
abbrev pub without_factor : ℕ → List ℕ → List ℕ
without_factor i [] = []
without_factor zero (e ∷ m) = put (e - 1) m
without_factor (suc i) (e ∷ m) = put e (without_factor i m)

-- m stands in the list
abbrev pub is_listed : List (List ℕ) → List ℕ → Bool
is_listed [] m = false
is_listed (a ∷ ms) m = same a m || is_listed ms m

-- no generator before i is a factor
abbrev pub is_clear_before : ℕ → List ℕ → Bool
is_clear_before zero s = true
is_clear_before (suc i) [] = true
is_clear_before (suc i) (e ∷ s) = eqb e 0 && is_clear_before i s

-- the quotients of m, of degree d, by the generators from i on, with the degrees es, are standard
abbrev pub has_standard_quotients : List (List (List ℕ)) → ℕ → List ℕ → ℕ → List ℕ → Bool
has_standard_quotients lists d m i [] = true
has_standard_quotients lists d m i (e ∷ es) =
    (eqb (exponent m i) 0 || is_listed (standard_of lists (d - e)) (without_factor i m))
    && has_standard_quotients lists d m (suc i) es

-- the candidates among the products of generator i with these monomials
abbrev pub products_with : ℕ → List ℕ → List (List (List ℕ)) → ℕ → ℕ → List (List ℕ) → List (List ℕ)
products_with q ds lists d i [] = []
products_with q ds lists d i (s ∷ ss) =
    cond (is_clear_before i s
    && (fits q ds (joined (power i 1) s) && has_standard_quotients lists d (joined (power i 1) s) 0 ds))
    (joined (power i 1) s ∷ products_with q ds lists d i ss) (products_with q ds lists d i ss)

-- the candidates of degree d with their first factors among the generators from i on, with the degrees es
abbrev pub candidates_from : ℕ → List ℕ → List (List (List ℕ)) → ℕ → ℕ → List ℕ → List (List ℕ)
candidates_from q ds lists d i [] = []
candidates_from q ds lists d i (e ∷ es) =
    cond (leb e d) (products_with q ds lists d i (standard_of lists (d - e))) []
    ++ candidates_from q ds lists d (suc i) es

-- the candidates of degree d
abbrev pub candidates_of : ℕ → List ℕ → List (List (List ℕ)) → ℕ → List (List ℕ)
candidates_of q ds lists d = candidates_from q ds lists d 0 ds
