-- The definitions at the example C4 x C4 for p = 2: generators of degrees 1, 1, 2, 2 with the relations x1^2
-- and x2^2.
use Rattle.std.proofs.Common.{◌≡◌, ℕ, zero, suc, ◌-◌, List, [], ◌∷◌, length, Bool, ◌||◌, ◌&&◌, eqb, leb, cond}
use Rattle.std.proofs.Common.{refl}
use Rattle.graded_polynomials.specs.Monomials.{exponent}
use Rattle.ring_completion.specs.Completions.{generator_times}
use Rattle.graded_polynomials.specs.AllMonomials.{all_monomials}

abbrev ds : List ℕ
ds = 1 ∷ 1 ∷ 2 ∷ 2 ∷ []

-- the standard monomials: those with exponents at most 1 at x1 and x2
abbrev standard : List ℕ → Bool
standard m = leb (exponent m 0) 1 && leb (exponent m 1) 1

-- m without a factor of generator i
abbrev less : ℕ → List ℕ → List ℕ
less i [] = []
less zero (e ∷ m) = (e - 1) ∷ m
less (suc i) (e ∷ m) = e ∷ less i m

abbrev quotient_standard : ℕ → List ℕ → Bool
quotient_standard i m = eqb (exponent m i) 0 || standard (less i m)

abbrev candidate : List ℕ → Bool
candidate m =
    quotient_standard 0 m && (quotient_standard 1 m && (quotient_standard 2 m && quotient_standard 3 m))

abbrev those : (List ℕ → Bool) → List (List ℕ) → List (List ℕ)
those f [] = []
those f (m ∷ ms) = cond (f m) (m ∷ those f ms) (those f ms)

-- degree 4 has 14 monomials
all-of-degree-4 : length (all_monomials 1 ds 4) ≡ 14
all-of-degree-4 = refl

-- and 5 candidates: x1 x2 y1, x1 x2 y2, y1^2, y1 y2, y2^2
candidates-of-degree-4 : those candidate (all_monomials 1 ds 4)
    ≡ (1 ∷ 1 ∷ 1 ∷ []) ∷ (1 ∷ 1 ∷ 0 ∷ 1 ∷ []) ∷ (0 ∷ 0 ∷ 2 ∷ []) ∷ (0 ∷ 0 ∷ 1 ∷ 1 ∷ [])
    ∷ (0 ∷ 0 ∷ 0 ∷ 2 ∷ []) ∷ []
candidates-of-degree-4 = refl

-- in degree 2 the candidates that are not standard are x1^2 and x2^2, the leading monomials of the relations
candidates-of-degree-2 : those candidate (all_monomials 1 ds 2)
    ≡ (2 ∷ []) ∷ (1 ∷ 1 ∷ []) ∷ (0 ∷ 2 ∷ []) ∷ (0 ∷ 0 ∷ 1 ∷ []) ∷ (0 ∷ 0 ∷ 0 ∷ 1 ∷ []) ∷ []
candidates-of-degree-2 = refl

-- x2 times x1, over p = 3, has the sign of the exchange
with-sign : generator_times 2 ds 1 (1 ∷ []) ≡ record { scalar = 2; monomial = 1 ∷ 1 ∷ [] } ∷ []
with-sign = refl
