-- The list of all monomials of a degree.
use Rattle.std.specs.Prelude.{ℕ, zero, suc, ◌-◌, ◌*◌, nat_le, if◌then◌else◌, List, [], ◌∷◌, ◌++◌, map}
use Rattle.graded_polynomials.specs.Monomials.{is_exterior}

-- the exponents of the first generator, of degree g, from e down to 0, each before the monomials in the
-- others that fill the degree d
abbrev pub with_first : (ℕ → List (List ℕ)) → ℕ → ℕ → ℕ → List (List ℕ)
with_first others g d zero = map (λ m. 0 ∷ m) (others d)
with_first others g d (suc e) =
    (if nat_le (suc e * g) d then map (λ m. suc e ∷ m)
    (others (d - suc e * g)) else []) ++ with_first others g d e

-- the monomials of degree d, in descending order
abbrev pub all_monomials : ℕ → List ℕ → ℕ → List (List ℕ)
all_monomials q [] zero = [] ∷ []
all_monomials q [] (suc d) = []
all_monomials q (g ∷ ds) zero = [] ∷ []
all_monomials q (g ∷ ds) (suc d) =
    with_first (λ r. all_monomials q ds r) g (suc d) (if is_exterior q g then 1 else suc d)
