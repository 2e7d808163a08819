-- The definitions at small values.
use Rattle.std.proofs.Common.{◌≡◌, [], ◌∷◌, refl}
use Rattle.graded_polynomials.specs.Polynomials.{product}

-- over degrees 1, 1, 2 and p = 3: x_1_2 x_1_1 = 2 x_1_1 x_1_2, x_1_1 x_1_2 is x_1_1 x_1_2, and x_1_1^2 is 0
exchanged : product 2 (1 ∷ 1 ∷ 2 ∷ []) (record { scalar = 1; monomial = 0 ∷ 1 ∷ [] } ∷ [])
    (record { scalar = 1; monomial = 1 ∷ [] } ∷ []) ≡ record { scalar = 2; monomial = 1 ∷ 1 ∷ [] } ∷ []
exchanged = refl

in-order : product 2 (1 ∷ 1 ∷ 2 ∷ []) (record { scalar = 1; monomial = 1 ∷ [] } ∷ [])
    (record { scalar = 1; monomial = 0 ∷ 1 ∷ [] } ∷ []) ≡ record { scalar = 1; monomial = 1 ∷ 1 ∷ [] } ∷ []
in-order = refl

square : product 2 (1 ∷ 1 ∷ 2 ∷ []) (record { scalar = 1; monomial = 1 ∷ [] } ∷ [])
    (record { scalar = 1; monomial = 1 ∷ [] } ∷ []) ≡ []
square = refl

-- a generator of even degree exchanges with no sign, and p = 2 has no sign and no square 0
even : product 2 (1 ∷ 1 ∷ 2 ∷ []) (record { scalar = 1; monomial = 0 ∷ 0 ∷ 1 ∷ [] } ∷ [])
    (record { scalar = 1; monomial = 1 ∷ [] } ∷ []) ≡ record { scalar = 1; monomial = 1 ∷ 0 ∷ 1 ∷ [] } ∷ []
even = refl

two : product 1 (1 ∷ 1 ∷ 2 ∷ []) (record { scalar = 1; monomial = 1 ∷ [] } ∷ [])
    (record { scalar = 1; monomial = 1 ∷ [] } ∷ []) ≡ record { scalar = 1; monomial = 2 ∷ [] } ∷ []
two = refl
