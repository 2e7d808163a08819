-- Products of generators by their numbers.
use Rattle.std.specs.Prelude.{ℕ, zero, suc, ◌<◌, ◌≤◌, List, [], ◌∷◌, ◌++◌, All}
use Rattle.power_commutator.specs.Presentations.{Presentation, identity, generator, multiply}

-- the product of the g_i for the i of a list
abbrev pub product_of : Presentation → List ℕ → List ℕ
product_of P [] = identity P.gens
product_of P (i ∷ is) = multiply P (generator 1 P.gens i) (product_of P is)

-- the i of the factors of a word, in ascending order
abbrev pub copies : ℕ → ℕ → List ℕ
copies zero i = []
copies (suc e) i = i ∷ copies e i

abbrev pub spell : ℕ → List ℕ → List ℕ
spell i [] = []
spell i (e ∷ es) = copies e i ++ spell (suc i) es

-- each i is the number of a generator
abbrev pub AreGenerators : Presentation → List ℕ → Type 0
AreGenerators P is = All (λ i. (0 < i) × i ≤ P.gens) is
