-- The group of a consistent presentation, by the numbers of its elements.
use Rattle.std.specs.Prelude.{◌≡◌, ℕ, ◌-◌, ◌^◌, ◌<◌, ◌≤◌}
use Rattle.group_table.specs.Tables.{GroupTable, IsGroupTable, order, product, power}
use Rattle.power_commutator.specs.Presentations.{Presentation as Presented, number, word_of, multiply}
use Rattle.power_commutator.specs.Presentations.{power_word, commutator_word}

-- the number of g_i
abbrev pub generator_number : Presented → ℕ → ℕ
generator_number P i = P.prime ^ (i - 1)

-- c is the commutator [a, b] = a^-1 b^-1 a b, since a b = b a c
abbrev pub IsCommutator : GroupTable → (a b c : ℕ) → Type 0
IsCommutator G a b c = product G a b ≡ product G b (product G a c)

-- G has p^n elements, and the product of two of them is the number of the product of the elements with these
-- numbers
pub record IsGroupOf (P : Presented) (G : GroupTable) : Type 0 where
  pub prime-is : G.p ≡ P.prime
  pub rank-is : G.n ≡ P.gens
  pub group : IsGroupTable G
  pub product-is : (a b : ℕ) → a < order G → b < order G
      → product G a b ≡ number P.prime (multiply P (word_of P.prime P.gens a) (word_of P.prime P.gens b))

-- g_i^p is the element of the word w_i
abbrev pub HasPowers : Presented → GroupTable → Type 0
HasPowers P G = (i : ℕ) → 0 < i → i ≤ P.gens
    → power G (generator_number P i) P.prime ≡ number P.prime (power_word P i)

-- [g_j, g_i] is the element of the word c_{j,i}
abbrev pub HasCommutators : Presented → GroupTable → Type 0
HasCommutators P G = (j i : ℕ) → 0 < i → i < j → j ≤ P.gens
    → IsCommutator G (generator_number P j) (generator_number P i) (number P.prime (commutator_word P j i))
