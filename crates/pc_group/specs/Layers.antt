-- What a layer of a presentation is by numbers, and the tests of a layer by kinds.
use Rattle.std.specs.Prelude.{◌≡◌, ℕ, suc, ◌+◌, ◌-◌, ◌*◌, ◌^◌, ◌<◌, ◌≤◌, List, [], ◌∷◌, map, drop}
use Rattle.power_commutator.specs.Presentations.{Presentation as Presented, IsPresentation, Equation, number}
use Rattle.power_commutator.specs.Presentations.{power_word, commutator_word, product, power_test, swap_test}
use Rattle.power_commutator.specs.Presentations.{fixed_test, twist_test, range, pairs}
use Rattle.power_commutator.specs.Steps.{step_alpha, step_table}
use Rattle.pc_group.specs.Tables.{at}
use Rattle.pc_group.specs.Squares.{times, IsTableOf}
use Rattle.pc_group.specs.declared.layer.Layer.{Layer}

-- L is the layer of P after g_i, which has m generators: its product, α_i, and the words and generators there
pub record IsLayerOf (P : Presented) (m : ℕ) (L : Layer) : Type 0 where
  pub some : 1 < P.prime
  pub valid : IsPresentation P
  pub prime-is : L.prime ≡ P.prime
  pub gens-is : P.gens ≡ L.gens
  pub index : 0 < L.index
  pub count : L.index + m ≡ P.gens
  pub table-is : IsTableOf P (suc L.index) m L.table
  pub images-are : (k : ℕ) → k < L.table.width
      → at L.images.items k ≡ step_alpha P (times L.table) L.index m k
  pub powers-are : (j : ℕ) → L.index ≤ j → j ≤ P.gens
      → at L.powers.items j ≡ number P.prime (drop L.index (power_word P j))
  pub commutators-are : (k j : ℕ) → L.index < j → j < k → k ≤ P.gens
      → at L.commutators.items (k * (P.gens + 1) + j) ≡ number P.prime (drop L.index (commutator_word P k j))
  pub generators-are : (j : ℕ) → L.index < j → j ≤ P.gens
      → at L.generators.items j ≡ P.prime ^ (j - suc L.index)

-- the product with g_i
abbrev pub product_of : Layer → ℕ → ℕ → ℕ
product_of L = step_table L.prime (times L.table) (at L.powers.items L.index) (at L.images.items)

-- the tests of layer i, which are equations in the layer of m generators after g_i
abbrev pub power_tests : Presented → (i m : ℕ) → List Equation
power_tests P i m = map (power_test P (product P (suc i) m) i m) (range (suc i) m)

abbrev pub swap_tests : Presented → (i m : ℕ) → List Equation
swap_tests P i m = pairs (swap_test P (product P (suc i) m) i m) (suc i) m

abbrev pub fixed_tests : Presented → (i m : ℕ) → List Equation
fixed_tests P i m = fixed_test P (product P (suc i) m) i m ∷ []

abbrev pub twist_tests : Presented → (i m : ℕ) → List Equation
twist_tests P i m = map (twist_test P (product P (suc i) m) i m) (range (suc i) m)
