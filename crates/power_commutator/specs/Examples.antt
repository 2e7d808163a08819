-- Examples: two consistent presentations, and two with a fault.
use Rattle.std.specs.Prelude.{◌≡◌, [], ◌∷◌, Some, None, refl}
use Rattle.power_commutator.specs.Presentations.{Presentation, first_fault, multiply, number, word_of}
use Rattle.power_commutator.specs.declared.TestName.TheVariants.{Fixed, Twist}

-- the quaternion group of order 8: g_1^2 = g_2^2 = [g_2, g_1] = g_3
quaternion : Presentation
quaternion = record {
  prime = 2;
  gens = 3;
  powers = (0 ∷ 0 ∷ 1 ∷ []) ∷ (0 ∷ 0 ∷ 1 ∷ []) ∷ (0 ∷ 0 ∷ 0 ∷ []) ∷ [];
  commutators = [] ∷ ((0 ∷ 0 ∷ 1 ∷ []) ∷ []) ∷ ((0 ∷ 0 ∷ 0 ∷ []) ∷ (0 ∷ 0 ∷ 0 ∷ []) ∷ []) ∷ [];
}

quaternion-consistent : first_fault quaternion ≡ None
unfolding quaternion
quaternion-consistent = refl

-- g_2 g_1 = g_1 g_2 g_3
quaternion-product : multiply quaternion (0 ∷ 1 ∷ 0 ∷ []) (1 ∷ 0 ∷ 0 ∷ []) ≡ 1 ∷ 1 ∷ 1 ∷ []
unfolding quaternion
quaternion-product = refl

-- g_1^2 = g_2, [g_2, g_1] = g_3
not-fixed : Presentation
not-fixed = record {
  prime = 2;
  gens = 3;
  powers = (0 ∷ 1 ∷ 0 ∷ []) ∷ (0 ∷ 0 ∷ 0 ∷ []) ∷ (0 ∷ 0 ∷ 0 ∷ []) ∷ [];
  commutators = [] ∷ ((0 ∷ 0 ∷ 1 ∷ []) ∷ []) ∷ ((0 ∷ 0 ∷ 0 ∷ []) ∷ (0 ∷ 0 ∷ 0 ∷ []) ∷ []) ∷ [];
}

not-fixed-fault : first_fault not-fixed ≡ Some (Fixed 1)
unfolding not-fixed
not-fixed-fault = refl

-- [g_2, g_1] = g_3, [g_3, g_1] = g_4
not-twisted : Presentation
not-twisted = record {
  prime = 2;
  gens = 4;
  powers = (0 ∷ 0 ∷ 0 ∷ 0 ∷ []) ∷ (0 ∷ 0 ∷ 0 ∷ 0 ∷ []) ∷ (0 ∷ 0 ∷ 0 ∷ 0 ∷ []) ∷ (0 ∷ 0 ∷ 0 ∷ 0 ∷ []) ∷ [];
  commutators =
      []
      ∷ ((0 ∷ 0 ∷ 1 ∷ 0 ∷ []) ∷ [])
      ∷ ((0 ∷ 0 ∷ 0 ∷ 1 ∷ []) ∷ (0 ∷ 0 ∷ 0 ∷ 0 ∷ []) ∷ [])
      ∷ ((0 ∷ 0 ∷ 0 ∷ 0 ∷ []) ∷ (0 ∷ 0 ∷ 0 ∷ 0 ∷ []) ∷ (0 ∷ 0 ∷ 0 ∷ 0 ∷ []) ∷ [])
      ∷ [];
}

not-twisted-fault : first_fault not-twisted ≡ Some (Twist 1 2)
unfolding not-twisted
not-twisted-fault = refl

numbers : number 3 (2 ∷ 0 ∷ 1 ∷ []) ≡ 11
numbers = refl

words : word_of 3 3 11 ≡ 2 ∷ 0 ∷ 1 ∷ []
words = refl
