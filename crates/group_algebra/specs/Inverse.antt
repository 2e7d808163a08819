-- Coefficients and layer coordinates of the members of kG, one from the other.
use Rattle.std.specs.Prelude.{◌≡◌, ℕ, List}
use Rattle.linear_algebra.specs.Rows.{IsRow}
use Rattle.p_groups.specs.PGroups.{PGroup, order_of, prime_of}
use Rattle.group_algebra.specs.Coordinates.{free_module, row_of, table_of, AreCoefficients}

module _ (G : PGroup) where
  -- x holds the layer coordinates of the member with the coefficients a
  abbrev pub AreLayersOf : List ℕ → List ℕ → Type 0
  AreLayersOf a x = (v : (free_module G 1).of) → AreCoefficients G a v → x ≡ row_of G 1 v

  -- a holds the coefficients of the member with the layer coordinates x
  abbrev pub AreCoefficientsOf : List ℕ → List ℕ → Type 0
  AreCoefficientsOf x a = AreCoefficients G a (table_of G 1 x)

  -- on rows of the length of kG each gives back what the other was given
  pub record AreInverse : Type 0 where
    pub back : (a x b : List ℕ) → IsRow (prime_of G) (order_of G) a → AreLayersOf a x → AreCoefficientsOf x b
        → b ≡ a
    pub forth : (x a y : List ℕ) → IsRow (prime_of G) (order_of G) x → AreCoefficientsOf x a → AreLayersOf a y
        → y ≡ x
