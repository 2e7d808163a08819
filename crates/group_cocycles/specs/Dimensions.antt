-- The dimensions of the cohomology of a p-group over the numbers modulo p.
use Rattle.std.specs.Prelude.{◌≡◌, ℕ, ◌*◌, List, [], ◌∷◌, length}
use Rattle.std.specs.List.{AllByRecursion as Each}
use Rattle.group_modules.specs.Field.{residue, plus}
use Rattle.linear_algebra.specs.Rows.{IsRow}
use Rattle.p_groups.specs.PGroups.{PGroup, largest_residue, prime_of}
use Rattle.group_cocycles.specs.Cocycles.{GroupCochain, IsCocycle, AreCohomologous}

module _ (G : PGroup) where
  -- the sum of the cochains us, each times the number that stands in its place in the row
  abbrev pub combination : List ℕ → List (GroupCochain G) → GroupCochain G
  combination [] us = λ t. residue (largest_residue G) 0
  combination (c ∷ x) [] = λ t. residue (largest_residue G) 0
  combination (c ∷ x) (u ∷ us) =
      λ t. plus (largest_residue G) (residue (largest_residue G) (c * (u t).0)) (combination x us t)

  -- x is the one row of numbers modulo p whose combination of us differs from u by a coboundary
  pub record AreCoefficients (d : ℕ) (us : List (GroupCochain G)) (u : GroupCochain G)
      (x : List ℕ) : Type 0 where
    pub row : IsRow (prime_of G) (length us) x
    pub cohomologous : AreCohomologous G d (combination x us) u
    pub only : (y : List ℕ) → IsRow (prime_of G) (length us) y
        → AreCohomologous G d (combination y us) u → y ≡ x

  -- us are cocycles of degree d, and each cocycle differs by a coboundary from exactly one combination of
  -- them: they are a basis of the cohomology of degree d
  pub record IsBasis (d : ℕ) (us : List (GroupCochain G)) : Type 0 where
    pub cocycles : Each (IsCocycle G d) us
    pub one : (u : GroupCochain G) → IsCocycle G d u → (x : List ℕ) × AreCoefficients d us u x

  -- the cohomology of degree d has the dimension m: a basis of it has m members
  abbrev pub IsDimension : ℕ → ℕ → Type 0
  IsDimension d m = (us : List (GroupCochain G)) × IsBasis d us × (length us ≡ m)
