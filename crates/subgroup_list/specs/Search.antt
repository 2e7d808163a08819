-- What the search for maximal sets of commuting elements goes by.
use Rattle.std.specs.Prelude.{◌≡◌, ℕ, List, [], ◌∷◌, ◌++◌, ◌⊎◌, map, Vec}
use Rattle.group_table.specs.Tables.{GroupTable}
use Rattle.elementary_subgroups.specs.Cliques.{Commutes, CommutesWithAll, IsFull, IsTorsion}
use Rattle.elementary_subgroups.specs.Sets.{IsAscending, IsBefore, IsIn, IsSet}
use Rattle.elementary_subgroups.specs.Subgroups.{IsLeast}

-- ys takes or leaves each member of xs in turn
abbrev pub IsSublist : List ℕ → List ℕ → Type 0
IsSublist ys [] = ys ≡ []
IsSublist ys (x ∷ xs) = ((zs : List ℕ) × (ys ≡ x ∷ zs) × IsSublist zs xs) ⊎ IsSublist ys xs

-- a place of the search: the chosen elements commute, the others commute with them,
-- and every element that does is one of the three
pub record IsPlace (G : GroupTable) (chosen free barred : List ℕ) : Type 0 where
  pub is_set : IsSet (chosen ++ free)
  pub torsion : (x : ℕ) → IsIn x chosen → IsTorsion G x
  pub commutes : (x y : ℕ) → IsIn x chosen → IsIn y chosen → Commutes G x y
  pub free_torsion : (x : ℕ) → IsIn x free → IsTorsion G x
  pub free_commutes : (x : ℕ) → IsIn x free → CommutesWithAll G x chosen
  pub barred_torsion : (x : ℕ) → IsIn x barred → IsTorsion G x
  pub barred_commutes : (x : ℕ) → IsIn x barred → CommutesWithAll G x chosen
  pub apart : (x : ℕ) → IsIn x barred → IsIn x (chosen ++ free) → ⊥
  pub covers : (x : ℕ) → IsTorsion G x → CommutesWithAll G x chosen → IsIn x (chosen ++ free) ⊎ IsIn x barred

-- the full sets, least in their class, that consist of the chosen elements and some free ones
pub record IsFound (G : GroupTable) (chosen free : List ℕ) (ms : List (List ℕ)) : Type 0 where
  pub each : (m : List ℕ) → IsIn m ms →
      (more : List ℕ) × (m ≡ chosen ++ more) × IsSublist more free × IsFull G m × IsLeast G m
  pub complete : (more : List ℕ) → IsSublist more free → IsFull G (chosen ++ more) →
      IsLeast G (chosen ++ more) → IsIn (chosen ++ more) ms
  pub ascending : IsAscending IsBefore ms

-- the full set alone, or nothing where it is not least in its class
abbrev pub IsKept : GroupTable → List ℕ → List (List ℕ) → Type 0
IsKept G m ms = ((ms ≡ m ∷ []) × IsLeast G m) ⊎ ((ms ≡ []) × (IsLeast G m → ⊥))

-- some barred element commutes with all the free ones
abbrev pub IsBlocked : GroupTable → List ℕ → List ℕ → Type 0
IsBlocked G free barred = (x : ℕ) × IsIn x barred × CommutesWithAll G x free

-- the lists of the vectors
abbrev pub lists : {A : Type 0} → List (Vec ℕ A) → List (List ℕ)
lists vs = map (λ v. v.items) vs
