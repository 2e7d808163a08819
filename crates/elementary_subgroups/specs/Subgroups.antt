-- The maximal elementary abelian subgroups of a group, one of each conjugacy class (Quillen 1971).
use Rattle.std.specs.Prelude.{◌≡◌, ℕ, ◌<◌, List, ◌⊎◌}
use Rattle.group_table.specs.Tables.{GroupTable, order, product, power}
use Rattle.elementary_subgroups.specs.Sets.{IsIn, IsAscending, IsSet, IsSubset, IsBefore}

-- a set of elements that contains 0, is closed under the product, commutes, and has all p-th powers 0
pub record IsElementary (G : GroupTable) (m : List ℕ) : Type 0 where
  pub is_set : IsSet m
  pub elements : (x : ℕ) → IsIn x m → x < order G
  pub identity : IsIn 0 m
  pub closed : (x y : ℕ) → IsIn x m → IsIn y m → IsIn (product G x y) m
  pub commutes : (x y : ℕ) → IsIn x m → IsIn y m → product G x y ≡ product G y x
  pub exponent : (x : ℕ) → IsIn x m → power G x G.p ≡ 0

-- one that lies in no larger one
pub record IsMaximalElementary (G : GroupTable) (m : List ℕ) : Type 0 where
  pub elementary : IsElementary G m
  pub maximal : (l : List ℕ) → IsElementary G l → IsSubset m l → l ≡ m

-- l is the set of all y with g y = x g, that is y = g^-1 x g, for x in m
pub record IsConjugateBy (G : GroupTable) (g : ℕ) (m l : List ℕ) : Type 0 where
  pub is_set : IsSet l
  pub elements : (y : ℕ) → IsIn y l → y < order G
  pub takes : (x : ℕ) → IsIn x m → (y : ℕ) × IsIn y l × (product G g y ≡ product G x g)
  pub comes : (y : ℕ) → IsIn y l → (x : ℕ) × IsIn x m × (product G g y ≡ product G x g)

abbrev pub IsConjugate : GroupTable → List ℕ → List ℕ → Type 0
IsConjugate G m l = (g : ℕ) × (g < order G) × IsConjugateBy G g m l

-- no conjugate has a list that comes before
abbrev pub IsLeast : GroupTable → List ℕ → Type 0
IsLeast G m = (l : List ℕ) → IsConjugate G m l → (m ≡ l) ⊎ IsBefore m l

-- the list of all maximal elementary abelian subgroups that are least in their class
pub record IsMaximalElementaryList (G : GroupTable) (ms : List (List ℕ)) : Type 0 where
  pub each : (m : List ℕ) → IsIn m ms → IsMaximalElementary G m × IsLeast G m
  pub complete : (m : List ℕ) → IsMaximalElementary G m → IsLeast G m → IsIn m ms
  pub ascending : IsAscending IsBefore ms

-- l is the only one of the lists to which m is conjugate
pub record IsOnlyConjugate (G : GroupTable) (m : List ℕ) (ms : List (List ℕ)) (l : List ℕ) : Type 0 where
  pub listed : IsIn l ms
  pub conjugate : IsConjugate G m l
  pub only : (k : List ℕ) → IsIn k ms → IsConjugate G m k → k ≡ l
