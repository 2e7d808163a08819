-- What the relations of a text keep to.
use Rattle.std.specs.Prelude.{◌≡◌, ◌<◌, ◌≤◌, ℕ, false, List, [], ◌∷◌, ◌++◌, All, Some}
use Rattle.limits.specs.declared.TheConstants.{MOST_GENERATORS}
use Rattle.power_commutator.specs.Presentations.{IsWord}
use Rattle.pc_text.specs.declared.place.Place.{Place}
use Rattle.pc_text.specs.declared.place.Place.TheVariants.{Power, Commutator}
use Rattle.pc_text.specs.Relations.{Relation, least, stands}
use Rattle.pc_text.specs.Texts.{Content, prime}

-- a left side over n generators
abbrev pub IsPlace : ℕ → Place → Type 0
IsPlace n (Power i) = (0 < i) × (i ≤ n)
IsPlace n (Commutator j i) = (0 < i) × (i < j) × (j ≤ n)

-- the word of a power of g_i has generators after i, and that of [g_j, g_i] generators after j
pub record IsRelation (p n : ℕ) (r : Relation) : Type 0 where
  pub place : IsPlace n r.place
  pub word : IsWord p n (least r.place) r.word

-- none of these left sides stands before it, where the earlier ones come first
abbrev pub AreNew : List Relation → List Relation → Type 0
AreNew earlier [] = Unit {0}
AreNew earlier (r ∷ relations) = (stands r.place earlier ≡ false) × AreNew (earlier ++ r ∷ []) relations

-- a listed prime, not too many generators, and relations with different left sides
pub record IsContent (c : Content) : Type 0 where
  pub prime : prime c.prime ≡ Some c.prime
  pub few : c.gens ≤ MOST_GENERATORS
  pub relations : All (IsRelation c.prime c.gens) c.relations
  pub once : AreNew [] c.relations
