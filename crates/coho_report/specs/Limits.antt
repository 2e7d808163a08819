-- The limit on the dimensions of the free modules over the subgroups.
use Rattle.std.specs.Prelude.{◌≡◌, ℕ, suc, ◌*◌, ◌<◌, ◌≤◌, min, List, ◌∷◌, ◌++◌, length}
use Rattle.p_groups.specs.PGroups.{PGroup, order_of}
use Rattle.elementary_subgroups.specs.Bases.{NumberedSubgroup, IsSubgroupList}
use Rattle.elementary_subgroups.specs.Sets.{IsIn}
use Rattle.min_res.specs.Stages.{rank_of}
use Rattle.chain_lift.specs.Embeddings.{elementary}

-- the dimension of the free module of degree d of the minimal resolution
abbrev pub dimension : PGroup → ℕ → ℕ
dimension E d = order_of E * rank_of E d

-- no dimension in the degrees 1 to n is above the limit
abbrev pub HasSmallStages : PGroup → ℕ → ℕ → Type 0
HasSmallStages E n limit = (d : ℕ) → 1 ≤ d → d ≤ n → dimension E d ≤ limit

-- X is the first dimension in the degrees 1 to n that is above the limit, and d its degree
pub record IsFirstLarge (E : PGroup) (n limit d X : ℕ) : Type 0 where
  pub from : 1 ≤ d
  pub to : d ≤ n
  pub is : X ≡ dimension E d
  pub above : limit < X
  pub first : (c : ℕ) → 1 ≤ c → c < d → dimension E c ≤ limit

module _ (G : PGroup) where
  -- no dimension over the subgroup, in its own numbering, is above the limit
  abbrev pub IsSmall : ℕ → ℕ → NumberedSubgroup → Type 0
  IsSmall n limit s = HasSmallStages (elementary G (length s.basis)) n limit

  -- the same of each listed subgroup
  abbrev pub AreSmall : ℕ → ℕ → Type 0
  AreSmall n limit = (ss : List NumberedSubgroup) → IsSubgroupList G.table ss → (s : NumberedSubgroup)
      → IsIn s ss → IsSmall n limit s

  -- in the list of subgroups this one, with its number counted from 1 (or the greatest number of 32 bits), is
  -- the first over which a dimension is above the limit; X is the first such dimension, and d its degree
  pub record IsFirstLargeSubgroup (n limit number d X : ℕ) : Type 0 where
    pub before : List NumberedSubgroup
    pub subgroup : NumberedSubgroup
    pub after : List NumberedSubgroup
    pub listed : IsSubgroupList G.table (before ++ subgroup ∷ after)
    pub number_is : number ≡ min (suc (length before)) 4294967295
    pub small : (s : NumberedSubgroup) → IsIn s before → IsSmall n limit s
    pub large : IsFirstLarge (elementary G (length subgroup.basis)) n limit d X
