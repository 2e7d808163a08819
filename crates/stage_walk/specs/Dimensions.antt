-- The dimensions of the free modules of a group's stages, and the first that is above the limit.
use Rattle.std.specs.Prelude.{◌≡◌, ℕ, ◌*◌, ◌<◌, ◌≤◌}
use Rattle.limits.specs.declared.TheConstants.{GREATEST_DIMENSION}
use Rattle.p_groups.specs.PGroups.{PGroup, order_of}
use Rattle.min_res.specs.Stages.{rank_of}

module _ (G : PGroup) where
  -- the dimension of the free module of degree d
  abbrev pub dimension : ℕ → ℕ
  dimension d = order_of G * rank_of G d

  -- no dimension in the degrees 1 to n is above the limit
  abbrev pub Fit : ℕ → Type 0
  Fit n = (d : ℕ) → 1 ≤ d → d ≤ n → dimension d ≤ GREATEST_DIMENSION

  -- X is the first dimension in the degrees 1 to n that is above the limit, and d its degree
  pub record IsFirstAbove (n d X : ℕ) : Type 0 where
    pub from : 1 ≤ d
    pub to : d ≤ n
    pub is : X ≡ dimension d
    pub above : GREATEST_DIMENSION < X
    pub first : (c : ℕ) → 1 ≤ c → c < d → dimension c ≤ GREATEST_DIMENSION
