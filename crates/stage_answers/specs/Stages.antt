-- The stages of the minimal resolution of a presentation's group.
use Rattle.std.specs.Prelude.{◌≡◌, ℕ, zero, suc, ◌<◌, List, [], ◌∷◌, ◌++◌, length, MatchOption}
use Rattle.std.specs.declared.option.Option.{Option}
use Rattle.std.specs.declared.option.Option.TheVariants.{None, Some}
use Rattle.std.specs.Option.{option_map}
use Rattle.p_groups.specs.PGroups.{PGroup}
use Rattle.min_res.specs.Values.{StageValue}
use Rattle.min_res.specs.Stages.{stage_rows, rank_of}
use Rattle.stage_walk.specs.Dimensions.{Fit, IsFirstAbove}
use Rattle.coho_steps.specs.Refusals.{stage_refused}
use Rattle.coho_steps.specs.Steps.{Refusal}

-- what an answer tells of a stage
pub record Summary : Type 0 where
  pub degree : ℕ
  pub rank : ℕ
  -- the dimension of the kernel
  pub kernel : ℕ
  -- the places of the boundary's rows in the echelon list of the kernel before, from 0; in degree 0 there is
  -- no boundary
  pub rows : Option (List ℕ)

abbrev pub summary : StageValue → Summary
summary s = record {
  degree = s.degree;
  rank = s.rank;
  kernel = length s.kernel.rows;
  rows = option_map (λ B. B.positions) s.boundary;
}

-- the boundary of a stage has as many rows as its rank, and in degree 0 there is none
abbrev pub HasRows : StageValue → Type 0
HasRows s = MatchOption s.boundary (s.degree ≡ 0) (λ B. (0 < s.degree) × (s.rank ≡ length B.positions))

module _ (G : PGroup) where
  abbrev pub rows_at : ℕ → Option (List ℕ)
  rows_at zero = None
  rows_at (suc d) = Some ((stage_rows G).positions d)

  -- the stage of degree d
  abbrev pub stage_at : ℕ → Summary
  stage_at d = record {
    degree = d;
    rank = rank_of G d;
    kernel = length ((stage_rows G).kernel d);
    rows = rows_at d;
  }

  -- the stages of the degrees below c, from 0 on
  abbrev pub stages_below : ℕ → List Summary
  stages_below zero = []
  stages_below (suc c) = stages_below c ++ stage_at c ∷ []

  -- the refusal names the first stage to degree n that does not fit
  abbrev pub IsStageRefusal : ℕ → Refusal → Type 0
  IsStageRefusal n refusal = (d : ℕ) × (X : ℕ) × IsFirstAbove G n d X × (refusal ≡ stage_refused d X)

  -- the stages of degree 0 to n, whose dimensions all fit
  pub record AreStagesTo (n : ℕ) (stages : List Summary) : Type 0 where
    pub fit : Fit G n
    pub are : stages ≡ stages_below (suc n)
