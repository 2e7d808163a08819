-- What a resolution keeps of its stages.
use Rattle.std.specs.Prelude.{◌≡◌, ℕ, suc, ◌<◌, ◌≤◌, ◌^◌, List, length, map, slice_index_or}
use Rattle.std.specs.Prelude.{Option, Some}
use Rattle.std.specs.declared.rc.Rc.{Rc}
use Rattle.p_groups.specs.PGroups.{PGroup}
use Rattle.neg_basis.specs.Results.{BasisValue}
use Rattle.min_res.specs.Radicals.{IsRadicalBasis}
use Rattle.min_res.specs.Values.{StageValue}
use Rattle.min_res.specs.Defined.{IsStageAt}

-- the stages that shared pointers hold
abbrev pub stage_values : {Z : Type 0} → List (Rc StageValue Z) → List StageValue
stage_values stages = map (λ s. s.value) stages

-- the stages of the group from degree 0 on, of which there is one at least, how many of those above degree 0
-- elimination made, and the basis of J K_(d-1) where it made the last of them, that of a degree d
pub record IsResolutionStore (G : PGroup) (stages : List StageValue) (computed : ℕ)
    (radical : Option BasisValue) : Type 0 where
  pub some : 0 < length stages
  pub few : length stages ≤ 2 ^ 32
  pub computed_fits : computed < length stages
  pub each : (d : ℕ) (s : StageValue) → d < length stages → IsStageAt G d (slice_index_or stages d s)
  pub small : (d : ℕ) (s : StageValue) → d < length stages → (slice_index_or stages d s).kernel.width ≤ 2 ^ 28
  pub radical_is : (B : BasisValue) → radical ≡ Some B
      → (d : ℕ) × (length stages ≡ suc (suc d)) × IsRadicalBasis G d B
