-- What the map of an embedding keeps.
use Rattle.std.specs.Prelude.{◌≡◌, ℕ, suc, ◌<◌, ◌≤◌, ◌^◌, List, length, slice_index_or}
use Rattle.p_groups.specs.PGroups.{PGroup}
use Rattle.elementary_subgroups.specs.Bases.{NumberedSubgroup, IsSubgroupOf}
use Rattle.min_res.specs.Defined.{IsStageAt}
use Rattle.chain_lift.specs.MapsAlong.{IsMapAlong}
use Rattle.chain_lift.specs.Embeddings.{elementary, elementary_over, embedding}
use Rattle.chain_lift.specs.EmbeddingValues.{EmbedValue}
use Rattle.chain_lift.specs.declared.level.Level.{Level}

-- the map of degree d with its stages, from the subgroup to the group
pub record IsEmbedLevel (G : PGroup) (basis : List ℕ) (d : ℕ) (l : Level) : Type 0 where
  pub source_is : IsStageAt (elementary G (length basis)) d l.source.value
  pub target_is : IsStageAt G d l.target.value
  pub rows_are : IsMapAlong G (elementary_over G (length basis)) (embedding G basis) d l.rows

-- the maps of degree 0 to the height of the embedding of a subgroup
pub record IsEmbedStore (v : EmbedValue) (s : NumberedSubgroup) (levels : List Level) : Type 0 where
  pub subgroup : IsSubgroupOf v.group.table s
  pub basis : s.basis ≡ v.basis
  pub count : length levels ≡ suc v.height
  pub few : length levels ≤ 2 ^ 32
  pub each : (d : ℕ) (l : Level) → d < length levels → IsEmbedLevel v.group v.basis d
      (slice_index_or levels d l)
