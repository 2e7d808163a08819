use Rattle.resolution_stages.proofs.FromDefinitions.{resolution-claims}
use Rattle.p_groups.specs.PGroups.{largest_residue, group}
use Rattle.p_groups.proofs.Fields.{field}
use Rattle.group_algebra.specs.Coordinates.{layer_coordinates}
use Rattle.min_res.specs.Stages.{stage_rows}
use Rattle.min_res.proofs.StageRows.{stage_rows_are}
use Rattle.chain_maps.specs.Vectors.{vector}
use Rattle.bar_comparison.proofs.Classes.{bar-normal, bar-cocycle}
use Rattle.bar_comparison.proofs.Stages.{stages}
use Rattle.group_cocycles.proofs.cocycle_law.Goals as goal

pub returns : goal.returns
returns c G d x = (
  bar-normal (stages (largest_residue G) (group G) (layer_coordinates G) (stage_rows G)
      (resolution-claims (largest_residue G) (field G) (group G) (layer_coordinates G) (stage_rows G)
      (stage_rows_are G))) d (λ i. vector (largest_residue G) x i.0),
  bar-cocycle (stages (largest_residue G) (group G) (layer_coordinates G) (stage_rows G)
      (resolution-claims (largest_residue G) (field G) (group G) (layer_coordinates G) (stage_rows G)
      (stage_rows_are G))) d (λ i. vector (largest_residue G) x i.0),
)
