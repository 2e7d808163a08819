-- The classes of a p-group, with products by chain lifts, as a graded algebra.
use Rattle.p_groups.specs.PGroups.{PGroup, largest_residue, group}
use Rattle.p_groups.proofs.Fields.{field}
use Rattle.group_algebra.specs.Coordinates.{layer_coordinates}
use Rattle.graded_algebra.specs.Vectors.{GradedAlgebra}
use Rattle.cohomology_algebra.proofs.Ring.{graded}
use Rattle.min_res.specs.Stages.{stage_rows}
use Rattle.min_res.proofs.StageRows.{stage_rows_are}

abbrev pub graded_classes : (G : PGroup) → GradedAlgebra (largest_residue G)
graded_classes G =
    graded (largest_residue G) (group G) (layer_coordinates G) (stage_rows G) (field G) (stage_rows_are G)
