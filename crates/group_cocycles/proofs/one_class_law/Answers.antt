use Rattle.std.proofs.Common.{sym}
use mathlib.Core.Path.{subst}
use Rattle.group_modules.specs.Tables.{monoid}
use Rattle.resolution_stages.proofs.FromDefinitions.{resolution-claims}
use Rattle.p_groups.specs.PGroups.{largest_residue, group}
use Rattle.p_groups.proofs.Fields.{field}
use Rattle.group_algebra.specs.Coordinates.{layer_coordinates}
use Rattle.min_res.specs.Stages.{stage_rows}
use Rattle.min_res.proofs.StageRows.{stage_rows_are}
use Rattle.bar_comparison.specs.Comparison.{bar_cocycle}
use Rattle.bar_comparison.proofs.Classes.{one-class}
use Rattle.bar_comparison.proofs.Stages.{stages}
use Rattle.bar_complex.specs.Cochains.{AreCohomologous}
use Rattle.bar_complex.proofs.Cohomologous.{near-sym}
use Rattle.group_cocycles.proofs.Classes.{row_of_class, class-row}
use Rattle.group_cocycles.proofs.one_class_law.Goals as goal

pub returns : goal.returns
returns c G d u z =
    let q = largest_residue G in
    let cocycle = bar_cocycle q (group G) (layer_coordinates G) (stage_rows G) d in
    let found = one-class (stages q (group G) (layer_coordinates G) (stage_rows G)
    (resolution-claims q (field G) (group G) (layer_coordinates G) (stage_rows G) (stage_rows_are G))) d u z
    in (
      row_of_class G d found.0,
      class-row G d u found.0 (λ v. (
        (λ h. found.2 v (near-sym q (monoid (group G)) d (cocycle v) u h)),
        (λ e. subst (λ v. AreCohomologous q (monoid (group G)) d (cocycle v) u) (sym e)
            (near-sym q (monoid (group G)) d u (cocycle found.0) found.1)),
      )),
    )
