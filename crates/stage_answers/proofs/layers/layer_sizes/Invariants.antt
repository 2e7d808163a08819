use Rattle.std.proofs.Common.{◌≡◌}
use Rattle.group_algebra.specs.Coordinates.{layers}
use Rattle.radical_layers.specs.LayerBasis.{sizes_from}
use Rattle.stage_answers.proofs.layers.layer_sizes.Given as goal

abbrev pub invariant-loop-i : goal.invariant-loop-i
invariant-loop-i l = l.found.items ≡ sizes_from (layers l.algebra).positions 0 l.i
