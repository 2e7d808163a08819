use Rattle.std.proofs.Common.{◌≡◌, ◌++◌, take, codes, flat_map, string_bytes}
use Rattle.coho_steps.specs.Lines.{after_space}
use Rattle.stage_answers.proofs.answers.layers_line.Given as goal

abbrev pub invariant-loop-dimension : goal.invariant-loop-dimension
invariant-loop-dimension l = string_bytes l.text ≡ codes "layers" ++ flat_map after_space
    (take l.dimension-index l.dimensions)
