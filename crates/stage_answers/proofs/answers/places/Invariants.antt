use Rattle.std.proofs.Common.{◌≡◌, ◌+◌, ◌++◌, take, codes, flat_map, string_bytes}
use Rattle.min_res.specs.Values.{boundary_of}
use Rattle.coho_steps.specs.Lines.{after_space}
use Rattle.stage_answers.proofs.answers.places.Given as goal

abbrev pub invariant-loop-i : goal.invariant-loop-i
invariant-loop-i l = string_bytes l.text ≡ codes " rows" ++ flat_map (λ i. after_space (i + 1))
    (take l.i (boundary_of l.stage).positions)
