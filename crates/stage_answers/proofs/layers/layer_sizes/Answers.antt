use Rattle.std.proofs.Common.{[], ◌∷◌, ◌++◌, sym, ◌∙◌, ap}
use Rattle.group_algebra.specs.Coordinates.{layers}
use Rattle.radical_layers.specs.LayerBasis.{sizes_from}
use Rattle.stage_answers.proofs.Sizes.{sizes_next}
use Rattle.stage_answers.proofs.layers.layer_sizes.Goals as goal

pub loop-i-preserved : goal.loop-i-preserved
loop-i-preserved c =
    c.in_ok-push.ensures.items
    ∙ ap (λ xs. xs ++ c.layer_dim.result ∷ []) c.loop-i.invariant
    ∙ ap (λ d. sizes_from (layers c.args.algebra.now).positions 0 c.loop-i.i ++ d ∷ []) c.layer_dim.ensures
    ∙ sym (sizes_next (layers c.args.algebra.now).positions c.loop-i.i)
