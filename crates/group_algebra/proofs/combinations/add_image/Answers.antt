use Rattle.std.proofs.Common.{sym}
use mathlib.Core.Path.{subst}
use Rattle.radical_layers.specs.Placing.{size_of}
use Rattle.group_algebra.specs.Images.{AreOver}
use Rattle.group_algebra.proofs.combinations.add_image.Goals as goal

pub add_block_image-requires-clause-images : goal.add_block_image-requires-clause-images
add_block_image-requires-clause-images c = subst (λ p. AreOver c.args.images p (size_of c.args.places.now))
    (sym c.loop-block.invariant.0) c.requires.images
