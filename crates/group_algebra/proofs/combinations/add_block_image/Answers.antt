use Rattle.std.proofs.Common.{◌*◌, sym, ◌∙◌}
use mathlib.Core.Path.{subst}
use Rattle.linear_algebra.specs.Rows.{entry}
use Rattle.linear_algebra.proofs.Congruences.{congruent_mul_left}
use Rattle.radical_layers.specs.Placing.{size_of}
use Rattle.fp_rows.specs.Refs.{entries_of}
use Rattle.group_algebra.specs.Gains.{image_at, image_entry}
use Rattle.group_algebra.specs.Images.{AreOver}
use Rattle.group_algebra.proofs.LayerPlaces.{gains-congruent}
use Rattle.group_algebra.proofs.combinations.add_block_image.Goals as goal

pub returns-clause-gains : goal.returns-clause-gains
returns-clause-gains c = gains-congruent c.args.out.now.p c.args.places.now c.args.rank c.args.block
    (λ j. c.args.c * entry (entries_of c.view.result) j)
    (image_entry c.args.places.now c.args.rank
    (image_at c.args.images.rows.now.rows c.args.images.first c.args.images.step
    c.args.images.factors.now) c.args.c
    (entries_of c.args.v.row) c.args.block)
    c.args.out.now.entries c.add_to_block.new.out.entries
    (λ j l. congruent_mul_left c.args.c (rw c.view.ensures.entries
    (rw (c.block_image-sum.ensures.prime
    ∙ c.requires.prime) at (c.block_image-sum.ensures.image j l)))) c.add_to_block.ensures.gains

pub block_image-sum-requires-clause-images : goal.block_image-sum-requires-clause-images
block_image-sum-requires-clause-images c = subst (λ p. AreOver c.args.images p (size_of c.args.places.now))
    (sym c.requires.prime) c.requires.images
