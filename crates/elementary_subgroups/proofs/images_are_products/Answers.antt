use Rattle.elementary_subgroups.proofs.Numbering.{image_at, images_length}
use Rattle.elementary_subgroups.proofs.images_are_products.Goals as goal

pub returns : goal.returns
returns c G s N = (images_length s N, image_at s N)
