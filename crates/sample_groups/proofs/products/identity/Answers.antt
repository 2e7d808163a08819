use Rattle.std.proofs.Common.{◌∙◌}
use Rattle.pc_group.proofs.MadeParts.{identity-replicate}
use Rattle.sample_groups.proofs.products.identity.Goals as goal

pub returns : goal.returns
returns c = c.in_ok-from_elem.ensures.items_if_clones_equal (λ y e. e) ∙ identity-replicate c.args.gens
