-- The places that are left.
use Rattle.std.proofs.Common.{◌-◌, length}
use Rattle.pc_group.proofs.square.Square.+digits_product.Given as goal

abbrev pub decreases-digits_product : goal.decreases-digits_product
decreases-digits_product l = length l.elements.now - l.j
