-- The entries before k stand in the table.
use Rattle.pc_group.specs.Tables.{HasEntries}
use Rattle.pc_group.specs.Layers.{product_of}
use Rattle.pc_group.proofs.layer.Layer.product.Given as goal

abbrev pub invariant-loop-k : goal.invariant-loop-k
invariant-loop-k l = HasEntries l.width (product_of l.self) l.k l.entries.items
