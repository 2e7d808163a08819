use Rattle.std.proofs.Common.{◌≡◌, drop}
use Rattle.power_commutator.specs.Presentations.{IsWord, multiply}
use Rattle.power_commutator.specs.Collect.{product_of}
use Rattle.pc_group.proofs.collection.collect.Given as goal

abbrev pub invariant-loop-k : goal.invariant-loop-k
invariant-loop-k l = record {
  word : IsWord l.c.prime l.c.gens 0 l.word.items;
  product : multiply l.c l.word.items (product_of l.c (drop l.k-index l.gens)) ≡ product_of l.c l.gens;
}
