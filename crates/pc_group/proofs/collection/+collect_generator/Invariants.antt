use Rattle.std.proofs.Common.{◌≡◌, ◌-◌, drop}
use Rattle.power_commutator.specs.Presentations.{IsWord, multiply, generator}
use Rattle.power_commutator.specs.Collect.{product_of}
use Rattle.pc_group.proofs.collection.+collect_generator.Given as goal

abbrev pub decreases-collect_generator : goal.decreases-collect_generator
decreases-collect_generator l = l.c.now.gens - l.k

abbrev pub invariant-loop-j : goal.invariant-loop-j
invariant-loop-j l = record {
  word : IsWord l.c.prime l.c.gens 0 l.word;
  product : multiply l.c l.word (product_of l.c (drop l.j-index l.j-items)) ≡ multiply l.c l.fn.word
      (generator 1 l.c.gens l.k);
}
