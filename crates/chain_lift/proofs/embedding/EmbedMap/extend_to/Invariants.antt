use Rattle.std.proofs.Common.{◌≡◌, ◌≤◌, max}
use Rattle.chain_lift.proofs.embedding.EmbedMap.extend_to.Given as goal

abbrev pub invariant-loop-d : goal.invariant-loop-d
invariant-loop-d l = record {
  value : l.self ≡ record l.initial.self { height = l._d };
  bound : l._d ≤ max l.initial.self.height l.d;
}
