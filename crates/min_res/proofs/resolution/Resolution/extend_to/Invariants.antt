use Rattle.std.proofs.Common.{◌≡◌, ◌≤◌, ◌<◌, ◌+◌, ◌-◌, true, max}
use Rattle.min_res.specs.Refusals.{AreWithin}
use Rattle.min_res.proofs.resolution.Resolution.extend_to.Given as goal

abbrev pub invariant-loop-self : goal.invariant-loop-self
invariant-loop-self l = record {
  group : l.self.group ≡ l.initial.self.group;
  from : l.initial.self.last ≤ l.self.last;
  to : l.self.last ≤ max l.initial.self.last l.n;
  computed : l.self.computed + l.initial.self.last ≡ l.initial.self.computed + l.self.last;
  extended : l.initial.self.last < l.self.last → l.self.extended ≡ true;
  within : AreWithin l.initial.self.group l.initial.self.last l.self.last l.limit;
  kept : l.self.last ≡ l.initial.self.last → l.self ≡ l.initial.self;
}

abbrev pub decreases-loop-self : goal.decreases-loop-self
decreases-loop-self l = l.n - l.self.last
