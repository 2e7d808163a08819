use Rattle.std.proofs.Common.{◌≡◌, ◌≤◌, ◌+◌, ◌-◌, drop}
use Rattle.radical_layers.specs.Placing.{size_of}
use Rattle.group_algebra.specs.Places.{start_of, span_of}
use Rattle.group_algebra.proofs.places.spot_of.Given as goal

abbrev pub invariant-loop-s : goal.invariant-loop-s
invariant-loop-s l =
    (l.start ≤ l.member)
    × (l.start + size_of (drop l.s-index l.sizes) ≡ size_of l.sizes)
    × (l.start + start_of (drop l.s-index l.sizes) (l.member - l.start) ≡ start_of l.sizes l.member)
    × (span_of (drop l.s-index l.sizes) (l.member - l.start) ≡ span_of l.sizes l.member)
