use Rattle.std.proofs.Common.{◌≡◌, decimal, drop}
use Rattle.sample_groups.specs.Samples.{IsSmall, sample, with_digits}
use Rattle.sample_groups.proofs.samples.sample_presentation.Given as goal

abbrev pub invariant-loop-digit : goal.invariant-loop-digit
invariant-loop-digit l = IsSmall 6 l.made
    × (with_digits l.made (drop l.digit-index (decimal l.fn.k)) ≡ sample l.fn.k)
