use Rattle.std.proofs.Common.{◌∙◌, ◌-◌, ◌<◌, length, get_or, decimal, ap, subst}
use Rattle.sample_groups.specs.Samples.{sample}
use Rattle.sample_groups.proofs.SampleGroups.{next_digit}
use Rattle.sample_groups.proofs.samples.sample_presentation.Goals as goal

pub loop-digit-preserved : goal.loop-digit-preserved
loop-digit-preserved c =
    let i = c.loop-digit.digit-index in
    let are = c.as_bytes-digit-items.ensures.value ∙ c.in_ok-digits.ensures.ok in
    next_digit (decimal c.args.k) i c.saturating_sub.result c.loop-digit.made c.in_ok-factor.factor
    c.in_ok-made-2.made (sample c.args.k) (subst (λ digits. i < length digits) are c.loop-digit-test.true)
    c.loop-digit.invariant.0 c.loop-digit.invariant.1
    (c.saturating_sub.ensures ∙ ap (λ digits. get_or digits i 0 - 48) are)
    c.in_ok-factor.ensures c.in_ok-made-2.ensures
