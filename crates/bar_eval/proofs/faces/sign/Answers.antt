use Rattle.std.proofs.Common.{◌-◌, ap, ◌∙◌}
use Rattle.group_table.specs.Prime.{prime_value}
use Rattle.bar_eval.proofs.FaceLists.{even-sign, odd-sign}
use Rattle.bar_eval.proofs.faces.sign.Goals as goal

pub returns-then-i-eq0-clause-value : goal.returns-then-i-eq0-clause-value
returns-then-i-eq0-clause-value c = ap (λ v. v - 1) c.value.ensures
    ∙ even-sign (prime_value c.args.prime - 1) c.args.i c.if-i-eq0.true

pub returns-else-i-eq0-clause-value : goal.returns-else-i-eq0-clause-value
returns-else-i-eq0-clause-value c = odd-sign (prime_value c.args.prime - 1) c.args.i c.if-i-eq0.false
