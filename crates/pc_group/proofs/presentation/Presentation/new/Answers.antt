use Rattle.std.proofs.Common.{subst, sym, ap₂, arith}
use Rattle.group_table.specs.Prime.{prime_value}
use Rattle.power_commutator.specs.Presentations.{IsPresentation}
use Rattle.pc_group.proofs.MadeParts.{elementary-valid}
use Rattle.pc_group.proofs.Views.{prime_value-above}
use Rattle.pc_group.proofs.presentation.Presentation.new.Goals as goal

pub invariant_of-result : goal.invariant_of-result
invariant_of-result c = record {
  few = c.requires;
  valid =
      subst IsPresentation
      (ap₂ (λ ws rs. record { prime = prime_value c.args.p; gens = c.args.n; powers = ws; commutators = rs })
      (sym c.in_ok-empty_words.ensures) (sym c.in_ok-empty_rows.ensures))
      (elementary-valid (prime_value c.args.p) c.args.n
      (let h = prime_value-above c.args.p in omega (arith, h)));
}
