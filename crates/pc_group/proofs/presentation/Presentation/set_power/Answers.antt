use Rattle.std.proofs.Common.{subst, sym, ◌∙◌, ap, ◌≤◌}
use Rattle.power_commutator.specs.Presentations.{IsPresentation, IsWord}
use Rattle.pc_group.specs.Shown.{shown}
use Rattle.pc_group.specs.Parts.{with_power}
use Rattle.pc_group.proofs.MadeParts.{with_power-valid}
use Rattle.pc_group.proofs.Views.{shown-powers}
use Rattle.pc_group.proofs.presentation.Presentation.set_power.Goals as goal

pub invariant_of-self : goal.invariant_of-self
invariant_of-self c = record {
  few = c.self.invariant.few;
  valid =
      subst IsPresentation (sym (shown-powers c.self.inside c.args.i c.args.w))
      (with_power-valid (shown c.self.inside) c.self.invariant.valid c.args.i c.args.w.items c.requires.first
      (subst (λ P. c.args.i ≤ P.gens) (sym c.self.view_is) c.requires.last)
      (subst (λ P. IsWord P.prime P.gens c.args.i c.args.w.items) (sym c.self.view_is) c.requires.word));
}

pub returns : goal.returns
returns c = shown-powers c.self.inside c.args.i c.args.w
    ∙ ap (λ P. with_power P c.args.i c.args.w.items) c.self.view_is
