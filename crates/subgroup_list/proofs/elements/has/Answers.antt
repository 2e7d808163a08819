use Rattle.std.proofs.Common.{sym, ◌∙◌}
use Rattle.elementary_subgroups.proofs.Conjugates.{member_from, member_to}
use Rattle.subgroup_list.proofs.elements.has.Goals as goal

pub returns : goal.returns
returns c = (
  (λ h. member_to c.args.xs.now c.args.x (sym c.contains.ensures.value ∙ h)),
  λ h. c.contains.ensures.value ∙ member_from c.args.xs.now c.args.x h,
)
