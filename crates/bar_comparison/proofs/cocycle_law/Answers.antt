use Rattle.resolution_stages.proofs.FromDefinitions.{resolution-claims}
use Rattle.bar_comparison.proofs.Classes.{bar-normal, bar-cocycle}
use Rattle.bar_comparison.proofs.Stages.{stages}
use Rattle.bar_comparison.proofs.cocycle_law.Goals as goal

pub returns : goal.returns
returns c n q Γ K S F A d x = (
  bar-normal (stages q Γ K S (resolution-claims q F Γ K S A)) d x,
  bar-cocycle (stages q Γ K S (resolution-claims q F Γ K S A)) d x,
)
