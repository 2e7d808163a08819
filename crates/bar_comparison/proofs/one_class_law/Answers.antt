use Rattle.resolution_stages.proofs.FromDefinitions.{resolution-claims}
use Rattle.bar_comparison.proofs.Classes.{one-class}
use Rattle.bar_comparison.proofs.Stages.{stages}
use Rattle.bar_comparison.proofs.one_class_law.Goals as goal

pub returns : goal.returns
returns c n q Γ K S F A d u z = one-class (stages q Γ K S (resolution-claims q F Γ K S A)) d u z
