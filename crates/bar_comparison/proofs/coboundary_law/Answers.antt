use Rattle.resolution_stages.proofs.FromDefinitions.{resolution-claims}
use Rattle.bar_comparison.proofs.Classes.{only-coboundary}
use Rattle.bar_comparison.proofs.Stages.{stages}
use Rattle.bar_comparison.proofs.coboundary_law.Goals as goal

pub returns : goal.returns
returns c n q Γ K S F A d x h = only-coboundary (stages q Γ K S (resolution-claims q F Γ K S A)) d x h
