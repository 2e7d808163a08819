use Rattle.resolution_stages.proofs.FromDefinitions.{resolution-claims}
use Rattle.bar_comparison.proofs.Homotopies.{homotopy-claims}
use Rattle.bar_comparison.proofs.homotopy_law.Goals as goal

pub returns : goal.returns
returns c n q Γ K S F A = homotopy-claims q Γ K S (resolution-claims q F Γ K S A)
