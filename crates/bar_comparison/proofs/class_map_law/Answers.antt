use Rattle.bar_comparison.proofs.ClassMap.{class-map-claims}
use Rattle.bar_comparison.proofs.class_map_law.Goals as goal

pub returns : goal.returns
returns c n q Γ K S = class-map-claims q Γ K S
