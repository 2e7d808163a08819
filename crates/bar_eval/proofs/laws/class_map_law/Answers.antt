use Rattle.bar_eval.proofs.ClassMaps.{is_linear}
use Rattle.bar_eval.proofs.laws.class_map_law.Goals as goal

pub returns : goal.returns
returns c G d = is_linear G d
