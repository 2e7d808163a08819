use Rattle.std.proofs.Common.{◌≡◌, ◌*◌, ◌≤◌, take}
use Rattle.polynomial_texts.specs.Readings.{factors_degree}
use Rattle.polynomial_reader.proofs.degrees.factors_degree.Given as goal

abbrev pub invariant-loop-x : goal.invariant-loop-x
invariant-loop-x l = record {
  value : l.sum ≡ factors_degree l.gens.degrees (take l.x-index l.factors);
  small : l.sum ≤ 576 * l.x-index;
}
