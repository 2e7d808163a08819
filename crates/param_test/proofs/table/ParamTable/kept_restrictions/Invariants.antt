use Rattle.std.proofs.Common.{◌≡◌, ◌≤◌, map, take}
use Rattle.std.specs.Prelude.{All}
use Rattle.gc_poly.specs.Polynomials.{IsOverGenerators}
use Rattle.param_test.specs.Variables.{all_kept}
use Rattle.param_test.specs.Parameters.{restriction}
use Rattle.param_test.proofs.table.ParamTable.kept_restrictions.Given as goal

abbrev pub invariant-loop-k : goal.invariant-loop-k
invariant-loop-k l = record {
  kept : l.kept ≡ all_kept l.gens (map (restriction l.self l.j) (take l.k-index l.tuple));
  over : All (IsOverGenerators l.ring) l.kept;
  low : All (λ f. f.degree ≤ 24) l.kept;
}
