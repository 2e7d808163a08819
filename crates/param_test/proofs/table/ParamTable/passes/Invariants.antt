use Rattle.std.proofs.Common.{◌≡◌, ℕ, ◌<◌, map, slice_get, Some}
use Rattle.gc_poly.specs.Generators.{Generators}
use Rattle.param_test.specs.Finiteness.{IsFinite}
use Rattle.param_test.specs.Parameters.{restriction}
use Rattle.param_test.proofs.table.ParamTable.passes.Given as goal

-- the restrictions to the first subgroups are finite
abbrev pub invariant-loop-j : goal.invariant-loop-j
invariant-loop-j l = (i : ℕ) (g : Generators) → i < l.j → slice_get l.self.subgroups i ≡ Some g
    → IsFinite g (map (restriction l.self i) l.tuple)
