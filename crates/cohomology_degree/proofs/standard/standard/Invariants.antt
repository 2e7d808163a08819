use Rattle.std.proofs.Common.{◌≡◌, take}
use Rattle.cohomology_degree.specs.Standard.{without_pivots}
use Rattle.cohomology_degree.proofs.standard.standard.Given as goal

-- what is left of the first places
abbrev pub invariant-loop-i : goal.invariant-loop-i
invariant-loop-i l = record {
  monomials_are : l.monomials ≡ without_pivots l.kernel.rows 0 (take l.i l.left.monomials);
  values_are : l.values ≡ record l.left.values {
    rows = without_pivots l.kernel.rows 0
        (take l.i l.left.values.rows);
  };
}
