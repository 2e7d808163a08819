use Rattle.std.proofs.Common.{take}
use Rattle.fp_rows.specs.Refs.{entries_of}
use Rattle.gc_poly.specs.Polynomials.{IsSumOf}
use Rattle.presentation_rows.specs.RowPolynomials.{polynomial_of}
use Rattle.cohomology_degree.proofs.relations.polynomial_of.Given as goal

-- the terms of the first places are added
abbrev pub invariant-loop-i : goal.invariant-loop-i
invariant-loop-i l = IsSumOf l.gens l.d (polynomial_of (take l.i l.monomials) (entries_of l.row)) l.f
