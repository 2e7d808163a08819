use Rattle.std.proofs.Common.{◌≡◌, length, map, take}
use Rattle.gc_poly.specs.Generators.{greatest}
use Rattle.presentation_rows.specs.RowPolynomials.{row_of}
use Rattle.ring_completion.specs.Completions.{generator_times}
use Rattle.ring_degree.proofs.forms.form_rows.Given as goal

-- the rows of the first monomials
abbrev pub invariant-loop-k : goal.invariant-loop-k
invariant-loop-k l = record {
  prime : l.rows.p ≡ l.gens.prime;
  width : l.rows.width ≡ length l.list;
  row_prime : l.row.p ≡ l.gens.prime;
  row_length : length l.row.entries ≡ length l.list;
  rows_are : l.rows.rows ≡ map (λ s. row_of (greatest l.gens) l.list
      (generator_times (greatest l.gens) l.gens.degrees l.i s)) (take l.k l.monomials);
}
