use Rattle.std.proofs.Common.{◌≡◌, ◌++◌, length, map, take}
use Rattle.linear_algebra.specs.Rows.{combination_row, entry}
use Rattle.fp_rows.proofs.Turns.{AreLeft, passed}
use Rattle.group_algebra.proofs.tables.push_combinations.Given as goal

abbrev pub invariant-loop-c : goal.invariant-loop-c
invariant-loop-c l = record {
  left : AreLeft l.coefficients (passed l.coefficients l.c-iterator) l.c-iterator;
  prime : l.out.p ≡ l.fn.m.p;
  length_is : length l.out.entries ≡ l.fn.m.width;
  pushed : l.m
      ≡ record l.fn.m {
        rows = l.fn.m.rows
            ++ map (λ c. combination_row l.rows.p l.rows.width (entry c) l.rows.rows)
            (take (passed l.coefficients l.c-iterator) l.coefficients.rows);
      };
}
