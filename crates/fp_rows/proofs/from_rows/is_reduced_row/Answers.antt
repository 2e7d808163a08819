use Rattle.std.proofs.Common.{refl}
use Rattle.fp_rows.proofs.ReducedRowLemmas.{reduced-row, after-of, zero-of}
use Rattle.fp_rows.proofs.from_rows.is_reduced_row.Goals as goal

pub returns-then-not-comes_after : goal.returns-then-not-comes_after
returns-then-not-comes_after c = (
  λ t. absurd (cc),
  λ R. c.if-not-comes_after.ensures.1
      (after-of c.args.rows.now c.args.pivots.now c.args.k c.index-rows-k.result
      c.requires.pivots_are c.requires.inside c.index-rows-k.is R),
)

pub returns : goal.returns
returns c = (
  λ t. reduced-row c.args.rows.now c.args.pivots.now c.args.k c.index-rows-k.result c.requires.pivots_are
      c.requires.inside c.index-rows-k.is (c.if-not-is_one_at.ensures.0 refl)
      (c.if-not-comes_after.ensures.0 refl)
      (c.is_zero_at_others.ensures.0 t),
  λ R. c.is_zero_at_others.ensures.1 (zero-of c.args.rows.now c.args.pivots.now c.args.k c.index-rows-k.result
      c.requires.pivots_are c.requires.inside c.index-rows-k.is R),
)
