use Rattle.std.proofs.Common.{◌≡◌, arith, ap, ◌∙◌, length}
use mathlib.Core.Path.{subst}
use Rattle.fp_rows.specs.Refs.{entries_of}
use Rattle.fp_rows.specs.Values.{RowValue}
use Rattle.linear_algebra.specs.Rows.{entry, row, pivot}
use Rattle.linear_algebra.proofs.CombinationRows.{IsPartialCombination}
use Rattle.linear_algebra.proofs.CombinationRows.{partial-end}
use Rattle.min_res.proofs.PartialSums.{add-step}
use Rattle.min_res.proofs.sections.write_section.Goals as goal

pub loop-k-preserved : goal.loop-k-preserved
loop-k-preserved c = record {
  prime = ap (λ (x : RowValue). x.p) c.add.ensures ∙ c.loop-k.invariant.prime;
  sum = add-step (λ k. entry (entries_of c.args.v)
      (pivot (row c.args.list.now.rows k))) _ c.loop-k.k _ _ _ _ _
      (omega (arith, c.args.v.above_one, c.requires.value_prime)) c.rows-k-end.ensures.matrix
      (omega (
        arith,
        c.loop-k-test.true,
        c.rows-k-end.ensures.count,
      )) c.loop-k.invariant.sum c.loop-k.invariant.prime (c.get.ensures.value
      ∙ ap (entry (entries_of c.args.v)) c.pivot.ensures.place) c.row.ensures.entries
      (ap (λ (x : RowValue). x.entries) c.add.ensures);
}

pub returns-clause-sum : goal.returns-clause-sum
returns-clause-sum c = partial-end (λ k. entry (entries_of c.args.v) (pivot (row c.args.list.now.rows k))) _ _
    (omega (arith, c.args.v.above_one, c.requires.value_prime)) c.rows-k-end.ensures.matrix
    (subst (λ k. IsPartialCombination c.args.rows.now.p c.args.rows.now.width
    (λ k. entry (entries_of c.args.v)
    (pivot (row c.args.list.now.rows k))) c.args.rows.now.rows k c.loop-k.out.entries)
    (let z : c.loop-k.k ≡ length c.args.rows.now.rows = omega (
      arith,
      c.loop-k-test.false,
      c.rows-k-end.ensures.count,
      c.loop-k.auto.k-end,
    ) in z) c.loop-k.invariant.sum)
