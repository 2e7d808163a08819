use Rattle.std.proofs.Common.{ℕ, ◌<◌, length, arith, ap, subst, ◌∙◌}
use Rattle.std.proofs.lemmas.List.{length-replicate}
use Rattle.group_table.specs.Prime.{prime_value}
use Rattle.fp_rows.specs.Refs.{entries_of}
use Rattle.fp_rows.specs.Values.{MatrixValue, RowValue}
use Rattle.linear_algebra.specs.Rows.{row, IsRow}
use Rattle.linear_algebra.proofs.RowLemmas.{length-add_multiple}
use Rattle.ring_degree.proofs.RestRows.{rest-more, rest-written}
use Rattle.ring_degree.proofs.left.reduced_rows.Goals as goal

pub reduce-requires-clause-same_width : goal.reduce-requires-clause-same_width
reduce-requires-clause-same_width c = ap (λ (r : RowValue). length r.entries) c.add.ensures
    ∙ length-add_multiple c.in_ok-v.v.p 1 c.in_ok-v.v.entries (entries_of c.row.result)
    ∙ ap (λ (r : RowValue). length r.entries) c.in_ok-v.ensures ∙ length-replicate {A = ℕ} c.width.result 0
    ∙ c.width.ensures ∙ c.requires.width

pub loop-k-preserved : goal.loop-k-preserved
loop-k-preserved c =
    let e = c.args.e.now in
    let l : c.loop-k.k < length c.args.rows.now.rows =
    omega (arith, c.loop-k-test.true, c.rows-k-end.ensures.count) in
    record {
      prime = ap (λ (m : MatrixValue). m.p) c.in_ok-push.ensures.pushed ∙ c.loop-k.invariant.prime;
      width = ap (λ (m : MatrixValue). m.width) c.in_ok-push.ensures.pushed ∙ c.loop-k.invariant.width;
      out_prime = ap (λ (r : RowValue). r.p) c.write_without_pivots.ensures ∙ c.loop-k.invariant.out_prime;
      out_length = ap (λ (r : RowValue). length r.entries) c.write_without_pivots.ensures
          ∙ c.requires.left c.reduce.new.v.entries c.reduce.ensures.row.length_is;
      rests = rest-more e.p e.rows c.args.rows.now.rows c.loop-k.reduced.rows c.push.new.self.rows c.loop-k.k
          (entries_of c.view.result) l c.loop-k.invariant.rests
          (rest-written e.p e.width e.rows (row c.args.rows.now.rows c.loop-k.k) (entries_of c.row.result)
          (entries_of c.view.result) c.in_ok-v.v c.add.new.self c.reduce.new.v
          (prime_value c.prime-in-loop-k.result)
          c.width.result
          (subst (λ p. IsRow p e.width (row c.args.rows.now.rows c.loop-k.k)) c.requires.prime
          (subst (λ w. IsRow c.args.rows.now.p w (row c.args.rows.now.rows c.loop-k.k)) c.requires.width
          c.row.ensures.is_row))
          c.in_ok-v.ensures (c.prime-in-loop-k.ensures ∙ c.requires.prime)
          (c.width.ensures ∙ c.requires.width) c.row.ensures.entries c.add.ensures c.reduce.ensures.reduced
          c.reduce.ensures.row
          (c.view.ensures.entries ∙ ap (λ (r : RowValue). r.entries) c.write_without_pivots.ensures))
          (ap (λ (m : MatrixValue). m.rows) c.in_ok-push.ensures.pushed);
    }
