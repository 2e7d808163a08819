use Rattle.std.proofs.Common.{◌≡◌, ◌+◌, length, arith, ap, ◌∙◌, refl}
use Rattle.std.proofs.lemmas.List.{length_push}
use Rattle.linear_algebra.specs.Rows.{row}
use Rattle.fp_rows.specs.Refs.{entries_of}
use Rattle.fp_rows.specs.Values.{MatrixValue}
use Rattle.group_algebra.proofs.ListLemmas.{rows-pushed}
use Rattle.group_algebra.proofs.tables.rows_between.Goals as goal

pub loop-i-preserved : goal.loop-i-preserved
loop-i-preserved c =
    let I = c.loop-i.invariant in
    let count : length c.push.new.self.rows ≡ length c.loop-i.m.rows + 1 =
    ap (λ (m : MatrixValue). length m.rows) c.in_ok-push.ensures.pushed
    ∙ length_push c.loop-i.m.rows (entries_of c.row.result) in
    record {
      within = omega (arith, c.loop-i-test.true);
      prime = ap (λ (m : MatrixValue). m.p) c.in_ok-push.ensures.pushed ∙ I.prime;
      width = ap (λ (m : MatrixValue). m.width) c.in_ok-push.ensures.pushed ∙ I.width;
      count = omega (arith, count, I.count);
      rows = rw c.in_ok-push.ensures.pushed (λ k b.
          rows-pushed (λ k x. x ≡ row c.args.rows.now.rows (c.args.from + k)) c.loop-i.m.rows
          (length c.loop-i.m.rows) (entries_of c.row.result) refl
          (c.row.ensures.entries ∙ ap (row c.args.rows.now.rows) (omega (arith, I.count)))
          (λ k l. I.rows k (omega (arith, l, I.count))) k (omega (arith, b, I.count)));
    }
