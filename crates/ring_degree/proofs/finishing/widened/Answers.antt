use Rattle.std.proofs.Common.{◌-◌, ◌++◌, length, replicate, arith, ap, ◌∙◌}
use Rattle.fp_rows.specs.Refs.{entries_of}
use Rattle.fp_rows.specs.Values.{MatrixValue, RowValue}
use Rattle.ring_degree.proofs.Widening.{widened-row, widened-rows}
use Rattle.ring_degree.proofs.finishing.widened.Goals as goal

pub loop-k-preserved : goal.loop-k-preserved
loop-k-preserved c =
    let before = c.loop-k.invariant in
    let new = c.in_ok-push.ensures.pushed in
    let written = c.write_widened.ensures in
    record {
      prime = ap (λ (m : MatrixValue). m.p) new ∙ before.prime;
      width_is = ap (λ (m : MatrixValue). m.width) new ∙ before.width_is;
      rows = widened-rows c.args.rows.now.width c.args.width c.args.rows.now.rows c.loop-k.k
          c.loop-k.wide.rows c.push.new.self.rows (entries_of c.row.result) (entries_of c.view.result)
          (omega arith) before.rows c.row.ensures.entries
          (ap length c.row.ensures.entries ∙ c.row.ensures.is_row.length_is)
          (c.view.ensures.entries ∙ ap (λ (r : RowValue). r.entries) written
          ∙ ap (λ k. entries_of c.row.result ++ replicate (k - length (entries_of c.row.result)) 0)
          before.out_length)
          (ap (λ (m : MatrixValue). m.rows) new);
      out_prime = ap (λ (r : RowValue). r.p) written ∙ before.out_prime;
      out_length = ap (λ (r : RowValue). length r.entries) written
          ∙ widened-row (entries_of c.row.result) (length c.loop-k.out.entries) c.args.width before.out_length
          (let e = ap length c.row.ensures.entries ∙ c.row.ensures.is_row.length_is in
          omega (arith, e, c.requires));
    }
