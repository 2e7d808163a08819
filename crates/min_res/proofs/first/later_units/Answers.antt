use Rattle.std.proofs.Common.{◌≡◌, ◌+◌, ℕ, List, [], ◌∷◌, ◌++◌, length, ap, ◌∙◌}
use Rattle.std.proofs.lemmas.List.{length_push, length-set, length-replicate}
use Rattle.linear_algebra.specs.Kernels.{unit_row}
use Rattle.fp_rows.specs.Values.{RowValue, MatrixValue}
use Rattle.min_res.proofs.MatrixRows.{units-step}
use Rattle.min_res.proofs.first.later_units.Goals as goal

pub loop-i-preserved : goal.loop-i-preserved
loop-i-preserved c =
    let unit : c.set_unit.new.self.entries ≡ unit_row c.args.n c.loop-i.i =
    ap (λ (x : RowValue). x.entries) c.set_unit.ensures
    ∙ ap (λ n. unit_row n c.loop-i.i) c.loop-i.invariant.unit_length in
    let pushed : c.push.new.self.rows ≡ c.loop-i.rows.rows ++ _ ∷ [] =
    ap (λ (x : MatrixValue). x.rows) c.in_ok-push.ensures.pushed in
    record {
      unit_prime = ap (λ (x : RowValue). x.p) c.set_unit.ensures ∙ c.loop-i.invariant.unit_prime;
      unit_length = ap (λ (x : List ℕ). length x) unit ∙ length-set _ _ _ ∙ length-replicate c.args.n 0;
      rows_prime = ap (λ (x : MatrixValue). x.p) c.in_ok-push.ensures.pushed ∙ c.loop-i.invariant.rows_prime;
      rows_width = ap (λ (x : MatrixValue). x.width) c.in_ok-push.ensures.pushed
          ∙ c.loop-i.invariant.rows_width;
      count = ap (λ (x : List (List ℕ)). length x + 1) pushed
          ∙ ap (λ n. n + 1) (length_push c.loop-i.rows.rows _ ∙ c.loop-i.invariant.count);
      each = units-step c.args.n c.loop-i.i c.loop-i.rows.rows _ _ c.loop-i.invariant.count
          c.loop-i.invariant.each (c.view.ensures.entries ∙ unit) pushed;
    }
