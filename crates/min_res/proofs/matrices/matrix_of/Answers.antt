use Rattle.std.proofs.Common.{◌≡◌, ℕ, ◌+◌, ◌*◌, List, [], ◌∷◌, ◌++◌, length, ap, ap₂, sym, ◌∙◌, refl}
use Rattle.std.proofs.lemmas.List.{length_push}
use Rattle.linear_algebra.specs.Kernels.{unit_row}
use Rattle.fp_rows.specs.Values.{MatrixValue}
use Rattle.p_groups.specs.PGroups.{order_of}
use Rattle.group_algebra.specs.Coordinates.{layer_coordinates}
use Rattle.group_algebra.specs.RowMaps.{map_row}
use Rattle.min_res.proofs.MatrixRows.{rows-step}
use Rattle.min_res.proofs.matrices.matrix_of.Goals as goal

pub loop-j-preserved : goal.loop-j-preserved
loop-j-preserved c =
    let dimension : ℕ = c.order.result * c.rows.result in
    let same : order_of c.args.algebra.now * length c.args.rows.now.rows ≡ dimension =
    ap₂ (λ m n. m * n) (ap order_of (sym c.group.ensures) ∙ sym c.order.ensures.value)
    (sym c.rows.ensures.count) in
    let value : c.apply_to_unit.new.out.entries
    ≡ map_row c.args.algebra.now c.args.target c.args.rows.now.rows
    (unit_row dimension c.loop-j.j) =
    c.apply_to_unit.ensures.value
    ∙ ap (λ n. map_row c.args.algebra.now c.args.target c.args.rows.now.rows (unit_row n c.loop-j.j)) same in
    let pushed : c.push.new.self.rows ≡ c.loop-j.matrix.rows ++ _ ∷ [] =
    ap (λ (x : MatrixValue). x.rows) c.in_ok-push.ensures.pushed in
    record {
      value_prime = c.apply_to_unit.ensures.prime ∙ c.loop-j.invariant.value_prime;
      value_length = ap (λ (x : List ℕ). length x) value
          ∙ ((layer_coordinates c.args.algebra.now c.args.target).row-is _).length_is
          ∙ sym c.requires.rows_width;
      matrix_prime = ap (λ (x : MatrixValue). x.p) c.in_ok-push.ensures.pushed
          ∙ c.loop-j.invariant.matrix_prime;
      matrix_width = ap (λ (x : MatrixValue). x.width) c.in_ok-push.ensures.pushed
          ∙ c.loop-j.invariant.matrix_width;
      count = ap (λ (x : List (List ℕ)). length x) pushed ∙ length_push c.loop-j.matrix.rows _
          ∙ ap (λ n. n + 1) c.loop-j.invariant.count;
      each = rows-step dimension c.loop-j.j (map_row c.args.algebra.now c.args.target c.args.rows.now.rows)
          c.loop-j.matrix.rows _ _ _ _ c.loop-j.invariant.count c.loop-j.invariant.each value
          refl c.view.ensures.entries pushed;
    }
