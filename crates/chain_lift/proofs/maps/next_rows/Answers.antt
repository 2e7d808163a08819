use Rattle.std.proofs.Common.{◌≡◌, ◌+◌, ◌∷◌, [], ◌++◌, ℕ, List, length, ap, sym, ◌∙◌}
use Rattle.std.proofs.lemmas.List.{length_push}
use Rattle.fp_rows.specs.Values.{MatrixValue}
use Rattle.group_algebra.specs.Coordinates.{layer_coordinates}
use Rattle.min_res.specs.Values.{boundary_of}
use Rattle.group_algebra.specs.RowMaps.{map_row}
use Rattle.chain_lift.specs.RowMaps.{image_row, section_of}
use Rattle.chain_lift.proofs.Lists.{rows-push, length-sum}
use Rattle.chain_lift.proofs.maps.next_rows.Goals as goal

pub push-requires-clause-same_width : goal.push-requires-clause-same_width
push-requires-clause-same_width c = ap (λ (x : List ℕ). length x) (c.view-in-loop-i.ensures.entries
    ∙ c.section.ensures.value)
    ∙ length-sum _ _ _ (boundary_of c.args.target.now).sections.rows ∙ sym c.loop-i.invariant.rows_width

pub loop-i-preserved : goal.loop-i-preserved
loop-i-preserved c =
    let pushed : c.push.new.self.rows ≡ c.loop-i.rows.rows ++ _ ∷ [] =
    ap (λ (x : MatrixValue). x.rows) c.in_ok-push.ensures.pushed in
    record {
      value_prime = c.apply.ensures.prime ∙ c.loop-i.invariant.value_prime;
      value_length = ap (λ (x : List ℕ). length x) c.apply.ensures.value
          ∙ ((layer_coordinates c.args.algebra.now c.args.rank).row-is _).length_is;
      lifted_prime = c.section.ensures.prime ∙ c.loop-i.invariant.lifted_prime;
      lifted_length = ap (λ (x : List ℕ). length x) c.section.ensures.value
          ∙ length-sum _ _ _ (boundary_of c.args.target.now).sections.rows;
      rows_prime = ap (λ (x : MatrixValue). x.p) c.in_ok-push.ensures.pushed ∙ c.loop-i.invariant.rows_prime;
      rows_width = ap (λ (x : MatrixValue). x.width) c.in_ok-push.ensures.pushed
          ∙ c.loop-i.invariant.rows_width;
      count = ap (λ (x : List (List ℕ)). length x) pushed ∙ length_push c.loop-i.rows.rows _
          ∙ ap (λ n. n + 1) c.loop-i.invariant.count;
      each = rows-push c.loop-i.i
          (λ i. section_of c.args.target.now
          (map_row c.args.algebra.now c.args.rank c.args.before.now.rows (image_row c.args.source.now i)))
          c.loop-i.rows.rows _ _ c.loop-i.invariant.count c.loop-i.invariant.each
          (c.view-in-loop-i.ensures.entries ∙ c.section.ensures.value
          ∙ ap (section_of c.args.target.now) (c.view.ensures.entries ∙ c.apply.ensures.value
          ∙ ap (map_row c.args.algebra.now c.args.rank c.args.before.now.rows) c.image.ensures.entries))
          pushed;
    }
