use Rattle.std.proofs.Common.{◌≡◌, ◌+◌, ◌∷◌, [], ◌++◌, ℕ, List, length, ap, sym, ◌∙◌}
use Rattle.std.proofs.lemmas.List.{length_push}
use Rattle.fp_rows.specs.Values.{MatrixValue}
use Rattle.group_algebra.specs.Coordinates.{layer_coordinates}
use Rattle.min_res.specs.Values.{boundary_of}
use Rattle.chain_lift.specs.EmbeddingRows.{listed, value_along}
use Rattle.chain_lift.specs.RowMaps.{image_row, section_of}
use Rattle.chain_lift.proofs.Lists.{rows-push, length-sum}
use Rattle.chain_lift.proofs.embedding_maps.next_rows_along.Goals as goal

pub section-requires-clause-argument : goal.section-requires-clause-argument
section-requires-clause-argument c = ap (λ (x : List ℕ). length x)
    (c.view.ensures.entries ∙ c.write_value.ensures.value)
    ∙ ((layer_coordinates c.args.g.now c.args.rank).row-is _).length_is ∙ sym c.requires.fit.target_width

pub push-requires-clause-same_width : goal.push-requires-clause-same_width
push-requires-clause-same_width c = ap (λ (x : List ℕ). length x)
    (c.view-in-loop-i.ensures.entries ∙ c.section.ensures.value)
    ∙ length-sum _ _ _ (boundary_of c.args.target.now).sections.rows ∙ sym c.loop-i.invariant.rows_width

pub loop-i-preserved : goal.loop-i-preserved
loop-i-preserved c =
    let pushed : c.push.new.self.rows ≡ c.loop-i.rows.rows ++ _ ∷ [] =
    ap (λ (x : MatrixValue). x.rows) c.in_ok-push.ensures.pushed in
    record {
      scratch = c.write_value.ensures.scratch;
      value_prime = c.write_value.ensures.prime ∙ c.loop-i.invariant.value_prime;
      value_length = ap (λ (x : List ℕ). length x) c.write_value.ensures.value
          ∙ ((layer_coordinates c.args.g.now c.args.rank).row-is _).length_is;
      lifted_prime = c.section.ensures.prime ∙ c.loop-i.invariant.lifted_prime;
      lifted_length = ap (λ (x : List ℕ). length x) c.section.ensures.value
          ∙ length-sum _ _ _ (boundary_of c.args.target.now).sections.rows;
      rows_prime = ap (λ (x : MatrixValue). x.p) c.in_ok-push.ensures.pushed ∙ c.loop-i.invariant.rows_prime;
      rows_width = ap (λ (x : MatrixValue). x.width) c.in_ok-push.ensures.pushed
          ∙ c.loop-i.invariant.rows_width;
      count = ap (λ (x : List (List ℕ)). length x) pushed ∙ length_push c.loop-i.rows.rows _
          ∙ ap (λ n. n + 1) c.loop-i.invariant.count;
      each = rows-push c.loop-i.i
          (λ i. section_of c.args.target.now (value_along c.args.e.now c.args.g.now
          (listed c.args.e.now c.args.g.now c.args.subgroup.now.images)
          c.args.rank c.args.before.now.rows (image_row c.args.source.now i)))
          c.loop-i.rows.rows _ _ c.loop-i.invariant.count c.loop-i.invariant.each
          (c.view-in-loop-i.ensures.entries ∙ c.section.ensures.value
          ∙ ap (section_of c.args.target.now) (c.view.ensures.entries ∙ c.write_value.ensures.value
          ∙ ap (value_along c.args.e.now c.args.g.now (listed c.args.e.now c.args.g.now
          c.args.subgroup.now.images) c.args.rank
          c.args.before.now.rows) c.image.ensures.entries))
          pushed;
    }
