use Rattle.std.proofs.Common.{◌≡◌, ◌*◌, ℕ, List, length, replicate, ap, ◌∙◌}
use Rattle.std.proofs.lemmas.List.{length-replicate}
use Rattle.group_table.specs.Tables.{order}
use Rattle.fp_rows.specs.Refs.{entries_of}
use Rattle.fp_rows.specs.Values.{RowValue}
use Rattle.fp_rows.proofs.Turns.{IsRowTurn, row-start, row-turn, row-end}
use Rattle.p_groups.specs.PGroups.{PGroup}
use Rattle.group_algebra.specs.Coordinates.{layer_coordinates}
use Rattle.group_algebra.specs.RowMaps.{IsBlock}
use Rattle.group_algebra.proofs.BlockSums.{block, block-of-row, sum-start, sum-step, sum-end}
use Rattle.group_algebra.proofs.ImageLemmas.{row-of-ref}
use Rattle.group_algebra.proofs.algebra.Algebra.apply.Goals as goal

pub loop-index-init : goal.loop-index-init
loop-index-init c =
    let G : PGroup = c.args.self.now in
    let zeros : c.clear.new.self.entries ≡ replicate (order G.table * c.args.rank) 0 =
    ap (λ (x : RowValue). x.entries) c.clear.ensures ∙ ap (λ n. replicate n 0) c.requires.out_length in
    record {
      left = row-start c.args.rows.now _ c.iter-row-items.ensures;
      prime = ap (λ (x : RowValue). x.p) c.clear.ensures ∙ c.requires.primes.1;
      length_is = ap (λ (x : List ℕ). length x) zeros ∙ length-replicate (order G.table * c.args.rank) 0;
      sum = sum-start G c.args.rank c.args.rows.now.rows (entries_of c.args.v) _ zeros;
    }

pub add_product-requires-clause-length : goal.add_product-requires-clause-length
add_product-requires-clause-length c =
    let t : IsRowTurn c.args.rows.now c.loop-index.index c.in-Some.row.now c.next.new.self =
    row-turn _ _ _ c.loop-index.row-iterator _ c.loop-index.invariant.left c.in-Some.ensures.steps in
    ap (λ (x : List ℕ). length x) (c.view.ensures.entries ∙ t.entries)
    ∙ (c.iter-row-items.ensures.matrix c.loop-index.index t.inside).length_is ∙ c.requires.rows_width

pub loop-index-preserved : goal.loop-index-preserved
loop-index-preserved c =
    let G : PGroup = c.args.self.now in
    let b : ℕ = c.args.rank in
    let rows : List (List ℕ) = c.args.rows.now.rows in
    let x : List ℕ = entries_of c.args.v in
    let k : ℕ = c.loop-index.index in
    let t : IsRowTurn c.args.rows.now k c.in-Some.row.now c.next.new.self =
    row-turn _ _ _ c.loop-index.row-iterator _ c.loop-index.invariant.left c.in-Some.ensures.steps in
    let B : IsBlock G c.rows-count.result k x (block G (length rows) x k) =
    rw c.rows-count.ensures.count (block-of-row G (length rows) x k) in
    record {
      left = t.left;
      prime = c.add_product.ensures.prime ∙ c.loop-index.invariant.prime;
      length_is = ap (λ (x : List ℕ). length x) (c.add_product.ensures.gained (block G (length rows) x k) B)
          ∙ ((layer_coordinates G b).row-is _).length_is;
      sum = sum-step G b rows x k c.loop-index.out.entries
          (entries_of c.view.result) _ c.loop-index.invariant.sum
          (c.view.ensures.entries ∙ t.entries) (c.add_product.ensures.gained (block G (length rows) x k) B);
    }

pub returns-clause-value : goal.returns-clause-value
returns-clause-value c =
    sum-end c.args.self.now c.args.rank c.args.rows.now.rows
    (entries_of c.args.v) c.loop-index.out.entries c.loop-index.index
    (row-of-ref (entries_of c.args.v) c.requires.argument c.requires.primes.0 c.args.v.below)
    (row-end c.args.rows.now c.loop-index.index _ c.loop-index.invariant.left c.in-None.ensures.steps.0)
    c.loop-index.invariant.sum
