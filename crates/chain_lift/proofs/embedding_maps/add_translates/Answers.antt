use Rattle.std.proofs.Common.{◌≡◌, ◌*◌, ◌<◌, ℕ, List, length, arith, ap, sym, ◌∙◌}
use mathlib.Core.Path.{subst}
use Rattle.group_table.specs.Tables.{order}
use Rattle.linear_algebra.specs.Rows.{add_multiple, IsRow}
use Rattle.fp_rows.specs.Refs.{entries_of}
use Rattle.fp_rows.specs.Values.{RowValue}
use Rattle.p_groups.specs.PGroups.{PGroup}
use Rattle.group_algebra.specs.Coordinates.{free_module, layer_coordinates, row_of, table_of}
use Rattle.chain_lift.proofs.EmbeddingRows.{gained-start, gained-none, gained-some, gained-all}
use Rattle.chain_lift.proofs.EmbeddingSums.{added-row}
use Rattle.chain_lift.proofs.embedding_maps.add_translates.Goals as goal
use Rattle.chain_lift.proofs.embedding_maps.add_translates.Goals.{then-c-ne0, else-c-ne0}

pub loop-e-init : goal.loop-e-init
loop-e-init c = record {
  moved_prime = c.requires.moved_prime;
  moved_length = c.requires.moved_length;
  prime = c.requires.out_prime;
  is_row = subst (λ p. IsRow p (order c.args.g.now.table * c.args.rank) c.args.out.now.entries)
      c.requires.out_prime
      (subst (λ n. IsRow c.args.out.now.p n c.args.out.now.entries) c.requires.out_length
      c.len-width.ensures.row);
  gained = gained-start c.args.g.now c.args.subgroup.now.images c.args.rank (entries_of c.args.coefficients)
      (entries_of c.args.v)
      c.args.out.now.entries;
}

pub add-requires-clause-same_length : goal.add-requires-clause-same_length
add-requires-clause-same_length c =
    let inside : c.loop-e.e < length c.args.subgroup.now.images =
    omega (arith, c.requires.count, c.len-e-end.ensures.count, c.loop-e-test.true) in
    let below : c.embed.result < order c.args.g.now.table =
    subst (λ k. k < order c.args.g.now.table) (sym c.embed.ensures) (c.requires.inside c.loop-e.e inside) in
    ap (λ (x : List ℕ). length x) (c.view.ensures.entries ∙ c.act.ensures.moved below)
    ∙ ((layer_coordinates c.args.g.now c.args.rank).row-is
    ((free_module c.args.g.now c.args.rank).act (c.embed.result, below)
    (table_of c.args.g.now c.args.rank (entries_of c.args.v)))).length_is
    ∙ sym c.loop-e.invariant.is_row.length_is

pub loop-e-preserved : goal.loop-e-preserved
loop-e-preserved c =
    let G : PGroup = c.args.g.now in
    let b : ℕ = c.args.rank in
    let inside : c.loop-e.e < length c.args.subgroup.now.images =
    omega (arith, c.requires.count, c.len-e-end.ensures.count, c.loop-e-test.true) in
    elim c.if-c-ne0.branch [
      | then-c-ne0 w ↦
          let below : w.embed.result < order G.table =
          subst (λ k. k < order G.table) (sym w.embed.ensures) (c.requires.inside c.loop-e.e inside) in
          let moved : entries_of w.view.result ≡ row_of G b
          ((free_module G b).act (w.embed.result, below) (table_of G b (entries_of c.args.v)))
          = w.view.ensures.entries ∙ w.act.ensures.moved below in
          let added : c.if-c-ne0.out.entries ≡ add_multiple G.table.p c.get-c.result c.loop-e.out.entries
          (entries_of w.view.result)
          = ap (λ (r : RowValue). r.entries) (w.out-is ∙ w.add.ensures)
          ∙ ap (λ p. add_multiple p c.get-c.result c.loop-e.out.entries (entries_of w.view.result))
          c.loop-e.invariant.prime in
          record {
            moved_prime = ap (λ (r : RowValue). r.p) w.moved-is ∙ w.act.ensures.prime
                ∙ c.loop-e.invariant.moved_prime;
            moved_length = ap (λ (r : RowValue). length r.entries) w.moved-is
                ∙ ap (λ (x : List ℕ). length x) (w.act.ensures.moved below)
                ∙ ((layer_coordinates G b).row-is ((free_module G b).act (w.embed.result, below)
                (table_of G b (entries_of c.args.v)))).length_is;
            prime = ap (λ (r : RowValue). r.p) (w.out-is ∙ w.add.ensures) ∙ c.loop-e.invariant.prime;
            is_row = subst (λ x. IsRow G.table.p (order G.table * b) x) (sym added)
                (added-row G b c.get-c.result c.loop-e.out.entries (entries_of w.view.result) _
                c.loop-e.invariant.is_row moved);
            gained = gained-some G c.args.subgroup.now.images b (entries_of c.args.coefficients)
                (entries_of c.args.v) c.args.out.now.entries
                c.loop-e.out.entries c.if-c-ne0.out.entries (entries_of w.view.result) c.loop-e.e
                c.get-c.result c.loop-e.invariant.gained
                c.loop-e.invariant.is_row c.get-c.ensures.value (w.embed.result, below) w.embed.ensures moved
                added;
          }
      | else-c-ne0 w ↦
          record {
            moved_prime = ap (λ (r : RowValue). r.p) w.moved-is ∙ c.loop-e.invariant.moved_prime;
            moved_length = ap (λ (r : RowValue). length r.entries) w.moved-is
                ∙ c.loop-e.invariant.moved_length;
            prime = ap (λ (r : RowValue). r.p) w.out-is ∙ c.loop-e.invariant.prime;
            is_row = subst (λ x. IsRow G.table.p (order G.table * b) x)
                (ap (λ (r : RowValue). r.entries) (sym w.out-is))
                c.loop-e.invariant.is_row;
            gained = gained-none G c.args.subgroup.now.images b (entries_of c.args.coefficients)
                (entries_of c.args.v) c.args.out.now.entries
                c.loop-e.out.entries c.if-c-ne0.out.entries c.loop-e.e c.loop-e.invariant.gained
                (sym c.get-c.ensures.value ∙ w.if-c-ne0.false) (ap (λ (r : RowValue). r.entries) w.out-is);
          }
    ]

pub returns-clause-gained : goal.returns-clause-gained
returns-clause-gained c = gained-all c.args.g.now c.args.subgroup.now.images c.args.rank
    (entries_of c.args.coefficients)
    (entries_of c.args.v) c.args.out.now.entries c.loop-e.out.entries c.loop-e.e
    (omega (arith, c.len-e-end.ensures.count, c.loop-e-test.false, c.loop-e.auto)) c.loop-e.invariant.gained
