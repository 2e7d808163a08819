use Rattle.std.proofs.Common.{◌≡◌, ◌*◌, ◌≤◌, ℕ, List, length, replicate, refl, arith, ap, ap₂, sym, ◌∙◌}
use Rattle.std.proofs.lemmas.List.{length-replicate}
use mathlib.Core.Path.{subst}
use Rattle.group_table.specs.Tables.{order}
use Rattle.linear_algebra.specs.Rows.{row, IsRow}
use Rattle.fp_rows.specs.Refs.{entries_of}
use Rattle.fp_rows.specs.Values.{RowValue}
use Rattle.p_groups.specs.PGroups.{PGroup}
use Rattle.group_algebra.specs.Coordinates.{free_module, table_of, AreCoefficients}
use Rattle.group_algebra.specs.RowMaps.{IsBlock}
use Rattle.chain_lift.specs.EmbeddingRows.{translates}
use Rattle.chain_lift.proofs.EmbeddingRows.{value-start, value-step, value-end}
use Rattle.chain_lift.proofs.embedding_maps.write_value.Goals as goal

pub loop-k-init : goal.loop-k-init
loop-k-init c =
    let G : PGroup = c.args.g.now in
    let zeros : c.clear.new.self.entries ≡ replicate (order G.table * c.args.rank) 0 =
    ap (λ (x : RowValue). x.entries) c.clear.ensures ∙ ap (λ n. replicate n 0) c.requires.out_length in
    record {
      scratch = c.requires.scratch;
      prime = ap (λ (x : RowValue). x.p) c.clear.ensures ∙ c.requires.out_prime;
      length_is = ap (λ (x : List ℕ). length x) zeros ∙ length-replicate (order G.table * c.args.rank) 0;
      partial = value-start G c.args.subgroup.now.images c.args.rank c.args.e.now c.args.rows.now.rows
          (entries_of c.args.x) _ zeros;
    }

pub loop-k-preserved : goal.loop-k-preserved
loop-k-preserved c =
    let E : PGroup = c.args.e.now in
    let G : PGroup = c.args.g.now in
    let B : IsBlock E (length c.args.rows.now.rows) c.loop-k.k (entries_of c.args.x)
    c.write_block.new.block.entries =
    subst (λ n. IsBlock E n c.loop-k.k (entries_of c.args.x) c.write_block.new.block.entries)
    c.rows.ensures.count c.write_block.ensures.block in
    let C : AreCoefficients E c.from_layers.new.out.entries (table_of E 1 c.write_block.new.block.entries) =
    subst (λ x. AreCoefficients E c.from_layers.new.out.entries (table_of E 1 x)) c.view.ensures.entries
    c.from_layers.ensures.coefficients in
    record {
      scratch = record {
        block_prime = c.write_block.ensures.prime ∙ c.loop-k.invariant.scratch.block_prime;
        block_length = c.write_block.ensures.length ∙ c.loop-k.invariant.scratch.block_length;
        coefficients_prime = c.from_layers.ensures.prime ∙ c.loop-k.invariant.scratch.coefficients_prime;
        coefficients_length = C.is_row.length_is;
        moved_prime = c.add_translates.ensures.moved_prime ∙ c.loop-k.invariant.scratch.moved_prime;
        moved_length = c.add_translates.ensures.moved_length ∙ c.loop-k.invariant.scratch.moved_length;
      };
      prime = c.add_translates.ensures.prime ∙ c.loop-k.invariant.prime;
      length_is = c.add_translates.ensures.length ∙ c.loop-k.invariant.length_is;
      partial = value-step G c.args.subgroup.now.images c.args.rank E c.args.rows.now.rows
          (entries_of c.args.x) c.loop-k.k
          c.loop-k.out.entries c.write_block.new.block.entries c.from_layers.new.out.entries
          (row c.args.rows.now.rows c.loop-k.k)
          c.add_translates.new.out.entries c.loop-k.invariant.partial B C refl
          (c.add_translates.ensures.gained
          ∙ ap₂ (λ (a v : List ℕ). (free_module G c.args.rank).add
          (table_of G c.args.rank c.loop-k.out.entries)
          (translates G c.args.rank c.args.subgroup.now.images a v)) c.view-in-loop-k.ensures.entries
          c.row.ensures.entries);
    }

pub returns-clause-value : goal.returns-clause-value
returns-clause-value c =
    let r : IsRow c.args.g.now.table.p (order c.args.g.now.table * c.args.rank) c.loop-k.out.entries =
    subst (λ p. IsRow p (order c.args.g.now.table * c.args.rank) c.loop-k.out.entries)
    c.loop-k.invariant.prime
    (subst (λ n. IsRow c.loop-k.out.p n c.loop-k.out.entries) c.loop-k.invariant.length_is
    c.len-row.ensures.row) in
    value-end c.args.g.now c.args.subgroup.now.images c.args.rank c.args.e.now c.args.rows.now.rows
    (entries_of c.args.x) c.requires.argument
    c.loop-k.out.entries c.loop-k.k
    (omega (arith, c.rows-k-end.ensures.count, c.loop-k-test.false, c.loop-k.auto))
    c.loop-k.invariant.partial r
