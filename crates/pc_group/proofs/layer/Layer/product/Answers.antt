-- One entry more, and at the end the table is that of the product.
use Rattle.std.proofs.Common.{arith, subst, ◌*◌, ◌≡◌}
use Rattle.pc_group.specs.Tables.{HasEntries}
use Rattle.pc_group.specs.Layers.{product_of}
use Rattle.pc_group.proofs.LayerTables.{entries-next}
use Rattle.pc_group.proofs.LayerProducts.{width-of, table-of}
use Rattle.pc_group.proofs.layer.Layer.product.Goals as goal

pub loop-k-preserved : goal.loop-k-preserved
loop-k-preserved c =
    let L = c.args.self.now in
    entries-next (L.prime * L.table.width) (product_of L) c.loop-k.k c.loop-k.entries.items
    c.push.new.self.items c.product_entry-x.result c.loop-k.invariant c.product_entry-x.ensures.value
    c.product_entry-x.ensures.inside c.in_ok-push.ensures.items

pub returns : goal.returns
returns c P m R =
    let L = c.args.self.now in
    let W = L.prime * L.table.width in
    let end : c.loop-k.k ≡ W * W =
    let a = c.loop-k.auto.k-end in let b = c.loop-k-test.false in omega (arith, a, b) in
    record {
      width-is = width-of P m L R;
      product-is = table-of P m L R c.loop-k.entries.items
          (subst (λ n. HasEntries W (product_of L) n c.loop-k.entries.items) end c.loop-k.invariant);
    }
