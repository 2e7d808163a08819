-- The product that one step makes is that of the layer.
use Rattle.std.proofs.Common.{ℕ, suc, sym, ◌∙◌, ap, subst, subst₂, ◌≡◌, ◌*◌, ◌^◌, arith, List}
use Rattle.std.proofs.Math.Nat.{pow-succ'}
use Rattle.power_commutator.specs.Presentations.{Presentation as Presented}
use Rattle.power_commutator.specs.Steps.{step_table, IsLayerTable}
use Rattle.pc_group.specs.declared.layer.Layer.{Layer}
use Rattle.pc_group.specs.Tables.{entry_of, at, HasEntries}
use Rattle.pc_group.specs.Squares.{times}
use Rattle.pc_group.specs.Layers.{IsLayerOf}
use Rattle.pc_group.proofs.LayerTables.{table-next}

module _ (P : Presented) (m : ℕ) (L : Layer) (R : IsLayerOf P m L) where
  pub width-of : L.prime * L.table.width ≡ P.prime ^ suc m
  width-of =
      ap (λ p. p * L.table.width) R.prime-is ∙ ap (λ w. P.prime * w) R.table-is.width-is
      ∙ sym (pow-succ' P.prime m)

  module _ (out : List ℕ) where
    abbrev HasProduct : (p w : ℕ) → Type 0
    HasProduct p w = HasEntries (p * L.table.width) (step_table p (times L.table) w (at L.images.items))
        (p * L.table.width * (p * L.table.width)) out

    pub table-of : HasProduct L.prime (at L.powers.items L.index)
        → IsLayerTable P L.index (suc m) (entry_of out (L.prime * L.table.width))
    table-of h =
        subst (λ p. IsLayerTable P L.index (suc m) (entry_of out (p * L.table.width))) (sym R.prime-is)
        (table-next P R.some R.valid L.index m R.count R.index L.table.width L.table.entries.items
        L.images.items out R.table-is.width-is R.table-is.product-is L.images_below R.images-are
        (subst₂ HasProduct R.prime-is
        (R.powers-are L.index (omega arith)
        (let z = L.inside in let g = R.gens-is in omega (arith, z, g))) h))
