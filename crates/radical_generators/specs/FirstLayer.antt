-- Layer 1 of the layer basis of a group algebra, and the products by its members on rows.
use Rattle.std.specs.Prelude.{ℕ, zero, suc, ◌%◌, List, [], ◌∷◌, length}
use Rattle.linear_algebra.specs.Rows.{entry, row}
use Rattle.linear_algebra.specs.Choices.{rows_at}
use Rattle.group_modules.specs.Module.{Module, lin}
use Rattle.group_modules.specs.Tables.{Group, monoid, Table, terms}
use Rattle.radical_layers.specs.Coordinates.{RowForm}
use Rattle.radical_layers.specs.LayerBasis.{Layers}

-- the first numbers of the sequence f, each modulo p, as a row of the given width
abbrev pub row_modulo : ℕ → ℕ → (ℕ → ℕ) → List ℕ
row_modulo p zero f = []
row_modulo p (suc width) f = f 0 % p ∷ row_modulo p width (λ j. f (suc j))

module _ {n : ℕ} (q : ℕ) (Γ : Group n) where
  -- the product a v of a member of kG and one of M: the value at a of the linear map from kG that takes
  -- 1 to v
  abbrev pub product : (M : Module (suc q) (monoid Γ)) → (Table q Γ 1).of → M.of → M.of
  product M a v = lin M (λ i. v) (terms q Γ 1 a)

  module _ (K : RowForm n (Table q Γ 1)) (Y : Layers) where
    -- how many members layer 1 has
    abbrev pub layer_size : ℕ
    layer_size = length (Y.positions 1)

    -- member k of layer 1
    abbrev pub layer_member : ℕ → (Table q Γ 1).of
    layer_member k = K.table (row (rows_at (Y.powers 1) (Y.positions 1)) k)

    -- the products by the members of layer 1 on sequences of numbers, which are read modulo p as rows of M
    abbrev pub layer_map : {width : ℕ} (M : Module (suc q) (monoid Γ)) → RowForm width M → ℕ → (ℕ → ℕ) → ℕ → ℕ
    layer_map {width} M C k f j = entry (C.row (product M (layer_member k)
        (C.table (row_modulo (suc q) width f)))) j
