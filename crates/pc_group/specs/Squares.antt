-- Products by their tables, and the product of a layer.
use Rattle.std.specs.Prelude.{◌≡◌, ℕ, ◌^◌}
use Rattle.power_commutator.specs.Presentations.{Presentation as Presented}
use Rattle.power_commutator.specs.Steps.{IsLayerTable}
use Rattle.pc_group.specs.Tables.{entry_of}
use Rattle.pc_group.specs.declared.square.Square.{Square}

-- the product of a and b
abbrev pub times : Square → ℕ → ℕ → ℕ
times S = entry_of S.entries.items S.width

-- S is the product of the layer of P of the m generators from g_i on
pub record IsTableOf (P : Presented) (i m : ℕ) (S : Square) : Type 0 where
  pub width-is : S.width ≡ P.prime ^ m
  pub product-is : IsLayerTable P i m (times S)
