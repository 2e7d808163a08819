-- What the members of layer 1 generate.
use Rattle.std.specs.Prelude.{◌≡◌, ℕ, suc, ◌+◌, ◌<◌, ◌↔◌, List, length}
use Rattle.linear_algebra.specs.Rows.{entry, row, IsMatrix, IsInSpan, AreInSpan, IsEchelonOf}
use Rattle.linear_algebra.specs.Choices.{IsGreedy, rows_at}
use Rattle.linear_algebra.specs.Maps.{IsLinear}
use Rattle.group_modules.specs.Tables.{Group, Table}
use Rattle.augmentation_ideal.specs.Radical.{Moved, Radical, IsSubmodule}
use Rattle.augmentation_ideal.specs.Generators.{Generate}
use Rattle.radical_layers.specs.Coordinates.{RowForm}
use Rattle.radical_layers.specs.LayerBasis.{Layers, layer_basis}
use Rattle.radical_layers.specs.Moves.{moves}
use Rattle.neg_basis.specs.Maps.{IsClosed, IsInSubmodule}
use Rattle.neg_basis.specs.Origins.{chosen_rows}
use Rattle.neg_basis.specs.Results.{IsNegBasisOf}
use Rattle.neg_basis.specs.declared.origin.Origin.{Origin}
use Rattle.radical_generators.specs.FirstLayer.{layer_size, layer_member, layer_map}
use Rattle.neg_basis.specs.Images.{AreImages}

module _ {n : ℕ} (q : ℕ) (Γ : Group n) (K : RowForm n (Table q Γ 1)) (Y : Layers) where
  -- the members of layer 1 lie in J and generate it as a left ideal
  pub record IdealClaims : Type 0 where
    pub members : (k : ℕ) → k < layer_size q Γ K Y → Radical (Table q Γ 1) 1 (layer_member q Γ K Y k)
    pub generate : Generate q Γ (Table q Γ 1) (Radical (Table q Γ 1) 1) (layer_size q Γ K Y)
        (λ k. layer_member q Γ K Y k.0)

  -- the members of layer 1 stand in the layer basis behind those of layer 0; with fewer than two layers there
  -- are none
  pub record PlaceClaims : Type 0 where
    pub none : Y.count < 2 → layer_size q Γ K Y ≡ 0
    pub inside : 1 < Y.count → (k : ℕ) → k < layer_size q Γ K Y
        → length (Y.positions 0) + k < length (layer_basis Y)
    pub member : 1 < Y.count → (k : ℕ) → k < layer_size q Γ K Y
        → K.table (row (layer_basis Y) (length (Y.positions 0) + k)) ≡ layer_member q Γ K Y k

  module _ (b : ℕ) {width : ℕ} (C : RowForm width (Table q Γ b)) where
    -- the products by the members of layer 1 on rows of kG^b
    abbrev pub maps : ℕ → (ℕ → ℕ) → ℕ → ℕ
    maps = layer_map q Γ K Y (Table q Γ b) C

    -- the members of kG^b with their rows in the span of these rows
    abbrev pub Spanned : List (List ℕ) → (Table q Γ b).of → Type 0
    Spanned rows v = IsInSpan (suc q) rows (entry (C.row v))

    -- the products are linear; and a span that is closed under them is a submodule
    pub record MapClaims : Type 0 where
      pub linear : (k : ℕ) → IsLinear (suc q) (maps k)
      pub submodule : (rows : List (List ℕ)) → IsClosed (suc q) (layer_size q Γ K Y) maps rows
          → IsSubmodule (Table q Γ b) (Spanned rows)

    -- the rows E span a submodule, and R are rows of it that generate it
    pub record AreGenerators (E R : List (List ℕ)) : Type 0 where
      pub matrix : IsMatrix (suc q) width E
      pub submodule : IsSubmodule (Table q Γ b) (Spanned E)
      pub generators : IsMatrix (suc q) width R
      pub inside : AreInSpan (suc q) E R
      pub generate : (i : ℕ) → i < length E
          → IsInSubmodule (suc q) (layer_size q Γ K Y) maps R (entry (row E i))

    -- the rows that a negative standard basis chooses from rows of a submodule generate it
    pub record ChosenClaims (E : List (List ℕ)) : Type 0 where
      pub generators : IsMatrix (suc q) width E → IsSubmodule (Table q Γ b) (Spanned E)
          → (vectors : List (List ℕ)) (origins : List Origin)
          → IsNegBasisOf (suc q) width (layer_size q Γ K Y) maps E vectors origins
          → AreGenerators E (rows_at E (chosen_rows origins))

    -- for generators R of the submodule S that the rows E span: the products of R by layer 1 generate
    -- J S, the span of all (g - 1) v with v in S, and a greedy choice modulo it can be made from their
    -- negative standard basis
    pub record RadicalGeneratorClaims (E R products : List (List ℕ)) : Type 0 where
      pub generate : (v : (Table q Γ b).of)
          → IsInSubmodule (suc q) (layer_size q Γ K Y) maps products (entry (C.row v))
          ↔ Moved (Table q Γ b) (Spanned E) v
      pub spans : (vectors : List (List ℕ)) (origins : List Origin)
          → IsNegBasisOf (suc q) width (layer_size q Γ K Y) maps products vectors origins
          → (v : (Table q Γ b).of) → IsInSpan (suc q) vectors (entry (C.row v))
          ↔ Moved (Table q Γ b) (Spanned E) v
      pub greedy : (vectors : List (List ℕ)) (origins : List Origin) (rows : List (List ℕ))
          (positions : List ℕ)
          → IsNegBasisOf (suc q) width (layer_size q Γ K Y) maps products vectors origins
          → IsEchelonOf (suc q) width vectors rows → IsGreedy (suc q) E rows positions
          → IsGreedy (suc q) E (moves Γ (Table q Γ b) C E) positions

    -- rows that span a submodule generate it, their span is closed under the products by layer 1, and their
    -- products by layer 1 can be listed
    pub record WholeClaims (E : List (List ℕ)) : Type 0 where
      pub generators : AreGenerators E E
      pub closed : IsClosed (suc q) (layer_size q Γ K Y) maps E
      pub products : (list : List (List ℕ)) × IsMatrix (suc q) width list
          × AreImages (suc q) (layer_size q Γ K Y) maps E list
