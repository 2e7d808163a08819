-- The layer basis: the joined greedy lists of the powers of the augmentation ideal.
use Rattle.std.specs.Prelude.{◌≡◌, ◌≢◌, ℕ, zero, suc, List, [], ◌∷◌, ◌++◌, length, get_or, ◌<◌}
use Rattle.group_modules.specs.Tables.{Group, Table, block-sum}
use Rattle.linear_algebra.specs.Choices.{rows_at, IsGreedy}
use Rattle.group_modules.specs.Module.{times}
use Rattle.group_modules.specs.Field.{Below, residue}
use Rattle.group_modules.specs.Sums.{total, below}
use Rattle.linear_algebra.specs.Rows.{entry, row}
use Rattle.radical_layers.specs.Coordinates.{RowForm, Coordinates}
use Rattle.radical_layers.specs.Placing.{size_of, place_of}
use Rattle.radical_layers.specs.Layers.{IsPowerList}

-- the layers i, i + 1, .., c in number, joined; and the power after them
abbrev pub joined : (ℕ → List (List ℕ)) → (ℕ → List ℕ) → ℕ → ℕ → List (List ℕ)
joined E positions i zero = []
joined E positions i (suc c) = rows_at (E i) (positions i) ++ joined E positions (suc i) c

abbrev pub after : ℕ → ℕ → ℕ
after i zero = i
after i (suc c) = after (suc i) c

-- the lists of the powers, the positions of their greedy lists, and the number of layers
pub record Layers : Type 0 where
  pub powers : ℕ → List (List ℕ)
  pub positions : ℕ → List ℕ
  pub count : ℕ

module _ {n : ℕ} (q : ℕ) (Γ : Group n) (K : RowForm n (Table q Γ 1)) (Y : Layers) where
  pub record AreLayers : Type 0 where
    pub powers_are : (i : ℕ) → IsPowerList q Γ K i (Y.powers i)
    pub positions_are : (i : ℕ) → IsGreedy (suc q) (Y.powers i) (Y.powers (suc i)) (Y.positions i)
    pub ends : Y.powers (after 0 Y.count) ≡ []
    -- and no layer is empty, so the count is the least
    pub least : (i : ℕ) → i < Y.count → 0 < length (Y.powers i)

-- the layers with these powers and positions, where all later powers are 0
abbrev pub layers_of : List (List (List ℕ)) → List (List ℕ) → Layers
layers_of Es xs = record { powers = λ i. get_or Es i []; positions = λ i. get_or xs i []; count = length Es }

-- the powers that are not 0 and their greedy positions, as lists
pub record AreLayerLists {n : ℕ} (q : ℕ) (Γ : Group n) (K : RowForm n (Table q Γ 1))
    (Es : List (List (List ℕ))) (xs : List (List ℕ)) : Type 0 where
  pub powers_are : (i : ℕ) → i < length Es → IsPowerList q Γ K i (get_or Es i [])
  pub last_is : IsPowerList q Γ K (length Es) []
  pub not_empty : (i : ℕ) → i < length Es → 0 < length (get_or Es i [])
  pub positions_are : (i : ℕ) → i < length Es
      → IsGreedy (suc q) (get_or Es i []) (get_or Es (suc i) []) (get_or xs i [])
  pub same_count : length xs ≡ length Es

-- the layer basis
abbrev pub layer_basis : Layers → List (List ℕ)
layer_basis Y = joined Y.powers Y.positions 0 Y.count

-- the sizes of the layers
abbrev pub sizes_from : (ℕ → List ℕ) → ℕ → ℕ → List ℕ
sizes_from positions i zero = []
sizes_from positions i (suc c) = length (positions i) ∷ sizes_from positions (suc i) c

abbrev pub layer_sizes : Layers → List ℕ
layer_sizes Y = sizes_from Y.positions 0 Y.count

-- the entry at place 0 is the sum of the coefficients
abbrev pub SumFirst : {n : ℕ} (q : ℕ) (Γ : Group n) → RowForm n (Table q Γ 1) → Type 0
SumFirst q Γ K = (v : (Table q Γ 1).of) → entry (K.row v) 0 ≡ (block-sum q Γ 1 v (residue 0 0)).0

-- and the other entries are the coefficients of the elements 1, 2 and so on
pub record IsSumForm {n : ℕ} (q : ℕ) (Γ : Group n) (K : RowForm n (Table q Γ 1)) : Type 0 where
  pub first : SumFirst q Γ K
  pub others : (v : (Table q Γ 1).of) (g : Below n) → g.0 ≢ 0 → entry (K.row v) g.0 ≡ (v (residue 0 0) g).0

-- the layer basis has n members; and for each number of blocks a row has at the place of block i and member k
-- the coefficient of member k in block i
pub record LayerBasisClaims {n : ℕ} (q : ℕ) (Γ : Group n) (K : RowForm n (Table q Γ 1))
    (Y : Layers) : Type 0 where
  pub size : size_of (layer_sizes Y) ≡ n
  pub coordinates : Coordinates q Γ
  pub expand : (b : ℕ) (v : (Table q Γ b).of) (i : Below b)
      → (λ z g. v i g)
      ≡ total (Table q Γ 1) (below (length (layer_basis Y)))
      (λ k. times (Table q Γ 1).add (Table q Γ 1).zero
      (entry ((coordinates b).row v) (place_of (layer_sizes Y) b i.0 k.0))
      (K.table (row (layer_basis Y) k.0)))
  -- the sum of block i is the entry at place i
  pub sums : SumFirst q Γ K → 0 < n → (b : ℕ) (v : (Table q Γ b).of) (i : Below b)
      → (block-sum q Γ b v i).0 ≡ entry ((coordinates b).row v) i.0
