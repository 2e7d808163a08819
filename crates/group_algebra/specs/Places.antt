-- The layer of each member of the layer basis, from the sizes of the layers.
use Rattle.std.specs.Prelude.{◌≡◌, ℕ, List, [], ◌∷◌, ◌+◌, ◌-◌, ◌<◌, length, slice_index, take, ltb, cond}
use Rattle.radical_layers.specs.Placing.{size_of}

-- the number of members before the layer of member k
abbrev pub start_of : List ℕ → ℕ → ℕ
start_of [] k = 0
start_of (s ∷ sizes) k = cond (ltb k s) 0 (s + start_of sizes (k - s))

-- the size of the layer of member k
abbrev pub span_of : List ℕ → ℕ → ℕ
span_of [] k = 0
span_of (s ∷ sizes) k = cond (ltb k s) s (span_of sizes (k - s))

-- the number of members before layer i
abbrev pub start_at : List ℕ → ℕ → ℕ
start_at sizes i = size_of (take i sizes)

-- where each member's layer starts, and its size, up to member n
pub record AreSpots (sizes : List ℕ) (n : ℕ) (starts spans : List ℕ) : Type 0 where
  pub start_count : length starts ≡ n
  pub span_count : length spans ≡ n
  pub starts_are : (k : ℕ) → k < n → slice_index starts k ≡ start_of sizes k
  pub spans_are : (k : ℕ) → k < n → slice_index spans k ≡ span_of sizes k
