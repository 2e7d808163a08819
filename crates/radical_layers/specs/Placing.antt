-- The places of a free module of b blocks.
use Rattle.std.specs.Prelude.{◌≡◌, ℕ, List, [], ◌∷◌, ◌+◌, ◌-◌, ◌*◌, ◌/◌, ◌%◌, ltb, cond}
use Rattle.group_modules.specs.Field.{Below}

-- one place below w for each of b blocks and n members
pub record Placing (b n w : ℕ) : Type 0 where
  pub place : Below b → Below n → Below w
  pub block : Below w → Below b
  pub member : Below w → Below n
  pub block-place : (i : Below b) (k : Below n) → block (place i k) ≡ i
  pub member-place : (i : Below b) (k : Below n) → member (place i k) ≡ k
  pub place-at : (x : Below w) → place (block x) (member x) ≡ x

-- the number of members in layers of these sizes
abbrev pub size_of : List ℕ → ℕ
size_of [] = 0
size_of (s ∷ sizes) = s + size_of sizes

-- the place of member k in block i of b blocks: layer by layer, in a layer block by block, in a block by
-- position
abbrev pub place_of : List ℕ → ℕ → ℕ → ℕ → ℕ
place_of [] b i k = 0
place_of (s ∷ sizes) b i k = cond (ltb k s) (i * s + k) (b * s + place_of sizes b i (k - s))

-- the block and the member at a place
abbrev pub block_at : List ℕ → ℕ → ℕ → ℕ
block_at [] b x = 0
block_at (s ∷ sizes) b x = cond (ltb x (b * s)) (x / s) (block_at sizes b (x - b * s))

abbrev pub member_at : List ℕ → ℕ → ℕ → ℕ
member_at [] b x = 0
member_at (s ∷ sizes) b x = cond (ltb x (b * s)) (x % s) (s + member_at sizes b (x - b * s))
