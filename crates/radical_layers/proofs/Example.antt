-- Places of an algebra with layers of 1, 2, 2, 2 and 1 members (as of the dihedral group of order 8), in two
-- blocks.
use Rattle.std.specs.Prelude.{◌≡◌, ℕ, List, [], ◌∷◌}
use Rattle.std.proofs.Common.{refl}
use Rattle.radical_layers.specs.Placing.{place_of, block_at, member_at, size_of}

abbrev sizes : List ℕ
sizes = 1 ∷ 2 ∷ 2 ∷ 2 ∷ 1 ∷ []

size : size_of sizes ≡ 8
size = refl

layer-zero : place_of sizes 2 1 0 ≡ 1
layer-zero = refl

layer-one : place_of sizes 2 1 2 ≡ 5
layer-one = refl

last : place_of sizes 2 1 7 ≡ 15
last = refl

block : block_at sizes 2 5 ≡ 1
block = refl

member : member_at sizes 2 5 ≡ 2
member = refl
