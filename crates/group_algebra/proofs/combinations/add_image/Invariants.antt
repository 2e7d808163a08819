use Rattle.std.proofs.Common.{◌≡◌, ◌≤◌, ◌<◌, ◌+◌, ◌*◌, ℕ}
use Rattle.linear_algebra.specs.Modular.{IsCongruent}
use Rattle.linear_algebra.specs.Rows.{entry, IsRow}
use Rattle.radical_layers.specs.Placing.{place_of, size_of}
use Rattle.fp_rows.specs.Refs.{entries_of}
use Rattle.group_algebra.specs.Gains.{image_at, image_entry}
use Rattle.group_algebra.proofs.combinations.add_image.Given as goal

abbrev pub invariant-loop-block : goal.invariant-loop-block
invariant-loop-block l =
    (l.out.p ≡ l.fn.out.p)
    × IsRow l.fn.out.p (size_of l.places * l.rank) l.out.entries
    × ((i j : ℕ) → i < l.block → j < size_of l.places
    → IsCongruent l.fn.out.p (entry l.out.entries (place_of l.places l.rank i j))
    (entry l.fn.out.entries (place_of l.places l.rank i j) + image_entry l.places l.rank
    (image_at l.images.rows.now.rows l.images.first l.images.step l.images.factors.now) l.c
    (entries_of l.fn.v) i j))
    × ((i j : ℕ) → l.block ≤ i → i < l.rank → j < size_of l.places
    → entry l.out.entries (place_of l.places l.rank i j) ≡ entry l.fn.out.entries
    (place_of l.places l.rank i j))
