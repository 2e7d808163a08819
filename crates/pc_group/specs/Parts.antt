-- Presentations by their parts: the one of the elementary abelian group, and others from it, a word at a
-- time.
use Rattle.std.specs.Prelude.{ℕ, ◌-◌, List, [], map, replicate, get_or, slice_set}
use Rattle.smallvec.specs.SmallVec.{SmallVec}
use Rattle.power_commutator.specs.Presentations.{Presentation, identity, range}

-- g_i^p = 1 for each i, and [g_j, g_i] = 1 for each i < j
abbrev pub elementary_abelian : (p n : ℕ) → Presentation
elementary_abelian p n = record {
  prime = p;
  gens = n;
  powers = replicate n (identity n);
  commutators = map (λ i. replicate i (identity n)) (range 0 n);
}

-- P, with w for the word of g_i^p
abbrev pub with_power : Presentation → ℕ → List ℕ → Presentation
with_power P i w = record P { powers = slice_set P.powers (i - 1) w }

-- P, with w for the word of [g_j, g_i]
abbrev pub with_commutator : Presentation → (j i : ℕ) → List ℕ → Presentation
with_commutator P j i w =
    let row = get_or P.commutators (j - 1) [] in
    record P { commutators = slice_set P.commutators (j - 1) (slice_set row (i - 1) w) }

-- the exponent lists of words
abbrev pub exponents : List (SmallVec ℕ) → List (List ℕ)
exponents ws = map (λ w. w.items) ws
