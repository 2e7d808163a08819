-- The direct product of the groups of two presentations.
use Rattle.std.specs.Prelude.{◌≡◌, ℕ, ◌+◌, ◌<◌, ◌≤◌, ◌++◌, map, replicate}
use Rattle.power_commutator.specs.Presentations.{Presentation, IsPresentation, commutator_word, identity}
use Rattle.power_commutator.specs.Presentations.{power_word}

-- the direct product of the groups of presentations over one prime: the generators of Q come after those of P
abbrev pub direct_product : Presentation → Presentation → Presentation
direct_product P Q = record {
  prime = P.prime;
  gens = P.gens + Q.gens;
  powers = map (λ w. w ++ identity Q.gens) P.powers ++ map (λ w. identity P.gens ++ w) Q.powers;
  commutators =
      map (λ row. map (λ w. w ++ identity Q.gens) row) P.commutators
      ++ map (λ row. replicate P.gens (identity (P.gens + Q.gens)) ++ map (λ w. identity P.gens ++ w) row)
      Q.commutators;
}

-- P agrees with Q in the prime, the generators, the words of g_1^p to g_i^p, and those of [g_m, g_k] for each
-- m up to j
pub record Agrees (Q : Presentation) (i j : ℕ) (P : Presentation) : Type 0 where
  pub valid : IsPresentation P
  pub prime : P.prime ≡ Q.prime
  pub gens : P.gens ≡ Q.gens
  pub powers : (k : ℕ) → 0 < k → k ≤ i → power_word P k ≡ power_word Q k
  pub commutators : (m k : ℕ) → 0 < k → k < m → m ≤ j → commutator_word P m k ≡ commutator_word Q m k
