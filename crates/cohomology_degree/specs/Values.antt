-- Generators of a cohomology ring.
use Rattle.std.specs.Prelude.{ℕ, List, map}
use Rattle.graded_algebra.specs.Algebras.{Generator}
use Rattle.graded_algebra.specs.Vectors.{Vector}
use Rattle.presentation_rows.specs.Values.{vector}

-- a generator: its degree, and the row of its class
pub record GeneratorValue : Type 0 where
  pub degree : ℕ
  pub class : List ℕ

-- the generators with their classes as vectors
abbrev pub generators_of : (q : ℕ) → List GeneratorValue → List (Generator (Vector q))
generators_of q gs = map (λ g. record { degree = g.degree; class = vector q g.class }) gs
