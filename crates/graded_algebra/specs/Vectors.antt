-- Class vectors: entries modulo p = q + 1, 0 from the rank of the degree on; and graded algebras of such
-- vectors.
use Rattle.std.specs.Prelude.{◌≡◌, ℕ, zero, suc, ◌+◌, ◌≤◌, cond, eqb, List, [], ◌∷◌}
use Rattle.graded_algebra.specs.Algebras.{Algebra, IsGradedCommutative}
pub use Rattle.linear_algebra.specs.Residues.{Below, residue, Vector}

-- 1 at place k alone
abbrev pub unit : (q : ℕ) → ℕ → Vector q
unit q k i = residue q (cond (eqb i k) 1 0)

-- the units at n places from k on
abbrev pub units : (q : ℕ) → ℕ → ℕ → List (Vector q)
units q k zero = []
units q k (suc n) = unit q k ∷ units q (suc k) n

abbrev pub vectors : (q : ℕ) → (ℕ → ℕ → Vector q → Vector q → Vector q) → Algebra (Vector q)
vectors q mul = record {
  zero = λ i. residue q 0;
  add = λ v w i. residue q ((v i).0 + (w i).0);
  one = unit q 0;
  mul = mul;
}

-- a graded commutative algebra of vectors, of rank 1 in degree 0
pub record GradedAlgebra (q : ℕ) : Type 0 where
  pub ranks : ℕ → ℕ
  pub mul : ℕ → ℕ → Vector q → Vector q → Vector q
  pub rank-zero : ranks 0 ≡ 1
  pub laws : IsGradedCommutative q (Vector q) (vectors q mul) (λ d v. (i : ℕ) → ranks d ≤ i
      → v i ≡ residue q 0)

-- v is of degree d
abbrev pub IsOfDegree : (q : ℕ) → GradedAlgebra q → ℕ → Vector q → Type 0
IsOfDegree q G d v = (i : ℕ) → G.ranks d ≤ i → v i ≡ residue q 0

abbrev pub algebra : (q : ℕ) → GradedAlgebra q → Algebra (Vector q)
algebra q G = vectors q G.mul

-- the dual basis vectors of degree d
abbrev pub basis : (q : ℕ) → GradedAlgebra q → ℕ → List (Vector q)
basis q G d = units q 0 (G.ranks d)
