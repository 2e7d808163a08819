-- Cochains as functions of lists, with the cup product of lists.
use Rattle.std.specs.Prelude.{ℕ, ◌+◌, ◌*◌, suc, List, take, drop}
use Rattle.graded_algebra.specs.Vectors.{Below, residue}
use Rattle.graded_polynomials.specs.Polynomials.{Term}
use Rattle.graded_algebra.specs.Algebras.{Algebra, Generator, value}

abbrev pub Cochain : Type 0 → ℕ → Type 0
Cochain E q = List E → Below (suc q)

-- the cup product of u of degree j and v: u at the first j entries times v at the others
abbrev pub cup : (E : Type 0) (q j : ℕ) → Cochain E q → Cochain E q → Cochain E q
cup E q j u v t = residue q ((u (take j t)).0 * (v (drop j t)).0)

abbrev pub cochains : (E : Type 0) (q : ℕ) → Algebra (Cochain E q)
cochains E q = record {
  zero = λ t. residue q 0;
  add = λ u v t. residue q ((u t).0 + (v t).0);
  one = λ t. residue q 1;
  mul = λ j e u v. cup E q j u v;
}

-- the generators stand for the cochains of their classes
abbrev pub cochain_value : (E : Type 0) (q : ℕ) → List (Generator (Cochain E q)) → List Term → Cochain E q
cochain_value E q gs f = value (cochains E q) gs f
