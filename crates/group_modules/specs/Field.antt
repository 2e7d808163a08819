-- The integers modulo p = q + 1, as a module with the trivial action.
use Rattle.std.specs.Prelude.{ℕ, suc, refl}
use Rattle.group_modules.specs.Module.{Monoid, Module}
use Rattle.linear_algebra.proofs.Residues.{below-set, plus-assoc, plus-comm, plus-zero, plus-minus, times-p}
pub use Rattle.linear_algebra.specs.Residues.{Below, residue, plus, minus}

abbrev pub Fp : (q : ℕ) (G : Monoid) → Module (suc q) G
Fp q G = record {
  of = Below (suc q);
  is_set = below-set (suc q);
  zero = residue q 0;
  add = plus q;
  neg = minus q;
  act = λ g a. a;
  add-assoc = plus-assoc q;
  add-comm = plus-comm q;
  add-zero = plus-zero q;
  add-neg = plus-minus q;
  times-p = times-p q;
  act-add = λ g a b. refl;
  act-one = λ a. refl;
  act-mul = λ g h a. refl;
}
