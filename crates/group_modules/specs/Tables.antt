-- The group algebra's free modules as tables of numbers.
use Rattle.std.specs.Prelude.{ℕ, suc, refl, List, [], ◌∷◌, ◌++◌, Bool, true, false, eqb, ◌&&◌}
use Rattle.group_modules.specs.Module.{Monoid, Module, times, Term}
use Rattle.group_modules.specs.Field.{Below, Fp, residue, plus, minus}
use Rattle.group_modules.specs.Sums.{below, total}
use Rattle.numbered_groups.proofs.Entries.{entries-set, entries-assoc, entries-comm, entries-zero}
use Rattle.numbered_groups.proofs.Entries.{entries-neg, entries-p, move-one, move-mul}
pub use Rattle.numbered_groups.specs.Groups.{Group}

-- the group, of which only the product and the unit are used
abbrev pub monoid : {n : ℕ} → Group n → Monoid
monoid {n} Γ = record {
  elem = Below n;
  one = Γ.one;
  mul = Γ.mul;
  one-mul = Γ.one-mul;
  mul-one = Γ.mul-one;
  mul-assoc = Γ.mul-assoc;
}

module _ {n : ℕ} (q : ℕ) (Γ : Group n) where
  abbrev pub table-add : (b : ℕ) → (v w : Below b → Below n → Below (suc q)) → Below b → Below n
      → Below (suc q)
  table-add b v w i g = plus q (v i g) (w i g)

  -- a coefficient for each block and group element; h moves the entry at g to h g
  abbrev pub Table : ℕ → Module (suc q) (monoid Γ)
  Table b = record {
    of = Below b → Below n → Below (suc q);
    is_set = entries-set q Γ b;
    zero = λ i g. residue q 0;
    add = table-add b;
    neg = λ v i g. minus q (v i g);
    act = λ h v i g. v i (Γ.mul (Γ.inv h) g);
    add-assoc = entries-assoc q Γ b;
    add-comm = entries-comm q Γ b;
    add-zero = entries-zero q Γ b;
    add-neg = entries-neg q Γ b;
    times-p = entries-p q Γ b;
    act-add = λ h v w. refl;
    act-one = move-one q Γ b;
    act-mul = move-mul q Γ b;
  }

  abbrev pub mark : Bool → Below (suc q)
  mark true = residue q 1
  mark false = residue q 0

  -- the basis element of block i
  abbrev pub unit : (b : ℕ) → Below b → (Table b).of
  unit b i j h = mark (eqb j.0 i.0 && eqb h.0 Γ.one.0)

  -- block i of v as a formal sum, and v as a formal sum
  abbrev pub block-terms : (b : ℕ) → (Table b).of → Below b → List (Below n)
      → List (Term (monoid Γ) (Below b))
  block-terms b v i [] = []
  block-terms b v i (g ∷ gs) = record { coef = (v i g).0; elem = g; base = i } ∷ block-terms b v i gs

  abbrev pub terms-of : (b : ℕ) → (Table b).of → List (Below b) → List (Term (monoid Γ) (Below b))
  terms-of b v [] = []
  terms-of b v (i ∷ is) = block-terms b v i (below n) ++ terms-of b v is

  abbrev pub terms : (b : ℕ) → (Table b).of → List (Term (monoid Γ) (Below b))
  terms b v = terms-of b v (below b)

  -- the sum of the coefficients of block i
  abbrev pub block-sum : (b : ℕ) → (Table b).of → Below b → Below (suc q)
  block-sum b v i = total (Fp q (monoid Γ)) (below n) (v i)

  module _ (M : Module (suc q) (monoid Γ)) (b : ℕ) (u : Below b → M.of) where
    -- the term of v at block i and g, where the basis elements go to u
    abbrev pub part : (Table b).of → Below b → Below n → M.of
    part v i g = times M.add M.zero (v i g).0 (M.act g (u i))
