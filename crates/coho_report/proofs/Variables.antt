-- A generator alone as a polynomial.
use Rattle.std.proofs.Common.{◌≡◌, ◌≢◌, ◌∙◌, ℕ, zero, suc, ◌+◌, ◌*◌, List, [], ◌∷◌, ◌++◌, length, refl}
use Rattle.std.proofs.Common.{sym, ap, arith, drop}
use mathlib.Core.Path.{fun_ext}
use Rattle.linear_algebra.specs.Residues.{Below, residue, plus}
use Rattle.linear_algebra.proofs.Residues.{plus-zero, residue-self, times-one, times-residue}
use Rattle.p_groups.specs.PGroups.{PGroup, largest_residue, order_of}
use Rattle.graded_polynomials.specs.Monomials.{IsWithin, degree, exponent}
use Rattle.graded_polynomials.specs.Polynomials.{Term}
use Rattle.graded_polynomials.specs.Texts.{power}
use Rattle.graded_algebra.specs.Algebras.{Generator, degrees, evaluate_from}
use Rattle.graded_algebra.specs.Cochains.{cochains}
use Rattle.group_cocycles.specs.Cocycles.{GroupCochain}
use Rattle.group_cocycles.specs.Rings.{Generators, cochain_of}

-- the generator at a place, alone
abbrev pub variable : ℕ → List Term
variable k = record { scalar = 1; monomial = power k 1 } ∷ []

pub other-exponent : (k l : ℕ) → k ≢ l → exponent (power l 1) k ≡ 0
other-exponent zero zero other = absurd (other refl)
other-exponent (suc k) zero other = refl
other-exponent zero (suc l) other = refl
other-exponent (suc k) (suc l) other = other-exponent k l (λ e. other (ap suc e))

pub power-degree : {V : Type 0} (before : List (Generator V)) (g : Generator V) (after : List (Generator V))
    → degree (degrees (before ++ g ∷ after)) (power (length before) 1) ≡ g.degree
power-degree [] g after = no-more (degrees after)
  where
    no-more : (ds : List ℕ) → g.degree * 1 + degree ds [] ≡ g.degree
    no-more [] = omega arith
    no-more (d ∷ ds) = omega arith
power-degree (b ∷ before) g after =
    let rest = power-degree before g after in
    let here : b.degree * 0 + degree (degrees (before ++ g ∷ after)) (power (length before) 1)
    ≡ degree (degrees (before ++ g ∷ after)) (power (length before) 1) = omega arith in
    here ∙ rest

-- the generator at a place that a monomial has
pub record IsAt {V : Type 0} (gs : List (Generator V)) (k : ℕ) : Type 0 where
  pub before : List (Generator V)
  pub generator : Generator V
  pub after : List (Generator V)
  pub whole : gs ≡ before ++ generator ∷ after
  pub place : length before ≡ k

pub at-place : {V : Type 0} (gs : List (Generator V)) (k : ℕ) → IsWithin (degrees gs) (power k 1) → IsAt gs k
at-place [] zero w = absurd w
at-place [] (suc k) w = absurd w
at-place (g ∷ gs) zero w = record { before = []; generator = g; after = gs; whole = refl; place = refl }
at-place (g ∷ gs) (suc k) w =
    let rest : IsAt gs k = at-place gs k w in
    record {
      before = g ∷ rest.before;
      generator = rest.generator;
      after = rest.after;
      whole = ap (λ xs. g ∷ xs) rest.whole;
      place = ap suc rest.place;
    }

module _ (G : PGroup) where
  abbrev q : ℕ
  q = largest_residue G

  one-times : (c : Below (suc q)) → residue q ((residue q 1).0 * c.0) ≡ c
  one-times c =
      ap (residue q) (let e : (residue q 1).0 * c.0 ≡ c.0 * (residue q 1).0 = omega (arith) in e)
      ∙ sym (times-residue q c.0 (residue q 1)) ∙ times-one q c.0 ∙ residue-self q c

  no-factors : (j : ℕ) (a : GroupCochain G) (gs : Generators G)
      → evaluate_from (cochains (Below (order_of G)) q) j a gs [] ≡ a
  no-factors j a [] = refl
  no-factors j a (g ∷ gs) = refl

  -- the factors before are 1
  one-factor : (j : ℕ) → j ≡ 0 → (before : Generators G) (g : Generator (GroupCochain G))
      (after : Generators G)
      → evaluate_from (cochains (Below (order_of G)) q) j (λ t. residue q 1) (before ++ g ∷ after)
      (power (length before) 1) ≡ g.class
  one-factor j e [] g after =
      no-factors (j + g.degree * 1) _ after
      ∙ ap (λ i. λ t. residue q ((residue q 1).0 * (g.class (drop i t)).0))
      (let z : j + g.degree * 0 ≡ 0 = omega (arith, e) in z)
      ∙ fun_ext (λ t. one-times (g.class t))
  one-factor j e (b ∷ before) g after =
      one-factor (j + b.degree * 0) (omega (arith, e)) before g after

  pub variable-class : (before : Generators G) (g : Generator (GroupCochain G)) (after : Generators G)
      → cochain_of G (before ++ g ∷ after) (variable (length before)) ≡ g.class
  variable-class before g after =
      ap (λ (u : GroupCochain G). λ t. plus q (plus q (u t) (residue q 0)) (residue q 0))
      (one-factor 0 refl before g after)
      ∙ fun_ext (λ t. plus-zero q (plus q (g.class t) (residue q 0)) ∙ plus-zero q (g.class t))
