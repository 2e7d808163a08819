-- More generators: monomials, values and polynomials where generators are added behind the others.
use Rattle.std.proofs.Common.{◌≡◌, ℕ, zero, suc, ◌+◌, ◌*◌, ◌<◌, ◌≤◌, List, [], ◌∷◌, ◌++◌, length, Bool, true}
use Rattle.std.proofs.Common.{false, not, ◌||◌, ◌&&◌, leb, ◌⊎◌, inl, inr, arith, ap, ap₂, sym, ◌∙◌, refl}
use Rattle.std.specs.List.{AllByRecursion as Each}
use Rattle.graded_polynomials.specs.Monomials.{IsMonomial, IsWithin, IsTrimmed, degree, fits, exponent}
use Rattle.graded_polynomials.specs.Monomials.{is_exterior}
use Rattle.graded_polynomials.specs.Polynomials.{Term, IsOver}
use Rattle.graded_algebra.specs.Algebras.{Algebra, Generator, degrees, evaluate_from, value, times, powers}
use Rattle.graded_algebra.specs.Presentations.{IsValue}
use Rattle.graded_polynomials.proofs.Terms.{false≢true}
use Rattle.graded_polynomials.proofs.MoreGenerators.{fits-more, degree-more, terms-more}

-- the monomial of the generator that comes after those of ds
abbrev pub single : List ℕ → List ℕ
single [] = 1 ∷ []
single (d ∷ ds) = 0 ∷ single ds

single-not-empty : (ds : List ℕ) → single ds ≡ [] → ⊥
single-not-empty [] e = cc
single-not-empty (d ∷ ds) e = cc

within-single : (ds : List ℕ) (e : ℕ) → IsWithin (ds ++ e ∷ []) (single ds)
within-single [] e = tt
within-single (d ∷ ds) e = within-single ds e

trimmed-single : (ds : List ℕ) → IsTrimmed (single ds)
trimmed-single [] = ((λ e z. (let k : 1 ≡ 0 = z in omega (arith, k))), tt)
trimmed-single (d ∷ ds) = ((λ e z. single-not-empty ds e), trimmed-single ds)

or-true : (b : Bool) → (b || true) ≡ true
or-true true = refl
or-true false = refl

fits-single : (q : ℕ) (ds : List ℕ) (e : ℕ) → fits q (ds ++ e ∷ []) (single ds) ≡ true
fits-single q [] e = rw (or-true (not (is_exterior q e))) refl
fits-single q (d ∷ ds) e = rw (or-true (not (is_exterior q d))) (fits-single q ds e)

degree-single : (ds : List ℕ) (e : ℕ) → degree (ds ++ e ∷ []) (single ds) ≡ e
degree-single [] e = omega arith
degree-single (d ∷ ds) e = omega (arith, degree-single ds e)

pub monomial-single : (q : ℕ) (ds : List ℕ) (e : ℕ) → IsMonomial q (ds ++ e ∷ []) e (single ds)
monomial-single q ds e = record {
  within = within-single ds e;
  trimmed = trimmed-single ds;
  fitting = fits-single q ds e;
  degree_is = degree-single ds e;
}

pub exponent-single : (ds : List ℕ) → exponent (single ds) (length ds) ≡ 1
exponent-single [] = refl
exponent-single (d ∷ ds) = exponent-single ds

-- a monomial of degree d in generators and one more, of degree e from d on, is one in those generators or the
-- new one itself
pub last-case : (q : ℕ) (ds : List ℕ) (e d : ℕ) (m : List ℕ) → Each (λ a. 0 < a) ds → 0 < e → d ≤ e
    → IsMonomial q (ds ++ e ∷ []) d m
    → IsMonomial q ds d m ⊎ ((e ≡ d) × (m ≡ single ds))
last-case q [] e d [] p b l h = inl record {
  within = tt;
  trimmed = tt;
  fitting = refl;
  degree_is = h.degree_is;
}
last-case q [] e d (x ∷ y ∷ m) p b l h = absurd h.within
last-case q [] e d (zero ∷ []) p b l h = absurd (h.trimmed.0 refl refl)
last-case q [] e d (suc zero ∷ []) p b l h = inr ((omega (arith, h.degree_is)), refl)
last-case q [] e d (suc (suc x) ∷ []) p b l h = absurd (omega (arith, h.degree_is, l, b))
last-case q (a ∷ ds) e d [] p b l h = inl record {
  within = tt;
  trimmed = tt;
  fitting = refl;
  degree_is = h.degree_is;
}
last-case q (zero ∷ ds) e d (x ∷ m) p b l h = absurd (omega (arith, p.0))
last-case q (suc a ∷ ds) e d (x ∷ m) p b l h =
    go x h (last-case q ds e (degree (ds ++ e ∷ []) m) m p.1 b (omega (arith, h.degree_is, l))
    (record {
      within = h.within;
      trimmed = h.trimmed.1;
      fitting = and-right (not (is_exterior q (suc a)) || leb x 1) (fits q (ds ++ e ∷ []) m) h.fitting;
      degree_is = refl;
    }))
  where
    and-right : (b c : Bool) → (b && c) ≡ true → c ≡ true
    and-right true c e = e
    and-right false c e = false≢true e

    go : (x : ℕ) → IsMonomial q ((suc a ∷ ds) ++ e ∷ []) d (x ∷ m)
        → IsMonomial q ds (degree (ds ++ e ∷ []) m) m ⊎ ((e ≡ degree (ds ++ e ∷ []) m) × (m ≡ single ds))
        → IsMonomial q (suc a ∷ ds) d (x ∷ m) ⊎ ((e ≡ d) × ((x ∷ m) ≡ single (suc a ∷ ds)))
    go x h (inl k) = inl record {
      within = k.within;
      trimmed = h.trimmed;
      fitting = ap (λ b. (not (is_exterior q (suc a)) || leb x 1) && b)
          (sym (fits-more q ds (e ∷ []) m k.within)) ∙ h.fitting;
      degree_is = omega (arith, h.degree_is, degree-more ds (e ∷ []) m k.within);
    }
    go zero h (inr k) = inr ((omega (arith, h.degree_is, k.0)), ap (λ m. 0 ∷ m) k.1)
    go (suc x) h (inr k) = absurd (omega (arith, h.degree_is, k.0, l))

pub degrees-append : {V : Type 0} (gs hs : List (Generator V)) → degrees (gs ++ hs) ≡ degrees gs ++ degrees hs
degrees-append [] hs = refl
degrees-append (g ∷ gs) hs = ap (λ ds. g.degree ∷ ds) (degrees-append gs hs)

pub length-degrees : {V : Type 0} (gs : List (Generator V)) → length (degrees gs) ≡ length gs
length-degrees [] = refl
length-degrees (g ∷ gs) = ap suc (length-degrees gs)

pub from-more : {V : Type 0} (A : Algebra V) (j : ℕ) (a : V) (gs hs : List (Generator V)) (m : List ℕ)
    → IsWithin (degrees gs) m → evaluate_from A j a (gs ++ hs) m ≡ evaluate_from A j a gs m
from-more A j a [] [] [] h = refl
from-more A j a [] (g ∷ hs) [] h = refl
from-more A j a [] hs (x ∷ m) h = absurd h
from-more A j a (g ∷ gs) hs [] h = refl
from-more A j a (g ∷ gs) hs (x ∷ m) h = from-more A (j + g.degree * x) (powers A j a g x) gs hs m h

pub value-more : {V : Type 0} (A : Algebra V) (q d : ℕ) (gs hs : List (Generator V)) (f : List Term)
    → IsOver q (degrees gs) d f → value A (gs ++ hs) f ≡ value A gs f
value-more A q d gs hs [] h = refl
value-more A q d gs hs (t ∷ f) h = ap₂ (λ x y. A.add (times A t.scalar x) y)
    (from-more A 0 A.one gs hs t.monomial h.0.within) (value-more A q d gs hs f h.1)

pub over-more : {V : Type 0} (q d : ℕ) (gs hs : List (Generator V)) (f : List Term)
    → IsOver q (degrees gs) d f → IsOver q (degrees (gs ++ hs)) d f
over-more q d gs hs f h = rw (degrees-append gs hs) (terms-more q (degrees gs) (degrees hs) d f h)

pub value-of-more : {V : Type 0} (q : ℕ) (A : Algebra V) (gs hs : List (Generator V)) (d : ℕ) (v : V)
    → IsValue q A gs d v → IsValue q A (gs ++ hs) d v
value-of-more q A gs hs d v h = record {
  polynomial = h.polynomial;
  over = over-more q d gs hs h.polynomial h.over;
  value_is = value-more A q d gs hs h.polynomial h.over ∙ h.value_is;
}
