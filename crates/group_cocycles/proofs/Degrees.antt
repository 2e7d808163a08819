-- The degrees of generators and relations that are taken degree by degree.
use Rattle.std.specs.Prelude.{ℕ, zero, suc, ◌≤◌, List, [], ◌∷◌}
use Rattle.std.proofs.Common.{sym, arith, inl, inr}
use Rattle.std.specs.List.{AllByRecursion as Each}
use mathlib.Core.Path.{subst}
use Rattle.graded_polynomials.specs.Polynomials.{Polynomial, IsOver}
use Rattle.graded_polynomials.proofs.Terms.{each-append}
use Rattle.graded_algebra.specs.Algebras.{Algebra, Generator, degrees}
use Rattle.graded_algebra.specs.Presentations.{IsSpanGenerators, IsRelations, IsRelationsFrom, generators_of}

-- from 1 to n
abbrev pub IsWithin : ℕ → ℕ → Type 0
IsWithin n d = (1 ≤ d) × (d ≤ n)

module _ (q : ℕ) {V : Type 0} (A : Algebra V) where
  new-within : (n : ℕ) (vs : List V) → Each (λ g. IsWithin (suc n) g.degree) (generators_of q A (suc n) vs)
  new-within n [] = tt
  new-within n (v ∷ vs) = ((omega arith, omega arith), new-within n vs)

  wider : (n : ℕ) (gs : List (Generator V)) → Each (λ g. IsWithin n g.degree) gs
      → Each (λ g. IsWithin (suc n) g.degree) gs
  wider n [] e = tt
  wider n (g ∷ gs) e = ((e.0.0, (let h = e.0.1 in omega (arith, h))), wider n gs e.1)

  pub generators-within : (basis : ℕ → List V) (n : ℕ) (gs : List (Generator V))
      → IsSpanGenerators q A basis n gs → Each (λ g. IsWithin n g.degree) gs
  generators-within basis zero gs e = subst (Each (λ g. IsWithin zero g.degree)) (sym e) tt
  generators-within basis (suc n) gs (before, ms, chosen, lower, monomials, choice, is) =
      subst (Each (λ g. IsWithin (suc n) g.degree)) (sym is)
      (each-append (λ g. IsWithin (suc n) g.degree) before (generators_of q A (suc n) chosen)
      (wider n before (generators-within basis n before lower)) (new-within n chosen))

  -- a relation is a polynomial of its degree, which is from 1 to n
  abbrev pub IsGraded : List (Generator V) → ℕ → Polynomial → Type 0
  IsGraded gs n r = IsWithin n r.degree × IsOver q (degrees gs) r.degree r.terms

  new-graded : (gs : List (Generator V)) (before : List Polynomial) (d : ℕ) (ms : List (List ℕ))
      (rs : List Polynomial) → IsRelationsFrom q A gs before (suc d) ms rs → Each (IsGraded gs (suc d)) rs
  new-graded gs before d [] rs e = subst (Each (IsGraded gs (suc d))) (sym e) tt
  new-graded gs before d (m ∷ ms) rs (inl h) = new-graded gs before d ms rs h.1
  new-graded gs before d (m ∷ ms) rs (inr (inl h)) = new-graded gs before d ms rs h.1
  new-graded gs before d (m ∷ ms) rs (inr (inr (r, rest, is, leads, new, at, others))) =
      let same = at.degree_is in
      subst (Each (IsGraded gs (suc d))) (sym is) (
        (
          (omega (arith, same), omega (arith, same)),
          subst (λ e. IsOver q (degrees gs) e r.terms) (sym same) at.polynomial.over,
        ),
        new-graded gs before d ms rest others,
      )

  wider-graded : (gs : List (Generator V)) (n : ℕ) (rs : List Polynomial) → Each (IsGraded gs n) rs
      → Each (IsGraded gs (suc n)) rs
  wider-graded gs n [] e = tt
  wider-graded gs n (r ∷ rs) e =
      (((e.0.0.0, (let h = e.0.0.1 in omega (arith, h))), e.0.1), wider-graded gs n rs e.1)

  pub relations-graded : (gs : List (Generator V)) (n : ℕ) (rs : List Polynomial)
      → IsRelations q A gs n rs → Each (IsGraded gs n) rs
  relations-graded gs zero rs e = subst (Each (IsGraded gs zero)) (sym e) tt
  relations-graded gs (suc d) rs (before, new, ms, lower, monomials, from, is) =
      subst (Each (IsGraded gs (suc d))) (sym is)
      (each-append (IsGraded gs (suc d)) before new
      (wider-graded gs d before (relations-graded gs d before lower)) (new-graded gs before d ms new from))
