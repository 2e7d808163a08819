-- The label of a relation is its degree.
use Rattle.std.specs.Prelude.{◌≡◌, ℕ, List, [], ◌∷◌, ◌++◌}
use Rattle.std.specs.List.{AllByRecursion as Each}
use mathlib.Core.Path.{subst}
use Rattle.p_groups.specs.PGroups.{PGroup, largest_residue}
use Rattle.graded_polynomials.specs.Monomials.{IsMonomial, degree}
use Rattle.graded_polynomials.specs.Polynomials.{Term, Polynomial}
use Rattle.graded_algebra.specs.Algebras.{degrees}
use Rattle.group_cocycles.specs.Rings.{Generators, IsIn, IsCohomologyRing}

pub each-middle : {X : Type 0} (P : X → Type 0) (before : List X) (x : X) (after : List X)
    → Each P (before ++ x ∷ after) → P x
each-middle P [] x after h = h.0
each-middle P (y ∷ before) x after h = each-middle P before x after h.1

pub one-label : (G : PGroup) (n : ℕ) (hs : Generators G) (before : List Polynomial) (r : Polynomial)
    (after : List Polynomial) (first : List Term) (t : Term) (last : List Term)
    → r.terms ≡ first ++ t ∷ last → IsCohomologyRing G n hs (before ++ r ∷ after)
    → degree (degrees hs) t.monomial ≡ r.degree
one-label G n hs before r after first t last e R =
    let q = largest_residue G in
    (each-middle (λ t. IsMonomial q (degrees hs) r.degree t.monomial) first t last
    (subst (Each (λ t. IsMonomial q (degrees hs) r.degree t.monomial)) e
    (each-middle (λ r. IsIn G hs r.degree r.terms) before r after R.graded))).degree_is
