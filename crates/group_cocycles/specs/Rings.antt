-- The cohomology ring of a p-group by generators and relations: cocycles of the normalised bar complex up to
-- coboundaries, with cup products (Brown, "Cohomology of Groups", V.3).
use Rattle.std.specs.Prelude.{◌≡◌, ℕ, ◌+◌, ◌≤◌, ◌↔◌, List, ◌∷◌, ◌++◌, length}
use Rattle.std.specs.List.{AllByRecursion as Each}
use Rattle.group_modules.specs.Field.{Below}
use Rattle.p_groups.specs.PGroups.{PGroup, largest_residue, group, order_of}
use Rattle.group_algebra.specs.Coordinates.{layer_coordinates}
use Rattle.min_res.specs.Stages.{stage_rows}
use Rattle.graded_polynomials.specs.Monomials.{exponent}
use Rattle.graded_polynomials.specs.Polynomials.{Term, Polynomial, IsOver, IsInIdeal, product}
use Rattle.graded_algebra.specs.Algebras.{Generator, degrees, value}
use Rattle.graded_algebra.specs.Cochains.{cochains}
use Rattle.graded_algebra.specs.Vectors.{Vector}
use Rattle.cohomology_algebra.specs.Claims.{cocycle_generators}
use Rattle.group_cocycles.specs.Cocycles.{GroupCochain, IsCocycle, IsCoboundary, AreCohomologous, cup}

module _ (G : PGroup) where
  -- generators, each with its degree and a cocycle
  abbrev pub Generators : Type 0
  Generators = List (Generator (GroupCochain G))

  -- f is a polynomial of degree d in the generators
  abbrev pub IsIn : Generators → ℕ → List Term → Type 0
  IsIn hs d f = IsOver (largest_residue G) (degrees hs) d f

  -- its value: the sum of cup products of the cocycles
  abbrev pub cochain_of : Generators → List Term → GroupCochain G
  cochain_of hs f = value (cochains (Below (order_of G)) (largest_residue G)) hs f

  -- through degree n the free graded commutative algebra on the generators modulo the ideal of the relations
  -- is the cohomology ring, and no generator and no relation is superfluous
  pub record IsCohomologyRing (n : ℕ) (hs : Generators) (rs : List Polynomial) : Type 0 where
    pub cocycles : Each (λ h. IsCocycle G h.degree h.class) hs
    -- generators and relations are of degrees 1 to n, and a relation is a polynomial of its degree
    pub within : Each (λ h. (1 ≤ h.degree) × (h.degree ≤ n)) hs
    pub relations_within : Each (λ r. (1 ≤ r.degree) × (r.degree ≤ n)) rs
    pub graded : Each (λ r. IsIn hs r.degree r.terms) rs
    -- each cocycle differs by a coboundary from a polynomial in the generators
    pub onto : (d : ℕ) → d ≤ n → (u : GroupCochain G) → IsCocycle G d u
        → (f : List Term) × IsIn hs d f × AreCohomologous G d u (cochain_of hs f)
    -- a polynomial is a coboundary exactly where it is in the ideal of the relations
    pub exact : (d : ℕ) → d ≤ n → (f : List Term) → IsIn hs d f
        → IsCoboundary G d (cochain_of hs f) ↔ IsInIdeal (largest_residue G) (degrees hs) rs d f
    -- the product of polynomials is the cup product, up to a coboundary
    pub multiplicative : (d e : ℕ) (f g : List Term) → IsIn hs d f → IsIn hs e g
        → AreCohomologous G (d + e) (cochain_of hs (product (largest_residue G) (degrees hs) f g))
        (cup G d (cochain_of hs f) (cochain_of hs g))
    -- no generator differs by a coboundary from a polynomial in the others
    pub generators_needed : (before : Generators) (h : Generator (GroupCochain G)) (after : Generators)
        → hs ≡ before ++ h ∷ after → (f : List Term) → IsIn hs h.degree f
        → Each (λ t. exponent t.monomial (length before) ≡ 0) f
        → AreCohomologous G h.degree h.class (cochain_of hs f) → ⊥
    -- no relation is in the ideal of the others
    pub relations_needed : (before : List Polynomial) (r : Polynomial) (after : List Polynomial)
        → rs ≡ before ++ r ∷ after
        → IsInIdeal (largest_residue G) (degrees hs) (before ++ after) r.degree r.terms → ⊥

  -- generators of the classes, each with the cocycle of its class
  abbrev pub cocycles_of : List (Generator (Vector (largest_residue G))) → Generators
  cocycles_of gs = cocycle_generators (largest_residue G) (group G) (layer_coordinates G) (stage_rows G) gs
