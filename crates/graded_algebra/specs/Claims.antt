-- What a presentation through degree n says of the algebra.
use Rattle.std.specs.Prelude.{◌≡◌, ◌≢◌, ℕ, ◌+◌, ◌≤◌, ◌↔◌, List, ◌∷◌, ◌++◌, length}
use Rattle.std.specs.List.{AllByRecursion as Each}
use Rattle.graded_polynomials.specs.Monomials.{exponent}
use Rattle.graded_polynomials.specs.Polynomials.{Term, Polynomial, IsOver, IsInIdeal, product}
use Rattle.graded_algebra.specs.Algebras.{Algebra, Generator, degrees, value}
use Rattle.graded_algebra.specs.Presentations.{IsValue}

pub record PresentationClaims (q : ℕ) (V : Type 0) (A : Algebra V) (In : ℕ → V
    → Type 0) (n : ℕ) (gs : List (Generator V)) (rs : List Polynomial) : Type 0 where
  -- each vector of degree d is the value of a polynomial in the generators
  pub onto : (d : ℕ) → d ≤ n → (v : V) → In d v → IsValue q A gs d v
  -- the value of a polynomial is 0 exactly where it is in the ideal of the relations
  pub exact : (d : ℕ) → d ≤ n → (f : List Term) → IsOver q (degrees gs) d f
      → (value A gs f ≡ A.zero) ↔ IsInIdeal q (degrees gs) rs d f
  pub multiplicative : (d e : ℕ) (f g : List Term) → IsOver q (degrees gs) d f → IsOver q (degrees gs) e g
      → value A gs (product q (degrees gs) f g) ≡ A.mul d e (value A gs f) (value A gs g)
  -- no generator is the value of a polynomial without it
  pub generators_needed : (before : List (Generator V)) (g : Generator V) (after : List (Generator V))
      → gs ≡ before ++ g ∷ after
      → (f : List Term) → IsOver q (degrees gs) g.degree f
      → Each (λ t. exponent t.monomial (length before) ≡ 0) f → value A gs f ≢ g.class
  -- no relation is in the ideal of the others
  pub relations_needed : (before : List Polynomial) (r : Polynomial) (after : List Polynomial)
      → rs ≡ before ++ r ∷ after
      → IsInIdeal q (degrees gs) (before ++ after) r.degree r.terms → ⊥

-- The same of cochains: hs are the cochains of the generators gs, and Close d u v says that u - v is a
-- coboundary of degree d
pub record CochainClaims (q : ℕ) (V W : Type 0) (B : Algebra W) (Cocycle : ℕ → W → Type 0) (Close : ℕ → W → W
    → Type 0) (cochain : ℕ → V → W) (n : ℕ)
    (gs : List (Generator V)) (hs : List (Generator W)) (rs : List Polynomial) : Type 0 where
  pub onto : (d : ℕ) → d ≤ n → (u : W) → Cocycle d u → (f : List Term) × IsOver q (degrees gs) d f
      × Close d u (value B hs f)
  pub exact : (d : ℕ) → d ≤ n → (f : List Term) → IsOver q (degrees gs) d f
      → Close d (value B hs f) B.zero ↔ IsInIdeal q (degrees gs) rs d f
  pub multiplicative : (d e : ℕ) (f g : List Term) → IsOver q (degrees gs) d f → IsOver q (degrees gs) e g
      → Close (d + e) (value B hs (product q (degrees gs) f g)) (B.mul d e (value B hs f) (value B hs g))
  pub generators_needed : (before : List (Generator V)) (g : Generator V) (after : List (Generator V))
      → gs ≡ before ++ g ∷ after
      → (f : List Term) → IsOver q (degrees gs) g.degree f
      → Each (λ t. exponent t.monomial (length before) ≡ 0) f
      → Close g.degree (cochain g.degree g.class) (value B hs f) → ⊥
  pub relations_needed : (before : List Polynomial) (r : Polynomial) (after : List Polynomial)
      → rs ≡ before ++ r ∷ after
      → IsInIdeal q (degrees gs) (before ++ after) r.degree r.terms → ⊥
