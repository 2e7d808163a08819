-- Substitution: evaluation in the algebra of polynomials, where each generator stands for its image.
use Rattle.std.specs.Prelude.{◌≡◌, ℕ, List, [], ◌∷◌, ◌++◌, map, All}
use Rattle.graded_polynomials.specs.Polynomials.{Term, Polynomial, product}
use Rattle.graded_algebra.specs.Algebras.{Algebra, Generator, value}
use Rattle.gc_poly.specs.Generators.{Generators, greatest}
use Rattle.gc_poly.specs.Polynomials.{IsOverGenerators}

abbrev pub polynomials : ℕ → List ℕ → Algebra (List Term)
polynomials q ds = record {
  zero = [];
  add = λ f g. f ++ g;
  one = record { scalar = 1; monomial = [] } ∷ [];
  mul = λ d e f g. product q ds f g;
}

-- the images as what the generators stand for
abbrev pub standing : List Polynomial → List (Generator (List Term))
standing [] = []
standing (f ∷ fs) = record { degree = f.degree; class = f.terms } ∷ standing fs

-- the sum of terms with each generator replaced by its image
abbrev pub substituted : Generators → List Polynomial → List Term → List Term
substituted to images f = value (polynomials (greatest to) to.degrees) (standing images) f

-- one polynomial for each generator, of its degree
pub record AreImages (from to : Generators) (images : List Polynomial) : Type 0 where
  pub degrees_are : map (λ f. f.degree) images ≡ from.degrees
  pub over : All (IsOverGenerators to) images
