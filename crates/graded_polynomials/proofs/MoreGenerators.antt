-- Monomials and polynomials where generators are added behind the others.
use Rattle.std.proofs.Common.{◌≡◌, ℕ, List, [], ◌∷◌, ◌++◌, not, ◌||◌, ◌&&◌, leb, arith, ap, ◌∙◌, refl}
use Rattle.std.specs.List.{AllByRecursion as Each}
use Rattle.graded_polynomials.specs.Monomials.{IsMonomial, IsWithin, degree, fits, is_exterior}
use Rattle.graded_polynomials.specs.Polynomials.{Term, IsOver, IsPolynomial}
use Rattle.graded_polynomials.proofs.Terms.{each-map}

pub within-more : (ds es m : List ℕ) → IsWithin ds m → IsWithin (ds ++ es) m
within-more ds es [] h = tt
within-more [] es (x ∷ m) h = absurd h
within-more (d ∷ ds) es (x ∷ m) h = within-more ds es m h

pub fits-more : (q : ℕ) (ds es m : List ℕ) → IsWithin ds m → fits q (ds ++ es) m ≡ fits q ds m
fits-more q [] [] [] h = refl
fits-more q [] (e ∷ es) [] h = refl
fits-more q [] es (x ∷ m) h = absurd h
fits-more q (d ∷ ds) es [] h = refl
fits-more q (d ∷ ds) es (x ∷ m) h = ap (λ b. (not (is_exterior q d) || leb x 1) && b) (fits-more q ds es m h)

pub degree-more : (ds es m : List ℕ) → IsWithin ds m → degree (ds ++ es) m ≡ degree ds m
degree-more [] [] [] h = refl
degree-more [] (e ∷ es) [] h = refl
degree-more [] es (x ∷ m) h = absurd h
degree-more (d ∷ ds) es [] h = refl
degree-more (d ∷ ds) es (x ∷ m) h = omega (arith, degree-more ds es m h)

-- a monomial stays one
pub monomial-more : (q : ℕ) (ds es : List ℕ) (d : ℕ) (m : List ℕ) → IsMonomial q ds d m
    → IsMonomial q (ds ++ es) d m
monomial-more q ds es d m h = record {
  within = within-more ds es m h.within;
  trimmed = h.trimmed;
  fitting = fits-more q ds es m h.within ∙ h.fitting;
  degree_is = degree-more ds es m h.within ∙ h.degree_is;
}

pub terms-more : (q : ℕ) (ds es : List ℕ) (d : ℕ) (f : List Term) → IsOver q ds d f → IsOver q (ds ++ es) d f
terms-more q ds es d f h = each-map (λ t. IsMonomial q ds d t.monomial)
    (λ t. IsMonomial q (ds ++ es) d t.monomial) f (λ t k. monomial-more q ds es d t.monomial k) h

-- a stored polynomial stays one
pub polynomial-more : (q : ℕ) (ds es : List ℕ) (d : ℕ) (f : List Term) → IsPolynomial q ds d f
    → IsPolynomial q (ds ++ es) d f
polynomial-more q ds es d f h = record {
  over = terms-more q ds es d f h.over;
  coefficients = h.coefficients;
  descending = h.descending;
}
