-- What stays of products and forms where generators are added.
use Rattle.std.proofs.Common.{◌≡◌, ℕ, zero, suc, ◌+◌, ◌<◌, ◌≤◌, List, [], ◌∷◌, ◌++◌, length, ◌⊎◌, inl, inr}
use Rattle.std.proofs.Common.{arith, ap, sym, ◌∙◌, refl}
use Rattle.std.proofs.lemmas.Bool.{cases_lt}
use Rattle.std.specs.List.{AllByRecursion as Each}
use Rattle.graded_polynomials.specs.Monomials.{IsMonomial}
use Rattle.graded_polynomials.specs.Polynomials.{Term, IsOver}
use Rattle.graded_polynomials.specs.Texts.{power}
use Rattle.graded_polynomials.proofs.Monomials.{over-multiple}
use Rattle.graded_polynomials.proofs.Terms.{each-map}
use Rattle.graded_algebra.specs.Algebras.{Algebra, Generator, degrees, value}
use Rattle.graded_algebra.specs.Presentations.{IsLeading, IsRelation, IsStandard, IsNormalForm}
use Rattle.graded_algebra.proofs.MoreGenerators.{degrees-append, value-more}
use Rattle.graded_polynomials.proofs.MoreGenerators.{monomial-more}
use Rattle.presentation_rows.specs.RowPolynomials.{polynomial_of}
use Rattle.ring_completion.specs.Completions.{alone, generator_times, degree_of, IsGenerator, IsStandardOf}
use Rattle.ring_completion.specs.Completions.{IsReduced, AreProducts}
use Rattle.presentation_rows.proofs.MoreMonomials.{monomial-lower}
use Rattle.ring_completion.proofs.AddedGenerators.{multiple-more}

-- a row with a 0 behind, over a list with one more monomial, stands for the same polynomial
pub polynomial-with-last : (ms : List (List ℕ)) (m u : List ℕ) → length u ≡ length ms
    → polynomial_of (ms ++ m ∷ []) (u ++ 0 ∷ []) ≡ polynomial_of ms u
polynomial-with-last [] m [] e = refl
polynomial-with-last [] m (c ∷ u) e = absurd (omega (arith, e))
polynomial-with-last (a ∷ ms) m [] e = absurd (omega (arith, e))
polynomial-with-last (a ∷ ms) m (zero ∷ u) e = polynomial-with-last ms m u (omega (arith, e))
polynomial-with-last (a ∷ ms) m (suc c ∷ u) e =
    ap (λ f. record { scalar = suc c; monomial = a } ∷ f) (polynomial-with-last ms m u (omega (arith, e)))

module _ (q : ℕ) {V : Type 0} (A : Algebra V) (gs new : List (Generator V)) where
  abbrev more : List (Generator V)
  more = gs ++ new

  pub monomial-up : (d : ℕ) (m : List ℕ) → IsMonomial q (degrees gs) d m → IsMonomial q (degrees more) d m
  monomial-up d m M = rw (degrees-append gs new) (monomial-more q (degrees gs) (degrees new) d m M)

  over-up : (d : ℕ) (f : List Term) → IsOver q (degrees gs) d f → IsOver q (degrees more) d f
  over-up d f o = each-map (λ t. IsMonomial q (degrees gs) d t.monomial)
      (λ t. IsMonomial q (degrees more) d t.monomial) f (λ t M. monomial-up d t.monomial M) o

  -- products with generators before are the same
  pub times-more : (i d : ℕ) (s : List ℕ) → IsGenerator q (degrees gs) i → IsMonomial q (degrees gs) d s
      → generator_times q (degrees more) i s ≡ generator_times q (degrees gs) i s
  times-more i d s I M = rw (degrees-append gs new)
      (multiple-more q (degrees gs) (degrees new) d 1 (power i 1) (alone s) I.within (M, tt))

  -- what leads leads with more generators
  pub leading-up : (d : ℕ) (m : List ℕ) → IsLeading q A (IsRelation q A gs d) m
      → IsLeading q A (IsRelation q A more d) m
  leading-up d m l = record {
    member = l.member;
    is_member = record {
      over = over-up d l.member l.is_member.over;
      vanishes =
          value-more A q d gs new l.member l.is_member.over ∙ l.is_member.vanishes;
    };
    here = l.here;
    above = l.above;
  }

  -- what is standard with more generators is standard
  pub standard-down : (d : ℕ) (m : List ℕ) → IsStandard q A more d m → IsStandard q A gs d m
  standard-down d m s l = s (leading-up d m l)

  module _ (n : ℕ) (above : Each (λ e. n < e) (degrees new)) where
    pub monomial-down : (d : ℕ) → d ≤ n → (m : List ℕ) → IsMonomial q (degrees more) d m
        → IsMonomial q (degrees gs) d m
    monomial-down d l m M =
        monomial-lower q n (degrees gs) (degrees new) d m above l (rw (degrees-append gs new) at M)

    over-down : (d : ℕ) → d ≤ n → (f : List Term) → IsOver q (degrees more) d f → IsOver q (degrees gs) d f
    over-down d l f o = each-map (λ t. IsMonomial q (degrees more) d t.monomial)
        (λ t. IsMonomial q (degrees gs) d t.monomial) f (λ t M. monomial-down d l t.monomial M) o

    pub standard-up : (d : ℕ) → d ≤ n → (m : List ℕ) → IsStandard q A gs d m → IsStandard q A more d m
    standard-up d l m s h = s record {
      member = h.member;
      is_member = (let o = over-down d l h.member h.is_member.over in
          record { over = o; vanishes = sym (value-more A q d gs new h.member o) ∙ h.is_member.vanishes });
      here = h.here;
      above = h.above;
    }

    -- the products of degrees to n stay, and those of degree n + 1 are added
    pub products-grow : (products : ℕ → List ℕ → List Term) → AreProducts q A gs (suc n) products
        → ((i e : ℕ) (s : List ℕ) → IsGenerator q (degrees more) i → IsStandardOf q A more e s
        → degree_of (degrees more) i + e ≡ suc n
        → IsNormalForm q A more (suc n) (value A more (generator_times q (degrees more) i s)) (products i s))
        → AreProducts q A more (suc (suc n)) products
    products-grow products P here = record {
      reduced = λ i e s I X l. (both i e s I X l (cases_lt (degree_of (degrees more) i + e) (suc n))).0;
      value_is = λ i e s I X l. (both i e s I X l (cases_lt (degree_of (degrees more) i + e) (suc n))).1;
    }
      where
        both : (i e : ℕ) (s : List ℕ) → IsGenerator q (degrees more) i → IsStandardOf q A more e s
            → degree_of (degrees more) i + e < suc (suc n)
            → (degree_of (degrees more) i + e < suc n) ⊎ (suc n ≤ degree_of (degrees more) i + e)
            → IsReduced q A more (degree_of (degrees more) i + e) (products i s)
            × (value A more (products i s) ≡ value A more (generator_times q (degrees more) i s))
        both i e s I X l (inr b) = let z : degree_of (degrees more) i + e ≡ suc n = omega (arith, l, b) in
            let F = here i e s I X z in
            (rw z record { over = F.polynomial.over; standard = F.standard }, F.value_is)
        both i e s I X l (inl b) = (
          rw (sym same) record {
            over = over-up (degree_of (degrees gs) i + e) (products i s) r.over;
            standard = standard-each (products i s) r.standard;
          },
          value-more A q (degree_of (degrees gs) i + e) gs new (products i s) r.over
              ∙ P.value_is i e s I' X' low
              ∙ sym (ap (value A more) (times-more i e s I' X'.monomial)
              ∙ value-more A q (degree_of (degrees gs) i + e) gs new (generator_times q (degrees gs) i s)
              over-times),
        )
          where
            I₀ : IsMonomial q (degrees gs) (degree_of (degrees more) i) (power i 1)
            I₀ = monomial-down (degree_of (degrees more) i) (omega (arith, b)) (power i 1) I

            same-degree : degree_of (degrees gs) i ≡ degree_of (degrees more) i
            same-degree = I₀.degree_is

            I' : IsGenerator q (degrees gs) i
            I' = rw (← same-degree) at I₀

            X' : IsStandardOf q A gs e s
            X' = record {
              monomial = monomial-down e (omega (arith, b)) s X.monomial;
              standard = standard-down e s X.standard;
            }

            same : degree_of (degrees gs) i + e ≡ degree_of (degrees more) i + e
            same = ap (λ z. z + e) same-degree

            low : degree_of (degrees gs) i + e < suc n
            low = omega (arith, b, same)

            r : IsReduced q A gs (degree_of (degrees gs) i + e) (products i s)
            r = P.reduced i e s I' X' low

            standard-each : (f : List Term)
                → Each (λ t. IsStandard q A gs (degree_of (degrees gs) i + e) t.monomial) f
                → Each (λ t. IsStandard q A more (degree_of (degrees gs) i + e) t.monomial) f
            standard-each f h = each-map (λ t. IsStandard q A gs (degree_of (degrees gs) i + e) t.monomial)
                (λ t. IsStandard q A more (degree_of (degrees gs) i + e) t.monomial) f
                (λ t s. standard-up (degree_of (degrees gs) i + e) (omega (arith, low)) t.monomial s) h

            over-times : IsOver q (degrees gs) (degree_of (degrees gs) i + e)
                (generator_times q (degrees gs) i s)
            over-times = over-multiple q (degrees gs) (degree_of (degrees gs) i) e
                (degree_of (degrees gs) i + e) 1 (power i 1) (alone s) I' (X'.monomial, tt) refl
