-- The list by first factors, of the lists of standard monomials of the lower degrees, is that of the
-- candidates.
use Rattle.std.proofs.Common.{◌≡◌, ℕ, zero, suc, ◌+◌, ◌-◌, ◌<◌, ◌≤◌, ◌↔◌, List, [], ◌∷◌, length, Bool, true}
use Rattle.std.proofs.Common.{false, not, ◌||◌, ◌&&◌, leb, arith, ap, sym, ◌∙◌, refl}
use Rattle.std.specs.Prelude.{slice_index_or}
use Rattle.std.specs.List.{AllByRecursion as Each}
use Rattle.linear_algebra.specs.Modular.{IsCongruent, IsFieldModulo}
use Rattle.graded_polynomials.specs.Monomials.{IsMonomial, IsWithin, exponent, degree, fits, is_exterior}
use Rattle.graded_polynomials.specs.Monomials.{joined}
use Rattle.graded_polynomials.specs.Polynomials.{Polynomial, IsOneOf}
use Rattle.graded_polynomials.specs.Texts.{power}
use Rattle.graded_polynomials.proofs.Exponents.{joined-cancel}
use Rattle.graded_polynomials.proofs.Monomials.{only-one}
use Rattle.graded_algebra.specs.Algebras.{Algebra, Generator, degrees, times, IsGradedCommutative}
use Rattle.graded_algebra.specs.Presentations.{IsStandard, IsRelations}
use Rattle.graded_algebra.proofs.Ideals.{degree-nil, fits-nil}
use Rattle.graded_algebra.proofs.Leading.{not-zero}
use Rattle.ring_completion.specs.Candidates.{AreSome, IsListed, IsQuotient, AreCandidates}
use Rattle.ring_completion.specs.Completions.{IsGenerator, IsStandardOf, IsClearBefore, degree_of}
use Rattle.ring_completion.specs.Listings.{AreStandardLists, candidates_of, standard_of, without_factor}
use Rattle.ring_completion.specs.Listings.{is_clear_before, has_standard_quotients}
use Rattle.graded_polynomials.proofs.Ordered.{Ordered}
use Rattle.ring_completion.proofs.DescendingLists.{each-at, ordered-at, listed-at}
use Rattle.ring_completion.proofs.Choosing.{are-candidates}
use Rattle.ring_completion.proofs.Constants.{constant-zero}
use Rattle.ring_completion.proofs.Factors.{quotient-exists, quotient-divides}
use Rattle.ring_completion.proofs.FirstFactors.{by-first-factor}
use Rattle.ring_completion.proofs.Listings.{each-from, falls-from, one-of-listed, degree-power, within-length}
use Rattle.ring_completion.proofs.Listings.{found-quotient, quotients-found, found-if-clear, without-trimmed}
use Rattle.ring_completion.proofs.Listings.{without-joined, IsMade, AreFrom, from-each, from-falls, from-all}
use Rattle.ring_completion.proofs.Quotients.{power-trimmed, factor-of}

within-power : (ds : List ℕ) (i : ℕ) → i < length ds → IsWithin ds (power i 1)
within-power [] i l = absurd (omega (arith, l))
within-power (d ∷ ds) zero l = tt
within-power (d ∷ ds) (suc i) l = within-power ds i (omega arith)

fits-power : (q : ℕ) (ds : List ℕ) (i : ℕ) → fits q ds (power i 1) ≡ true
fits-power q [] i = refl
fits-power q (d ∷ ds) zero = ap (λ f. (not (is_exterior q d) || leb 1 1) && f) (fits-nil q ds)
    ∙ one (is_exterior q d)
  where
    one : (b : Bool) → ((not b || leb 1 1) && true) ≡ true
    one true = refl
    one false = refl
fits-power q (d ∷ ds) (suc i) = ap (λ f. (not (is_exterior q d) || leb 0 1) && f) (fits-power q ds i)
    ∙ one (is_exterior q d)
  where
    one : (b : Bool) → ((not b || leb 0 1) && true) ≡ true
    one true = refl
    one false = refl

positive-at : (ds : List ℕ) → Each (λ d. 0 < d) ds → (i : ℕ) → i < length ds → 0 < slice_index_or ds i 0
positive-at [] p i l = absurd (omega (arith, l))
positive-at (d ∷ ds) p zero l = p.0
positive-at (d ∷ ds) p (suc i) l = positive-at ds p.1 i (omega arith)

pub generator-at : (q : ℕ) (ds : List ℕ) (i : ℕ) → i < length ds → IsGenerator q ds i
generator-at q ds i l = record {
  within = within-power ds i l;
  trimmed = power-trimmed i;
  fitting =
      fits-power q ds i;
  degree_is = refl;
}

module _ (q : ℕ) (V : Type 0) (A : Algebra V) (In : ℕ → V → Type 0) (L : IsGradedCommutative q V A In)
    (gs : List (Generator V))
    (field : IsFieldModulo (suc q)) (positive : Each (λ d. 0 < d) (degrees gs))
    (free : (c : ℕ) → times A c A.one ≡ A.zero → IsCongruent (suc q) c 0)
    (n : ℕ) (rs : List Polynomial) (R : IsRelations q A gs n rs) (lists : List (List (List ℕ)))
    (S : AreStandardLists q A gs n lists) where
  generator : (i : ℕ) → i < length (degrees gs) → IsGenerator q (degrees gs) i
  generator i l = record {
    within = within-power (degrees gs) i l;
    trimmed = power-trimmed i;
    fitting =
        fits-power q (degrees gs) i;
    degree_is = refl;
  }

  one : IsMonomial q (degrees gs) 0 []
  one = record {
    within = tt;
    trimmed = tt;
    fitting = fits-nil q (degrees gs);
    degree_is =
        degree-nil (degrees gs);
  }

  monomials : (e : ℕ) → e < suc n → Each (IsMonomial q (degrees gs) e) (standard_of lists e)
  monomials zero l = (one, tt)
  monomials (suc e) l = each-from (IsMonomial q (degrees gs) (suc e)) (slice_index_or lists e [])
      (S.some e (omega arith)).each

  falls : (e : ℕ) → e < suc n → Ordered (standard_of lists e)
  falls zero l = (tt, tt)
  falls (suc e) l = falls-from (slice_index_or lists e []) (S.some e (omega arith)).descending

  standard-if-listed : (e : ℕ) → e < suc n → (r : List ℕ) → IsListed (standard_of lists e) r
      → IsStandard q A gs e r
  standard-if-listed zero l r (zero, b, z) = λ h. not-zero
      (constant-zero q V A In L gs positive free h.member h.is_member.over h.is_member.vanishes r) h.here
  standard-if-listed zero l r (suc k, b, z) = absurd (omega (arith, b))
  standard-if-listed (suc e) l r (k, b, z) = let s = S.each e k (omega arith) b in rw z at s

  listed-if-standard : (e : ℕ) → e < suc n → (r : List ℕ) → IsStandardOf q A gs e r
      → IsListed (standard_of lists e) r
  listed-if-standard zero l r X = (0, omega arith, sym (only-one q (degrees gs) r positive X.monomial))
  listed-if-standard (suc e) l r X = S.all e r (omega arith) X

  -- standard monomials are those of the lists
  pub standard-listed : (e : ℕ) → e < suc n → (r : List ℕ)
      → IsStandardOf q A gs e r ↔ IsListed (standard_of lists e) r
  standard-listed e l r = (
    (λ X. listed-if-standard e l r X),
    (λ i. record {
      monomial = (let M = each-at (IsMonomial q (degrees gs) e) (standard_of lists e)
          (monomials e l) i.0 i.1 in rw i.2 at M);
      standard = standard-if-listed e l r i;
    }),
  )

  start : AreFrom q (degrees gs) lists (suc n) 0 (degrees gs)
  start = record {
    count = omega arith;
    each =
        λ k l. ap (λ j. slice_index_or (degrees gs) j 0) (let z : 0 + k ≡ k = omega arith in z);
  }

  ms : List (List ℕ)
  ms = candidates_of q (degrees gs) lists (suc n)

  members : Each (IsMade q (degrees gs) lists (suc n) 0) ms
  unfolding ms
  members = from-each q (degrees gs) lists (suc n) generator monomials falls
      (positive-at (degrees gs) positive) (omega arith) 0 (degrees gs) start

  some : AreSome q (degrees gs) (suc n) ms
  unfolding ms
  some = record {
    each = λ i l. (each-at (IsMade q (degrees gs) lists (suc n) 0) ms members i l).monomial;
    descending = ordered-at ms
        (from-falls q (degrees gs) lists (suc n) generator monomials falls (positive-at (degrees gs) positive)
        (omega arith) 0 (degrees gs) start);
  }

  -- what a quotient of a monomial is
  record IsTaken (i e : ℕ) (r m : List ℕ) : Type 0 where
    inside : i < length (degrees gs)
    divides : 1 ≤ exponent m i
    same : r ≡ without_factor i m
    degree-is : e ≡ suc n - slice_index_or (degrees gs) i 0
    below : e < suc n
    small : slice_index_or (degrees gs) i 0 ≤ suc n

  taken : (i e : ℕ) (r m : List ℕ) → IsMonomial q (degrees gs) (suc n) m → IsQuotient q (degrees gs) i e r m
      → IsTaken i e r m
  taken i e r m M Q = record {
    inside = inside;
    divides = divides;
    same = joined-cancel (power i 1) r (without_factor i m) Q.monomial.trimmed (without-trimmed i m M.trimmed)
        (Q.product ∙ sym (without-joined i m divides));
    degree-is = omega (arith, sum, power-degree);
    below = omega (arith, sum, power-degree, large);
    small = omega (arith, sum, power-degree);
  }
    where
      sum : degree_of (degrees gs) i + e ≡ suc n
      sum = (factor-of q (degrees gs) i e (suc n) r m M Q).sum

      inside : i < length (degrees gs)
      inside = within-length (degrees gs) i (factor-of q (degrees gs) i e (suc n) r m M Q).generator.within

      divides : 1 ≤ exponent m i
      divides = quotient-divides q (degrees gs) i e r m Q

      power-degree : degree_of (degrees gs) i ≡ slice_index_or (degrees gs) i 0
      power-degree = degree-power (degrees gs) i inside

      large : 0 < slice_index_or (degrees gs) i 0
      large = positive-at (degrees gs) positive i inside

  all-standard : (m : List ℕ) → IsMonomial q (degrees gs) (suc n) m
      → ((i e : ℕ) (r : List ℕ) → IsQuotient q (degrees gs) i e r m → IsStandard q A gs e r)
      → has_standard_quotients lists (suc n) m 0 (degrees gs) ≡ true
  all-standard m M h = quotients-found lists (suc n) m 0 (degrees gs)
      (λ j l x. at j (let z : 0 + j ≡ j = omega arith in rw z at x))
    where
      at : (j : ℕ) → 1 ≤ exponent m j → IsListed (standard_of lists (suc n - slice_index_or (degrees gs) j 0))
          (without_factor (0 + j) m)
      at j x = let k = quotient-exists q (degrees gs) (suc n) j m M x in let t =
          taken j (degree (degrees gs) k.0) k.0 m M k.1 in
          let z : 0 + j ≡ j = omega arith in
          let s = listed-if-standard (degree (degrees gs) k.0) t.below k.0 record {
            monomial = k.1.monomial;
            standard = h j (degree (degrees gs) k.0) k.0 k.1;
          } in
          rw (z, ← t.degree-is, ← t.same) s

  pub listed-candidates : AreCandidates q A gs (suc n) (candidates_of q (degrees gs) lists (suc n))
  unfolding ms
  listed-candidates = are-candidates q V A In L gs field positive free n rs R ms some
      (λ k i e r l Q. each k i e r l Q) (λ m M h. all m M h)
    where
      each : (k i e : ℕ) (r : List ℕ) → k < length ms
          → IsQuotient q (degrees gs) i e r (slice_index_or ms k []) → IsStandard q A gs e r
      each k i e r l Q = let x = each-at (IsMade q (degrees gs) lists (suc n) 0) ms members k l in
          let t = taken i e r (slice_index_or ms k []) x.monomial Q in let z : 0 + i ≡ i = omega arith in
          let f = found-quotient lists (suc n) (slice_index_or ms k []) 0 (degrees gs) x.quotients i t.inside
          (rw z t.divides) in
          standard-if-listed e t.below r (rw (t.degree-is, t.same) (rw z at f))

      all : (m : List ℕ) → IsMonomial q (degrees gs) (suc n) m
          → ((i e : ℕ) (r : List ℕ) → IsQuotient q (degrees gs) i e r m → IsStandard q A gs e r)
          → IsListed ms m
      all m M h = made (by-first-factor q (degrees gs) (suc n) m (omega arith) M)
        where
          made : (i : ℕ) × (s : List ℕ) × IsQuotient q (degrees gs) i (degree (degrees gs) s) s m
              × IsClearBefore i s → IsListed ms m
          made (i, s, Q, c) = listed-at m ms
              (let o = from-all q (degrees gs) lists (suc n) generator monomials falls
              (positive-at (degrees gs) positive) (omega arith) 0 (degrees gs) start
              i s t.inside t.small member tests in rw (zero-sum, Q.product) at o)
            where
              t : IsTaken i (degree (degrees gs) s) s m
              t = taken i (degree (degrees gs) s) s m M Q

              zero-sum : 0 + i ≡ i
              zero-sum = omega arith

              member : IsOneOf s (standard_of lists (suc n - slice_index_or (degrees gs) i 0))
              member = one-of-listed s (standard_of lists (suc n - slice_index_or (degrees gs) i 0))
                  (rw (← t.degree-is)
                  (listed-if-standard (degree (degrees gs) s) t.below s
                  record { monomial = Q.monomial; standard = h i (degree (degrees gs) s) s Q }))

              tests : (is_clear_before (0 + i) s
                  && (fits q (degrees gs) (joined (power (0 + i) 1) s) && has_standard_quotients lists (suc n)
                  (joined (power (0 + i) 1) s) 0 (degrees gs))) ≡ true
              tests = rw (zero-sum, Q.product, found-if-clear i s c, M.fitting, all-standard m M h) refl
