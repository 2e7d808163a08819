-- The monomials of which each quotient is standard are the candidates: each quotient of lower degree is
-- standard or leads.
use Rattle.std.proofs.Common.{◌≡◌, ℕ, zero, suc, ◌<◌, ◌≤◌, List, [], length, ◌⊎◌, inl, inr, arith, ap, sym}
use Rattle.std.proofs.Common.{◌∙◌}
use Rattle.std.specs.Prelude.{slice_index_or}
use Rattle.std.specs.List.{AllByRecursion as Each}
use Rattle.std.proofs.lemmas.Bool.{cases_eq, cases_lt}
use Rattle.std.proofs.lemmas.List.{get_or_past}
use Rattle.linear_algebra.specs.Modular.{IsCongruent, IsFieldModulo}
use Rattle.graded_polynomials.specs.Monomials.{IsMonomial, exponent, degree}
use Rattle.graded_polynomials.specs.Polynomials.{Polynomial}
use Rattle.graded_polynomials.specs.Texts.{power}
use Rattle.graded_polynomials.proofs.Exponents.{joined-cancel}
use Rattle.graded_algebra.specs.Algebras.{Algebra, Generator, degrees, times, IsGradedCommutative}
use Rattle.graded_algebra.specs.Presentations.{IsLeading, IsRelation, IsStandard, IsRelations}
use Rattle.ring_completion.specs.Candidates.{AreSome, IsListed, IsQuotient, HasLeadingQuotient, AreCandidates}
use Rattle.ring_completion.proofs.Quotients.{factor-of, degree-positive}
use Rattle.ring_completion.proofs.Factors.{quotient-exists, quotient-divides}
use Rattle.ring_completion.proofs.Lower.{Known, known}

module _ (q : ℕ) (V : Type 0) (A : Algebra V) (In : ℕ → V → Type 0) (L : IsGradedCommutative q V A In)
    (gs : List (Generator V))
    (field : IsFieldModulo (suc q)) (positive : Each (λ d. 0 < d) (degrees gs))
    (free : (c : ℕ) → times A c A.one ≡ A.zero → IsCongruent (suc q) c 0)
    (n : ℕ) (rs : List Polynomial) (R : IsRelations q A gs n rs) where
  -- a monomial of lower degree is standard or leads
  pub decided : (e : ℕ) → e ≤ n → (m : List ℕ) → IsMonomial q (degrees gs) e m
      → IsStandard q A gs e m ⊎ IsLeading q A (IsRelation q A gs e) m
  decided e l m M = go (K.all.all m M)
    where
      K : Known q V A In L gs e
      K = known q V A In L gs field positive free n rs R e l

      go : IsListed K.monomials m → IsStandard q A gs e m ⊎ IsLeading q A (IsRelation q A gs e) m
      go (i, b, z) = let s = K.status i b in rw z at s

  abbrev StandardBelow : List ℕ → ℕ → Type 0
  StandardBelow m k = (i e : ℕ) (r : List ℕ) → i < k → IsQuotient q (degrees gs) i e r m
      → IsStandard q A gs e r

  module _ (m : List ℕ) (M : IsMonomial q (degrees gs) (suc n) m) where
    low : (i e : ℕ) (r : List ℕ) → IsQuotient q (degrees gs) i e r m → e ≤ n
    low i e r Q = let f = factor-of q (degrees gs) i e (suc n) r m M Q in let p =
        degree-positive (degrees gs) i positive f.generator.within in let s = f.sum in omega (arith, p, s)

    -- the quotient by a generator is one
    one-quotient : (i e f : ℕ) (r t : List ℕ) → IsQuotient q (degrees gs) i e r m
        → IsQuotient q (degrees gs) i f t m → IsStandard q A gs e r → IsStandard q A gs f t
    one-quotient i e f r t Q P s = rw (same, degrees-same) at s
      where
        same : r ≡ t
        same = joined-cancel (power i 1) r t Q.monomial.trimmed P.monomial.trimmed (Q.product ∙ sym P.product)

        degrees-same : e ≡ f
        degrees-same = sym Q.monomial.degree_is ∙ ap (degree (degrees gs)) same ∙ P.monomial.degree_is

    search : (k : ℕ) → StandardBelow m k ⊎ HasLeadingQuotient q A gs m
    search zero = inl (λ i e r l Q. absurd (omega (arith, l)))
    search (suc k) = go (search k) (cases_lt 0 (exponent m k))
      where
        next : StandardBelow m k
            → ((e : ℕ) (r : List ℕ) → IsQuotient q (degrees gs) k e r m → IsStandard q A gs e r)
            → StandardBelow m (suc k)
        next h g i e r l Q = pick (cases_eq i k)
          where
            pick : (i ≡ k) ⊎ (i ≡ k → ⊥) → IsStandard q A gs e r
            pick (inl z) = g e r (rw z at Q)
            pick (inr ne) = h i e r (omega (arith, l, ne)) Q

        at-factor : StandardBelow m k → (r : List ℕ) × IsQuotient q (degrees gs) k (degree (degrees gs) r) r m
            → StandardBelow m (suc k) ⊎ HasLeadingQuotient q A gs m
        at-factor h (r, Q) =
            status (decided (degree (degrees gs) r) (low k (degree (degrees gs) r) r Q) r Q.monomial)
          where
            status : IsStandard q A gs (degree (degrees gs) r) r
                ⊎ IsLeading q A (IsRelation q A gs (degree (degrees gs) r)) r
                → StandardBelow m (suc k) ⊎ HasLeadingQuotient q A gs m
            status (inl s) = inl (next h (λ f t P. one-quotient k (degree (degrees gs) r) f r t Q P s))
            status (inr s) = inr record {
              generator = k;
              degree = degree (degrees gs) r;
              quotient = r;
              is_quotient = Q;
              leads = s;
            }

        go : StandardBelow m k ⊎ HasLeadingQuotient q A gs m → (0 < exponent m k) ⊎ (exponent m k ≤ 0)
            → StandardBelow m (suc k) ⊎ HasLeadingQuotient q A gs m
        go (inr h) o = inr h
        go (inl h) (inl l) = at-factor h (quotient-exists q (degrees gs) (suc n) k m M (omega (arith, l)))
        go (inl h) (inr l) = inl
            (next h (λ e r Q. absurd (let z = quotient-divides q (degrees gs) k e r m Q in
            omega (arith, z, l))))

    -- each quotient is standard, or one leads
    pub all-or-one : ((i e : ℕ) (r : List ℕ) → IsQuotient q (degrees gs) i e r m → IsStandard q A gs e r)
        ⊎ HasLeadingQuotient q A gs m
    all-or-one = go (search (length m))
      where
        inside : (i e : ℕ) (r : List ℕ) → IsQuotient q (degrees gs) i e r m → (i < length m) ⊎ (length m ≤ i)
            → i < length m
        inside i e r Q (inl l) = l
        inside i e r Q (inr l) =
            absurd (let z = quotient-divides q (degrees gs) i e r m Q in let w : exponent m i ≡ 0 =
            get_or_past m i 0 l in omega (arith, z, w))

        go : StandardBelow m (length m) ⊎ HasLeadingQuotient q A gs m
            → ((i e : ℕ) (r : List ℕ) → IsQuotient q (degrees gs) i e r m → IsStandard q A gs e r)
            ⊎ HasLeadingQuotient q A gs m
        go (inl h) = inl (λ i e r Q. h i e r (inside i e r Q (cases_lt i (length m))) Q)
        go (inr h) = inr h

  pub are-candidates : (ms : List (List ℕ)) → AreSome q (degrees gs) (suc n) ms
      → ((k i e : ℕ) (r : List ℕ) → k < length ms → IsQuotient q (degrees gs) i e r (slice_index_or ms k [])
      → IsStandard q A gs e r)
      → ((m : List ℕ) → IsMonomial q (degrees gs) (suc n) m
      → ((i e : ℕ) (r : List ℕ) → IsQuotient q (degrees gs) i e r m → IsStandard q A gs e r) → IsListed ms m)
      → AreCandidates q A gs (suc n) ms
  are-candidates ms S each all = record { some = S; each = each; all = λ m M. go m M (all-or-one m M) }
    where
      go : (m : List ℕ) → IsMonomial q (degrees gs) (suc n) m
          → ((i e : ℕ) (r : List ℕ) → IsQuotient q (degrees gs) i e r m → IsStandard q A gs e r)
          ⊎ HasLeadingQuotient q A gs m → IsListed ms m ⊎ HasLeadingQuotient q A gs m
      go m M (inl h) = inl (all m M h)
      go m M (inr h) = inr h
