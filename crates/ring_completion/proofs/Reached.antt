-- A monomial that is no product of a generator with a standard monomial leads in the consequences.
use Rattle.std.proofs.Common.{◌≡◌, ℕ, suc, ◌<◌, ◌≤◌, List, [], length, true, false, ◌⊎◌, inl, inr}
use Rattle.std.proofs.Common.{arith, ap, sym, ◌∙◌}
use Rattle.std.specs.Prelude.{slice_index_or}
use Rattle.std.specs.List.{AllByRecursion as Each}
use Rattle.std.proofs.lemmas.Bool.{cases_Bool, false≢true}
use Rattle.linear_algebra.specs.Modular.{IsCongruent, IsFieldModulo}
use Rattle.graded_polynomials.specs.Monomials.{IsMonomial, exponent, degree}
use Rattle.graded_polynomials.specs.Polynomials.{Polynomial}
use Rattle.graded_algebra.specs.Algebras.{Algebra, Generator, degrees, times, IsGradedCommutative}
use Rattle.graded_algebra.specs.Presentations.{IsLeading, IsRelation, IsStandard, IsConsequence, IsRelations}
use Rattle.graded_algebra.proofs.Ideals.{degree-nil}
use Rattle.ring_completion.specs.Candidates.{AreSome, IsListed, IsQuotient, AreCandidates}
use Rattle.ring_completion.specs.Borders.{HasStandardQuotient, AreReached}
use Rattle.ring_completion.specs.Listings.{is_listed}
use Rattle.ring_completion.proofs.Choosing.{decided, are-candidates}
use Rattle.ring_completion.proofs.Factors.{has-factor, quotient-exists}
use Rattle.ring_completion.proofs.Listings.{listed-if-found, found-if-listed}
use Rattle.ring_completion.proofs.Quotients.{IsFactorOf, factor-of, degree-positive, consequence-by-quotient}
use Rattle.ring_completion.proofs.Reduction.{Separates}

module _ (q : ℕ) (V : Type 0) (A : Algebra V) (In : ℕ → V → Type 0) (L : IsGradedCommutative q V A In)
    (gs : List (Generator V))
    (field : IsFieldModulo (suc q)) (positive : Each (λ d. 0 < d) (degrees gs))
    (free : (c : ℕ) → times A c A.one ≡ A.zero → IsCongruent (suc q) c 0)
    (n : ℕ) (rs : List Polynomial) (R : IsRelations q A gs n rs) where
  -- a monomial of degree n + 1 has a quotient of lower degree
  record HasQuotient (m : List ℕ) : Type 0 where
    generator : ℕ
    degree_is : ℕ
    quotient : List ℕ
    is_quotient : IsQuotient q (degrees gs) generator degree_is quotient m
    low : degree_is ≤ n

  has-quotient : (m : List ℕ) → IsMonomial q (degrees gs) (suc n) m → HasQuotient m
  has-quotient m M = record {
    generator = i.0;
    degree_is = degree (degrees gs) k.0;
    quotient = k.0;
    is_quotient = k.1;
    low = let p = degree-positive (degrees gs) i.0 positive f.generator.within in let s = f.sum in
        omega (arith, p, s);
  }
    where
      i : (i : ℕ) × (1 ≤ exponent m i)
      i = has-factor m M.trimmed
          (λ e. absurd (let a : degree (degrees gs) m ≡ 0 = ap (degree (degrees gs)) e
          ∙ degree-nil (degrees gs) in let b = M.degree_is in omega (arith, a, b)))

      k : (k : List ℕ) × IsQuotient q (degrees gs) i.0 (degree (degrees gs) k) k m
      k = quotient-exists q (degrees gs) (suc n) i.0 m M i.1

      f : IsFactorOf q (degrees gs) i.0 (degree (degrees gs) k.0) (suc n) k.0 m
      f = factor-of q (degrees gs) i.0 (degree (degrees gs) k.0) (suc n) k.0 m M k.1

  pub reached-separate : (ms : List (List ℕ)) → AreReached q A gs (suc n) ms
      → Separates q (degrees gs) A (IsConsequence q A gs rs (suc n)) (suc n) ms
  reached-separate ms C m M = go (cases_Bool (is_listed ms m))
    where
      Q : HasQuotient m
      Q = has-quotient m M

      leading : (IsListed ms m → ⊥)
          → IsStandard q A gs Q.degree_is Q.quotient
          ⊎ IsLeading q A (IsRelation q A gs Q.degree_is) Q.quotient
          → IsLeading q A (IsConsequence q A gs rs (suc n)) m
      leading h (inl s) = absurd (h (C.all m M record {
        generator = Q.generator;
        degree = Q.degree_is;
        quotient = Q.quotient;
        is_quotient = Q.is_quotient;
        standard = s;
      }))
      leading h (inr s) = consequence-by-quotient q V A In L gs field positive free n rs R m M record {
        generator = Q.generator;
        degree = Q.degree_is;
        quotient = Q.quotient;
        is_quotient = Q.is_quotient;
        leads = s;
      }

      go : (is_listed ms m ≡ true) ⊎ (is_listed ms m ≡ false)
          → IsListed ms m
          ⊎ ((IsListed ms m → ⊥) × IsLeading q A (IsConsequence q A gs rs (suc n)) m)
      go (inl t) = inl (listed-if-found ms m t)
      go (inr f) = let h = λ (l : IsListed ms m). false≢true (sym f ∙ found-if-listed ms m l) in inr (
        h,
        leading h (decided q V A In L gs field positive free n rs R Q.degree_is Q.low Q.quotient
            Q.is_quotient.monomial),
      )

  -- the candidates are among the monomials with a standard quotient
  pub candidates-among : (ms cs : List (List ℕ)) → AreReached q A gs (suc n) ms
      → AreSome q (degrees gs) (suc n) cs
      → ((k i e : ℕ) (r : List ℕ) → k < length cs → IsQuotient q (degrees gs) i e r (slice_index_or cs k [])
      → IsStandard q A gs e r)
      → ((k : ℕ) → k < length ms
      → ((i e : ℕ) (r : List ℕ) → IsQuotient q (degrees gs) i e r (slice_index_or ms k [])
      → IsStandard q A gs e r)
      → IsListed cs (slice_index_or ms k []))
      → AreCandidates q A gs (suc n) cs
  candidates-among ms cs C S each all = are-candidates q V A In L gs field positive free n rs R cs S each
      listed
    where
      listed : (m : List ℕ) → IsMonomial q (degrees gs) (suc n) m
          → ((i e : ℕ) (r : List ℕ) → IsQuotient q (degrees gs) i e r m → IsStandard q A gs e r)
          → IsListed cs m
      listed m M h = let l = C.all m M standard in let z = all l.0 l.1 (rw l.2 h) in rw l.2 at z
        where
          Q : HasQuotient m
          Q = has-quotient m M

          standard : HasStandardQuotient q A gs m
          standard = record {
            generator = Q.generator;
            degree = Q.degree_is;
            quotient = Q.quotient;
            is_quotient = Q.is_quotient;
            standard = h Q.generator Q.degree_is Q.quotient Q.is_quotient;
          }

  -- a candidate has a standard quotient
  pub candidate-reached : (ms : List (List ℕ)) → AreCandidates q A gs (suc n) ms → (k : ℕ) → k < length ms
      → HasStandardQuotient q A gs (slice_index_or ms k [])
  candidate-reached ms C k l = record {
    generator = Q.generator;
    degree = Q.degree_is;
    quotient = Q.quotient;
    is_quotient = Q.is_quotient;
    standard = C.each k Q.generator Q.degree_is Q.quotient l Q.is_quotient;
  }
    where
      Q : HasQuotient (slice_index_or ms k [])
      Q = has-quotient (slice_index_or ms k []) (C.some.each k l)
