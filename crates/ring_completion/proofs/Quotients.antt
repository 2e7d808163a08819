-- Candidates: standard monomials are among them, and what is not among them leads in the consequences of
-- relations of lower degree.
use Rattle.std.proofs.Common.{◌≡◌, ℕ, zero, suc, ◌+◌, ◌<◌, ◌≤◌, List, [], ◌∷◌, true, ◌⊎◌, inl, inr, arith, ap}
use Rattle.std.proofs.Common.{◌∙◌, refl}
use Rattle.std.specs.List.{AllByRecursion as Each}
use Rattle.linear_algebra.specs.Modular.{IsCongruent, IsFieldModulo}
use Rattle.graded_polynomials.specs.Monomials.{IsMonomial, IsWithin, IsTrimmed, joined, fits, degree}
use Rattle.graded_polynomials.specs.Polynomials.{Term, Polynomial, multiple, IsOver, IsOneOf, IsInIdeal}
use Rattle.graded_polynomials.specs.Texts.{power}
use Rattle.graded_polynomials.proofs.Monomials.{degree-joined, over-multiple}
use Rattle.graded_algebra.specs.Algebras.{Algebra, Generator, degrees, times, IsGradedCommutative}
use Rattle.graded_algebra.specs.Presentations.{IsLeading, IsRelation, IsConsequence, IsStandard, IsRelations}
use Rattle.graded_algebra.proofs.Division.{leading-multiple}
use Rattle.graded_algebra.proofs.Relations.{defining, relation-ideal}
use Rattle.ring_completion.specs.Candidates.{IsListed, IsQuotient, HasLeadingQuotient, AreCandidates}
use Rattle.ring_completion.proofs.Joins.{fits-left}
use Rattle.ring_completion.proofs.Constants.{constant-ideal}
use Rattle.ring_completion.proofs.Multiples.{ideal-multiple, leading-product}

power-not-empty : (i e : ℕ) → power i e ≡ [] → ⊥
power-not-empty zero e h = cc
power-not-empty (suc i) e h = cc

pub power-trimmed : (i : ℕ) → IsTrimmed (power i 1)
power-trimmed zero = ((λ e z. absurd (omega (arith, z))), tt)
power-trimmed (suc i) = ((λ e z. power-not-empty i 1 e), power-trimmed i)

pub within-left : (ds a b : List ℕ) → IsWithin ds (joined a b) → IsWithin ds a
within-left ds [] b w = tt
within-left [] (x ∷ a) [] w = absurd w
within-left [] (x ∷ a) (y ∷ b) w = absurd w
within-left (d ∷ ds) (x ∷ a) [] w = w
within-left (d ∷ ds) (x ∷ a) (y ∷ b) w = within-left ds a b w

pub degree-positive : (ds : List ℕ) (i : ℕ) → Each (λ d. 0 < d) ds → IsWithin ds (power i 1)
    → 0 < degree ds (power i 1)
degree-positive [] zero p w = absurd w
degree-positive [] (suc i) p w = absurd w
degree-positive (d ∷ ds) zero p w = let a = p.0 in omega (arith, a)
degree-positive (d ∷ ds) (suc i) p w = let a = degree-positive ds i p.1 w in omega (arith, a)

-- a generator that divides a monomial is a monomial, and its degree is that of the product less that of the
-- quotient
pub record IsFactorOf (q : ℕ) (ds : List ℕ) (i e d : ℕ) (n m : List ℕ) : Type 0 where
  pub generator : IsMonomial q ds (degree ds (power i 1)) (power i 1)
  pub fitting : fits q ds (joined (power i 1) n) ≡ true
  pub sum : degree ds (power i 1) + e ≡ d

pub factor-of : (q : ℕ) (ds : List ℕ) (i e d : ℕ) (n m : List ℕ) → IsMonomial q ds d m
    → IsQuotient q ds i e n m → IsFactorOf q ds i e d n m
factor-of q ds i e d n m M Q = record {
  generator = record {
    within = within-left ds (power i 1) n w;
    trimmed = power-trimmed i;
    fitting =
        fits-left q ds (power i 1) n f;
    degree_is = refl;
  };
  fitting = f;
  sum = let a = degree-joined ds (power i 1) n in let b = Q.monomial.degree_is in
      let c : degree ds (joined (power i 1) n) ≡ d = ap (degree ds) Q.product ∙ M.degree_is in
      omega (arith, a, b, c);
}
  where
    w : IsWithin ds (joined (power i 1) n)
    w = rw Q.product M.within

    f : fits q ds (joined (power i 1) n) ≡ true
    f = ap (fits q ds) Q.product ∙ M.fitting

module _ (q : ℕ) (V : Type 0) (A : Algebra V) (In : ℕ → V → Type 0) (L : IsGradedCommutative q V A In)
    (gs : List (Generator V)) where
  -- a monomial with a quotient that leads leads
  pub leading-by-quotient : (d : ℕ) (m : List ℕ) → IsMonomial q (degrees gs) d m → HasLeadingQuotient q A gs m
      → IsLeading q A (IsRelation q A gs d) m
  leading-by-quotient d m M h = rw (← F.sum, ← h.is_quotient.product)
      (leading-multiple q V A In L gs (degree (degrees gs) (power h.generator 1)) h.degree
      (power h.generator 1) h.quotient F.generator h.is_quotient.monomial F.fitting h.leads)
    where
      F : IsFactorOf q (degrees gs) h.generator h.degree d h.quotient m
      F = factor-of q (degrees gs) h.generator h.degree d h.quotient m M h.is_quotient

  -- the standard monomials are among the candidates
  pub candidate-if-standard : (d : ℕ) (ms : List (List ℕ)) → AreCandidates q A gs d ms → (m : List ℕ)
      → IsMonomial q (degrees gs) d m → IsStandard q A gs d m → IsListed ms m
  candidate-if-standard d ms C m M s = go (C.all m M)
    where
      go : IsListed ms m ⊎ HasLeadingQuotient q A gs m → IsListed ms m
      go (inl l) = l
      go (inr h) = absurd (s (leading-by-quotient d m M h))

  module _ (field : IsFieldModulo (suc q)) (positive : Each (λ d. 0 < d) (degrees gs))
      (free : (c : ℕ) → times A c A.one ≡ A.zero → IsCongruent (suc q) c 0)
      (n : ℕ) (rs : List Polynomial) (R : IsRelations q A gs n rs) where
    pub over-relations : (r : Polynomial) → IsOneOf r rs → IsOver q (degrees gs) r.degree r.terms
    over-relations r o = (defining q V A gs n rs R r o).vanishes.over

    pub lower-ideal : (e : ℕ) → e ≤ n → (f : List Term) → IsRelation q A gs e f
        → IsInIdeal q (degrees gs) rs e f
    lower-ideal zero l f r = constant-ideal q V A In L gs positive free rs f r.over r.vanishes
    lower-ideal (suc e) l f r = relation-ideal q V A In L gs field n rs R e l f r

    -- multiples of polynomials of value 0 are consequences
    pub generator-multiple : (i e : ℕ) (f : List Term)
        → IsMonomial q (degrees gs) (degree (degrees gs) (power i 1)) (power i 1)
        → degree (degrees gs) (power i 1) + e ≡ suc n → IsRelation q A gs e f
        → IsConsequence q A gs rs (suc n) (multiple q (degrees gs) 1 (power i 1) f)
    generator-multiple i e f G s r = record {
      over = over-multiple q (degrees gs) (degree (degrees gs) (power i 1)) e (suc n) 1 (power i 1) f G
          r.over s;
      ideal = rw (← s)
          (ideal-multiple q (degrees gs) rs over-relations (degree (degrees gs) (power i 1)) e (power i 1) f G
          r.over (lower-ideal e low f r));
    }
      where
        low : e ≤ n
        low = let p = degree-positive (degrees gs) i positive G.within in omega (arith, p, s)

    pub consequence-by-quotient : (m : List ℕ) → IsMonomial q (degrees gs) (suc n) m
        → HasLeadingQuotient q A gs m → IsLeading q A (IsConsequence q A gs rs (suc n)) m
    consequence-by-quotient m M h = rw (← h.is_quotient.product)
        (leading-product q (degrees gs) A (IsRelation q A gs h.degree) (IsConsequence q A gs rs (suc n))
        h.degree (power h.generator 1) h.quotient
        (λ f r. r.over) (λ f r. generator-multiple h.generator h.degree f F.generator F.sum r)
        h.is_quotient.monomial F.fitting h.leads)
      where
        F : IsFactorOf q (degrees gs) h.generator h.degree (suc n) h.quotient m
        F = factor-of q (degrees gs) h.generator h.degree (suc n) h.quotient m M h.is_quotient

    -- what is no candidate leads in the consequences
    pub candidate-or-leading : (ms : List (List ℕ)) → AreCandidates q A gs (suc n) ms → (m : List ℕ)
        → IsMonomial q (degrees gs) (suc n) m
        → IsListed ms m ⊎ IsLeading q A (IsConsequence q A gs rs (suc n)) m
    candidate-or-leading ms C m M = go (C.all m M)
      where
        go : IsListed ms m ⊎ HasLeadingQuotient q A gs m
            → IsListed ms m ⊎ IsLeading q A (IsConsequence q A gs rs (suc n)) m
        go (inl l) = inl l
        go (inr h) = inr (consequence-by-quotient m M h)
