-- A member of a list of products with standard monomials that leads in the consequences is a pivot of the
-- echelon list of the critical rows.
use Rattle.std.proofs.Common.{◌≡◌, ℕ, suc, ◌+◌, ◌*◌, ◌<◌, List, [], ◌++◌, length, ◌⊎◌, inl, inr, arith}
use Rattle.std.proofs.Common.{ap, ap₂, sym, ◌∙◌, refl}
use Rattle.std.specs.Prelude.{slice_index_or}
use Rattle.std.specs.List.{AllByRecursion as Each}
use Rattle.linear_algebra.specs.Modular.{IsCongruent, IsFieldModulo}
use Rattle.linear_algebra.specs.Rows.{entry, IsEchelonOf, IsInSpan, IsPivot}
use Rattle.linear_algebra.proofs.Congruences.{congruent_mod}
use Rattle.linear_algebra.proofs.Spans.{in_span_trans, in_span_congruent}
use Rattle.graded_polynomials.specs.Monomials.{IsMonomial, IsMonomials, joined, swaps, sign}
use Rattle.graded_polynomials.specs.Polynomials.{Term, Polynomial, coefficient, scaled}
use Rattle.graded_polynomials.specs.Texts.{power}
use Rattle.graded_polynomials.proofs.Terms.{each-append, over-scaled}
use Rattle.graded_algebra.specs.Algebras.{Generator, degrees, evaluate, linear, times, IsGradedCommutative}
use Rattle.graded_algebra.specs.Presentations.{IsLeading, IsConsequence, IsRelations}
use Rattle.graded_algebra.specs.Vectors.{Vector, vectors}
use Rattle.graded_algebra.proofs.Ideals.{ideal-append, ideal-scaled}
use Rattle.graded_algebra.proofs.Values.{linear-same}
use Rattle.graded_algebra.proofs.Vectors.{times-one, times-times, equal-from}
use Rattle.graded_algebra.proofs.VectorLemmas.{vector-space}
use Rattle.presentation_rows.specs.RowPolynomials.{polynomial_of, row_of}
use Rattle.presentation_rows.specs.Values.{vector}
use Rattle.presentation_rows.proofs.Leads.{pivot-of-member}
use Rattle.presentation_rows.proofs.RowTerms.{each-term}
use Rattle.ring_completion.specs.Candidates.{AreSome, IsListed, IsQuotient, HasLeadingQuotient}
use Rattle.ring_completion.specs.Candidates.{AreCandidates}
use Rattle.ring_completion.specs.Borders.{HasStandardQuotient}
use Rattle.ring_completion.specs.Completions.{alone, generator_times, degree_of, IsGenerator, IsStandardOf}
use Rattle.ring_completion.specs.Completions.{IsReduced, AreProducts, AreConsistent}
use Rattle.ring_completion.specs.Eliminations.{AreForms, form_of, exchange, AreCritical}
use Rattle.ring_completion.proofs.Quotients.{IsFactorOf, factor-of, consequence-by-quotient}
use Rattle.ring_completion.proofs.Reduction.{Separates, LeadsClean, leads-clean}
use Rattle.ring_completion.proofs.ListRows.{same-as-list}
use Rattle.ring_completion.proofs.ListVectors.{coefficients, coefficients-same, coefficients-linear}
use Rattle.ring_completion.proofs.Forms.{forms-extend}
use Rattle.ring_completion.proofs.LinearForms.{linear-alone, linear-times, sign-twice}
use Rattle.ring_completion.proofs.Kills.{kills-consequence}
use Rattle.ring_completion.proofs.Remainders.{remainder, remainder-zero, remainder-add, map-times, map-linear}
use Rattle.ring_completion.proofs.Remainders.{remainder-of-member, member-of-remainder}

module _ (q : ℕ) (field : IsFieldModulo (suc q)) (mul : ℕ → ℕ → Vector q → Vector q → Vector q)
    (In : ℕ → Vector q → Type 0)
    (L : IsGradedCommutative q (Vector q) (vectors q mul) In) (gs : List (Generator (Vector q)))
    (positive : Each (λ d. 0 < d) (degrees gs))
    (free : (c : ℕ) → times (vectors q mul) c (vectors q mul).one ≡ (vectors q mul).zero
    → IsCongruent (suc q) c 0)
    (n : ℕ) (rs : List Polynomial) (R : IsRelations q (vectors q mul) gs n rs) where
  -- what is no candidate leads in the consequences
  pub candidates-separate : (ms : List (List ℕ)) → AreCandidates q (vectors q mul) gs (suc n) ms
      → Separates q (degrees gs) (vectors q mul) (IsConsequence q (vectors q mul) gs rs (suc n)) (suc n) ms
  candidates-separate ms C m M = go (C.all m M)
    where
      go : IsListed ms m ⊎ HasLeadingQuotient q (vectors q mul) gs m
          → IsListed ms m
          ⊎ ((IsListed ms m → ⊥)
          × IsLeading q (vectors q mul) (IsConsequence q (vectors q mul) gs rs (suc n)) m)
      go (inl l) = inl l
      go (inr h) = inr (
        (λ i. C.each i.0 h.generator h.degree h.quotient i.1 (rw i.2 h.is_quotient) h.leads),
        consequence-by-quotient q (Vector q) (vectors q mul) In L gs field positive free n rs R m M h,
      )

  pub consequence-plus : (f t : List Term) (c : ℕ) → IsConsequence q (vectors q mul) gs rs (suc n) f
      → IsConsequence q (vectors q mul) gs rs (suc n) t
      → IsConsequence q (vectors q mul) gs rs (suc n) (f ++ scaled c t)
  consequence-plus f t c a b = record {
    over = each-append (λ (t : Term). IsMonomial q (degrees gs) (suc n) t.monomial) f (scaled c t) a.over
        (over-scaled q (degrees gs) (suc n) c t b.over);
    ideal = ideal-append q (degrees gs) rs (suc n) f (scaled c t) a.ideal
        (ideal-scaled q (degrees gs) rs (suc n) c t b.ideal);
  }

  module _ (ms : List (List ℕ)) (S : AreSome q (degrees gs) (suc n) ms)
      (separates : Separates q (degrees gs) (vectors q mul) (IsConsequence q (vectors q mul) gs rs (suc n))
      (suc n) ms)
      (quotients : (k : ℕ) → k < length ms
      → HasStandardQuotient q (vectors q mul) gs (slice_index_or ms k []))
      (ns : List (List ℕ)) (M : IsMonomials q (degrees gs) (suc n) ns)
      (products : ℕ → List ℕ → List Term) (P : AreProducts q (vectors q mul) gs (suc n) products)
      (forms : ℕ → List ℕ → List ℕ) (F : AreForms q mul gs rs (suc n) ms forms)
      (rows E : List (List ℕ)) (K : AreCritical q mul gs (suc n) products forms rows)
      (e : IsEchelonOf (suc q) (length ms) rows E) where
    -- what is left of a form modulo the critical rows
    left : ℕ → List ℕ → Vector q
    left i s = remainder q E (vector q (forms i s))

    left-linear : (i : ℕ) (g : List Term) → linear (vectors q mul) (left i) g
        ≡ remainder q E (form_of q mul gs forms i g)
    unfolding left
    left-linear i g = sym (map-linear (vectors q mul) (remainder q E) (remainder-zero q E mul)
        (remainder-add q E mul) (λ s. vector q (forms i s)) g)

    gone : (v : Vector q) → IsInSpan (suc q) rows (λ j. (v j).0) → remainder q E v ≡ (vectors q mul).zero
    gone v s = remainder-of-member q E mul e.echelon v (in_span_trans e.spans s)

    consistent : AreConsistent q (vectors q mul) gs (suc n) products (Vector q) (vectors q mul) left
    consistent = record {
      exchange = λ i j a s l I J x b d. left-linear i (products j s)
          ∙ equal-from q (Vector q) (vectors q mul) (vector-space q mul) _ _
          (ap ((vectors q mul).add (remainder q E (form_of q mul gs forms i (products j s))))
          (times-times q (Vector q) (vectors q mul) (vector-space q mul) q
          (sign q (degree_of (degrees gs) i * degree_of (degrees gs) j)) _
          ∙ sym (map-times (vectors q mul) (remainder q E) (remainder-zero q E mul) (remainder-add q E mul)
          (q * sign q (degree_of (degrees gs) i * degree_of (degrees gs) j)) _))
          ∙ sym (remainder-add q E mul _ _)
          ∙ gone (exchange q mul gs products forms i j s)
          (K.exchanges (exchange q mul gs products forms i j s) record {
            first = i;
            second = j;
            low = a;
            monomial = s;
            ordered = l;
            first_is = I;
            second_is = J;
            standard = x;
            clear = b;
            degree_is = d;
            vector_is = refl;
          }))
          ∙ ap (times (vectors q mul) (sign q (degree_of (degrees gs) i * degree_of (degrees gs) j)))
          (sym (left-linear j (products i s)));
      square = λ i a s I o x b d. left-linear i (products i s)
          ∙ gone (form_of q mul gs forms i (products i s))
          (K.squares (form_of q mul gs forms i (products i s)) record {
            generator = i;
            low = a;
            monomial = s;
            generator_is = I;
            exterior = o;
            standard = x;
            clear = b;
            degree_is = d;
            vector_is = refl;
          });
    }

    abbrev Extension : Type 0
    Extension = (u : List ℕ → Vector q)
        × ((i e : ℕ) (k : List ℕ) (g : List Term) → IsGenerator q (degrees gs) i
        → IsMonomial q (degrees gs) e k
        → degree_of (degrees gs) i + e ≡ suc n → IsReduced q (vectors q mul) gs e g
        → linear (vectors q mul) (evaluate (vectors q mul) gs) g ≡ evaluate (vectors q mul) gs k
        → linear (vectors q mul) u (generator_times q (degrees gs) i k) ≡ linear (vectors q mul) (left i) g)

    extension : Extension
    extension = forms-extend q (Vector q) (vectors q mul) In L gs field positive free n rs R (Vector q)
        (vectors q mul) (vector-space q mul) products left P consistent ns M

    at-alone : List ℕ → Vector q
    at-alone m = remainder q E (coefficients q mul ms (alone m))

    rest-linear : (f : List Term) → linear (vectors q mul) at-alone f
        ≡ remainder q E (coefficients q mul ms f)
    unfolding at-alone
    rest-linear f = sym (map-linear (vectors q mul) (remainder q E) (remainder-zero q E mul)
        (remainder-add q E mul) (λ m. coefficients q mul ms (alone m)) f)
        ∙ ap (remainder q E) (sym (coefficients-linear q mul ms f))

    -- at a member the extension is what is left of its unit vector
    at-member : (m : List ℕ) → IsListed ms m → extension.0 m ≡ at-alone m
    unfolding left
    at-member m l = sym (undo (extension.0 m)) ∙ ap (times (vectors q mul) x) same ∙ undo (at-alone m)
      where
        M' : IsMonomial q (degrees gs) (suc n) m
        M' = let z = S.each l.0 l.1 in rw l.2 at z

        h : HasStandardQuotient q (vectors q mul) gs (slice_index_or ms l.0 [])
        h = quotients l.0 l.1

        k : IsQuotient q (degrees gs) h.generator h.degree h.quotient m
        k = rw l.2 at h.is_quotient

        f : IsFactorOf q (degrees gs) h.generator h.degree (suc n) h.quotient m
        f = factor-of q (degrees gs) h.generator h.degree (suc n) h.quotient m M' k

        standard : IsStandardOf q (vectors q mul) gs h.degree h.quotient
        standard = record { monomial = k.monomial; standard = h.standard }

        x : ℕ
        x = sign q (swaps (degrees gs) (power h.generator 1) h.quotient)

        undo : (v : Vector q) → times (vectors q mul) x (times (vectors q mul) x v) ≡ v
        undo v = sign-twice q (Vector q) (vectors q mul) (vector-space q mul)
            (swaps (degrees gs) (power h.generator 1) h.quotient) v

        -- the product is the sign times m
        product : (u : List ℕ → Vector q) → linear (vectors q mul) u
            (generator_times q (degrees gs) h.generator h.quotient)
            ≡ times (vectors q mul) x (u m)
        product u = rw f.fitting ((vector-space q mul).add-zero _
            ∙ ap₂ (λ c m. times (vectors q mul) c (u m)) (let z : 1 * (x * 1) ≡ x = omega arith in z)
            k.product)

        listed : IsListed ms (joined (power h.generator 1) h.quotient)
        listed = rw k.product l

        same : times (vectors q mul) x (extension.0 m) ≡ times (vectors q mul) x (at-alone m)
        same = sym (product extension.0)
            ∙ extension.1 h.generator h.degree h.quotient (alone h.quotient) f.generator k.monomial f.sum
            record { over = (k.monomial, tt); standard = (standard.standard, tt) }
            (linear-alone q (Vector q) (vectors q mul) (vector-space q mul) (evaluate (vectors q mul) gs)
            h.quotient)
            ∙ linear-alone q (Vector q) (vectors q mul) (vector-space q mul) (left h.generator) h.quotient
            ∙ formed
            ∙ sym (rest-linear (generator_times q (degrees gs) h.generator h.quotient)) ∙ product at-alone
          where
            formed : left h.generator h.quotient
                ≡ remainder q E
                (coefficients q mul ms (generator_times q (degrees gs) h.generator h.quotient))
            formed = ap (λ r. remainder q E (vector q r))
                (F.listed h.generator h.degree h.quotient f.generator standard f.sum listed)

    -- a consequence over the list is in the span of the critical rows
    consequence-row : (f : List Term) → IsConsequence q (vectors q mul) gs rs (suc n) f
        → ((m : List ℕ) → IsMonomial q (degrees gs) (suc n) m
        → IsListed ms m ⊎ IsCongruent (suc q) (coefficient f m) 0)
        → IsInSpan (suc q) E (entry (row_of q ms f))
    consequence-row f c h = in_span_congruent (λ j. congruent_mod (entry (row_of q ms f) j))
        (member-of-remainder q E mul (coefficients q mul ms f)
        (ap (remainder q E) (coefficients-same q mul ms (same-as-list S f c.over h))
        ∙ sym (rest-linear g)
        ∙ sym (linear-times q (Vector q) (vectors q mul) (vector-space q mul) extension.0 at-alone 1
        (IsListed ms) g
        (each-term (λ t. IsListed ms t.monomial) ms (row_of q ms f) (λ k b l z. (k, l, refl)))
        (λ m l. at-member m l ∙ sym (times-one q (Vector q) (vectors q mul) (vector-space q mul) _))
        ∙ times-one q (Vector q) (vectors q mul) (vector-space q mul) _)
        ∙ sym (linear-same q (Vector q) (vectors q mul) (vector-space q mul) extension.0 f g
        (same-as-list S f c.over h))
        ∙ kills-consequence q (Vector q) (vectors q mul) In L gs field positive free n rs R (Vector q)
        (vectors q mul) (vector-space q mul) left extension.0 extension.1 f c))
      where
        g : List Term
        g = polynomial_of ms (row_of q ms f)

    pub pivot-if-leading : (k : ℕ) → k < length ms
        → IsLeading q (vectors q mul) (IsConsequence q (vectors q mul) gs rs (suc n)) (slice_index_or ms k [])
        → IsPivot E k
    pivot-if-leading k l h = pivot-of-member q ms S.descending field.above_one (vectors q mul)
        (IsConsequence q (vectors q mul) gs rs (suc n)) E e.echelon
        c.member (consequence-row c.member c.is_member c.clean) k l c.here c.above
      where
        c : LeadsClean q field (degrees gs) (suc n) ns M (vectors q mul)
            (IsConsequence q (vectors q mul) gs rs (suc n)) (λ f c. c.over) ms separates
            (IsConsequence q (vectors q mul) gs rs (suc n)) (slice_index_or ms k [])
        c = leads-clean q field (degrees gs) (suc n) ns M (vectors q mul)
            (IsConsequence q (vectors q mul) gs rs (suc n)) (λ f c. c.over) ms separates
            (IsConsequence q (vectors q mul) gs rs (suc n)) (λ f c. c.over) consequence-plus
            (slice_index_or ms k []) (S.each k l) (k, l, refl) h
