-- Relations stay what they are where generators of higher degree are added.
use Rattle.std.proofs.Common.{◌≡◌, ℕ, zero, suc, ◌+◌, ◌*◌, ◌<◌, ◌≤◌, List, [], ◌∷◌, ◌++◌, Bool, cond, ◌⊎◌}
use Rattle.std.proofs.Common.{inl, inr, arith, ap, ap₂, sym, ◌∙◌, refl}
use Rattle.std.specs.List.{AllByRecursion as Each}
use Rattle.linear_algebra.specs.Modular.{IsCongruent}
use Rattle.graded_polynomials.specs.Monomials.{IsMonomial, IsWithin, IsTrimmed, degree, fits, swaps, joined}
use Rattle.graded_polynomials.specs.Monomials.{sign}
use Rattle.graded_polynomials.specs.Polynomials.{Term, Polynomial, Multiple, coefficient, multiple, total}
use Rattle.graded_polynomials.specs.Polynomials.{IsOver, IsOneOf, IsMultiple, IsInIdeal}
use Rattle.graded_algebra.specs.Algebras.{Algebra, Generator, degrees}
use Rattle.graded_algebra.specs.Presentations.{IsLeading, IsRelation, IsConsequence, IsStandard, IsRelationAt}
use Rattle.graded_algebra.specs.Presentations.{IsRelationsFrom, IsRelations}
use Rattle.graded_polynomials.proofs.Terms.{each-map}
use Rattle.graded_polynomials.proofs.Monomials.{within-joined}
use Rattle.graded_polynomials.proofs.MoreGenerators.{fits-more, degree-more, monomial-more}
use Rattle.graded_algebra.proofs.MoreGenerators.{degrees-append, value-more}
use Rattle.graded_algebra.proofs.Relations.{defining}

none-above : (n : ℕ) (es m : List ℕ) → Each (λ e. n < e) es → IsWithin es m → IsTrimmed m → degree es m ≤ n
    → m ≡ []
none-above n es [] h w t l = refl
none-above n [] (x ∷ m) h w t l = absurd w
none-above n (e ∷ es) (zero ∷ m) h w t l = absurd (t.0 (none-above n es m h.1 w t.1 (omega (arith, l))) refl)
none-above n (e ∷ es) (suc x ∷ m) h w t l = absurd (omega (arith, l, h.0))

within-less : (n : ℕ) (ds es m : List ℕ) → Each (λ e. n < e) es → IsWithin (ds ++ es) m → IsTrimmed m
    → degree (ds ++ es) m ≤ n → IsWithin ds m
within-less n [] es m h w t l = rw (none-above n es m h w t l) tt
within-less n (d ∷ ds) es [] h w t l = tt
within-less n (d ∷ ds) es (x ∷ m) h w t l = within-less n ds es m h w t.1 (omega (arith, l))

monomial-less : (q n : ℕ) (ds es : List ℕ) (d : ℕ) (m : List ℕ) → Each (λ e. n < e) es → d ≤ n
    → IsMonomial q (ds ++ es) d m → IsMonomial q ds d m
monomial-less q n ds es d m h l k = record {
  within = w;
  trimmed = k.trimmed;
  fitting = sym (fits-more q ds es m w) ∙ k.fitting;
  degree_is = sym (degree-more ds es m w) ∙ k.degree_is;
}
  where
    w : IsWithin ds m
    w = within-less n ds es m h k.within k.trimmed (omega (arith, k.degree_is, l))

swaps-more : (ds es a b : List ℕ) → IsWithin ds a → IsWithin ds b → swaps (ds ++ es) a b ≡ swaps ds a b
swaps-more [] [] [] b v w = refl
swaps-more [] (e ∷ es) [] b v w = refl
swaps-more [] es (x ∷ a) b v w = absurd v
swaps-more (d ∷ ds) es [] b v w = refl
swaps-more (d ∷ ds) es (x ∷ a) [] v w = refl
swaps-more (d ∷ ds) es (x ∷ a) (y ∷ b) v w =
    ap₂ (λ k l. k * (d * y) + l) (degree-more ds es a v) (swaps-more ds es a b v w)

multiple-more : (q : ℕ) (ds es : List ℕ) (d c : ℕ) (m : List ℕ) (f : List Term) → IsWithin ds m
    → IsOver q ds d f → multiple q (ds ++ es) c m f ≡ multiple q ds c m f
multiple-more q ds es d c m [] w o = refl
multiple-more q ds es d c m (t ∷ f) w o =
    ap₂ (λ (b : Bool) (s : ℕ). cond b (record {
      scalar = c * (sign q s * t.scalar);
      monomial = joined m t.monomial;
    } ∷ multiple q (ds ++ es) c m f) (multiple q (ds ++ es) c m f))
    (fits-more q ds es (joined m t.monomial) (within-joined ds m t.monomial w o.0.within))
    (swaps-more ds es m t.monomial w o.0.within)
    ∙ ap (λ (r : List Term). cond (fits q ds (joined m t.monomial))
    (record {
      scalar = c * (sign q (swaps ds m t.monomial) * t.scalar);
      monomial = joined m t.monomial;
    } ∷ r) r) (multiple-more q ds es d c m f w o.1)

module _ (q n : ℕ) (ds es : List ℕ) (above : Each (λ e. n < e) es) (rs : List Polynomial)
    (over : (r : Polynomial) → IsOneOf r rs → IsOver q ds r.degree r.terms) (d : ℕ) (low : d ≤ n) where
  total-more : (ts : List Multiple) → Each (IsMultiple q ds rs d) ts → total q (ds ++ es) ts ≡ total q ds ts
  total-more [] h = refl
  total-more (t ∷ ts) h =
      ap₂ (λ (f g : List Term). f ++ g) (multiple-more q ds es t.of.degree t.scalar t.by t.of.terms
      h.0.monomial.within (over t.of h.0.given)) (total-more ts h.1)

  pub ideal-more-generators : (f : List Term) → IsInIdeal q ds rs d f → IsInIdeal q (ds ++ es) rs d f
  ideal-more-generators f i = record {
    multiples = i.multiples;
    each = each-map (IsMultiple q ds rs d) (IsMultiple q (ds ++ es) rs d) i.multiples
        (λ t h. record {
          given = h.given;
          rest = h.rest;
          monomial = monomial-more q ds es h.rest t.by h.monomial;
          degree_is = h.degree_is;
        }) i.each;
    sum = rw (total-more i.multiples i.each) i.sum;
  }

  pub ideal-less-generators : (f : List Term) → IsInIdeal q (ds ++ es) rs d f → IsInIdeal q ds rs d f
  ideal-less-generators f i = record {
    multiples = i.multiples;
    each = each;
    sum = rw (total-more i.multiples each) at i.sum;
  }
    where
      each : Each (IsMultiple q ds rs d) i.multiples
      each = each-map (IsMultiple q (ds ++ es) rs d) (IsMultiple q ds rs d) i.multiples
          (λ t h. record {
            given = h.given;
            rest = h.rest;
            monomial = monomial-less q n ds es h.rest t.by above
                (omega (arith, h.degree_is, low)) h.monomial;
            degree_is = h.degree_is;
          }) i.each

module _ (q : ℕ) (V : Type 0) (A : Algebra V) (gs new : List (Generator V)) (n : ℕ)
    (above : Each (λ e. n < e) (degrees new)) where
  over-up : (d : ℕ) (f : List Term) → IsOver q (degrees gs) d f → IsOver q (degrees (gs ++ new)) d f
  over-up d f o = each-map (λ t. IsMonomial q (degrees gs) d t.monomial)
      (λ t. IsMonomial q (degrees (gs ++ new)) d t.monomial) f
      (λ t m. rw (degrees-append gs new) (monomial-more q (degrees gs) (degrees new) d t.monomial m)) o

  monomial-down : (d : ℕ) → d ≤ n → (m : List ℕ) → IsMonomial q (degrees (gs ++ new)) d m
      → IsMonomial q (degrees gs) d m
  monomial-down d l m h = monomial-less q n (degrees gs) (degrees new) d m above l
      (rw (degrees-append gs new) at h)

  over-down : (d : ℕ) → d ≤ n → (f : List Term) → IsOver q (degrees (gs ++ new)) d f
      → IsOver q (degrees gs) d f
  over-down d l f o = each-map (λ t. IsMonomial q (degrees (gs ++ new)) d t.monomial)
      (λ t. IsMonomial q (degrees gs) d t.monomial) f
      (λ t m. monomial-down d l t.monomial m) o

  relation-up : (d : ℕ) (f : List Term) → IsRelation q A gs d f → IsRelation q A (gs ++ new) d f
  relation-up d f r = record {
    over = over-up d f r.over;
    vanishes = value-more A q d gs new f r.over
        ∙ r.vanishes;
  }

  relation-down : (d : ℕ) → d ≤ n → (f : List Term) → IsRelation q A (gs ++ new) d f → IsRelation q A gs d f
  relation-down d l f r = let o = over-down d l f r.over in
      record { over = o; vanishes = sym (value-more A q d gs new f o) ∙ r.vanishes }

  leading-map : (S T : List Term → Type 0) → ((f : List Term) → S f → T f) → (m : List ℕ) → IsLeading q A S m
      → IsLeading q A T m
  leading-map S T h m l = record {
    member = l.member;
    is_member = h l.member l.is_member;
    here = l.here;
    above = l.above;
  }

  standard-up : (d : ℕ) → d ≤ n → (m : List ℕ) → IsStandard q A gs d m → IsStandard q A (gs ++ new) d m
  standard-up d l m s a = s (leading-map (IsRelation q A (gs ++ new) d) (IsRelation q A gs d)
      (relation-down d l) m a)

  relation-at-up : (d : ℕ) → d ≤ n → (m : List ℕ) (r : Polynomial) → IsRelationAt q A gs d m r
      → IsRelationAt q A (gs ++ new) d m r
  relation-at-up d l m r h = record {
    degree_is = h.degree_is;
    polynomial = record {
      over = over-up d r.terms h.polynomial.over;
      coefficients = h.polynomial.coefficients;
      descending = h.polynomial.descending;
    };
    vanishes = value-more A q d gs new r.terms h.polynomial.over ∙ h.vanishes;
    one = h.one;
    others = λ k ne. go k (h.others k ne);
  }
    where
      go : (k : List ℕ) → IsCongruent (suc q) (coefficient r.terms k) 0
          ⊎ (IsMonomial q (degrees gs) d k × IsStandard q A gs d k)
          → IsCongruent (suc q) (coefficient r.terms k) 0
          ⊎ (IsMonomial q (degrees (gs ++ new)) d k × IsStandard q A (gs ++ new) d k)
      go k (inl z) = inl z
      go k (inr s) = inr (
        rw (degrees-append gs new) (monomial-more q (degrees gs) (degrees new) d k s.0),
        standard-up d l k s.1,
      )

  module _ (before : List Polynomial) (over : (r : Polynomial) → IsOneOf r before
      → IsOver q (degrees gs) r.degree r.terms) where
    consequence-up : (d : ℕ) → d ≤ n → (f : List Term) → IsConsequence q A gs before d f
        → IsConsequence q A (gs ++ new) before d f
    consequence-up d l f c = record {
      over = over-up d f c.over;
      ideal = rw (degrees-append gs new)
          (ideal-more-generators q n (degrees gs) (degrees new) above before over d l f c.ideal);
    }

    consequence-down : (d : ℕ) → d ≤ n → (f : List Term) → IsConsequence q A (gs ++ new) before d f
        → IsConsequence q A gs before d f
    consequence-down d l f c = record {
      over = over-down d l f c.over;
      ideal = ideal-less-generators q n (degrees gs) (degrees new) above before over d l f
          (rw (degrees-append gs new) at c.ideal);
    }

    from-up : (d : ℕ) → d ≤ n → (ms : List (List ℕ)) (rs : List Polynomial)
        → IsRelationsFrom q A gs before d ms rs → IsRelationsFrom q A (gs ++ new) before d ms rs
    from-up d l [] rs h = h
    from-up d l (m ∷ ms) rs (inl h) = inl (standard-up d l m h.0, from-up d l ms rs h.1)
    from-up d l (m ∷ ms) rs (inr (inl h)) =
        inr (inl (
          leading-map (IsConsequence q A gs before d) (IsConsequence q A (gs ++ new) before d)
              (consequence-up d l) m h.0,
          from-up d l ms rs h.1,
        ))
    from-up d l (m ∷ ms) rs (inr (inr h)) = inr (inr (
      h.0,
      h.1,
      h.2,
      leading-map (IsRelation q A gs d) (IsRelation q A (gs ++ new) d) (relation-up d) m h.3,
      (λ a. h.4 (leading-map (IsConsequence q A (gs ++ new) before d) (IsConsequence q A gs before d)
          (consequence-down d l) m a)),
      relation-at-up d l m h.0 h.5,
      from-up d l ms h.1 h.6,
    ))

  pub relations-up : (d : ℕ) → d ≤ n → (rs : List Polynomial) → IsRelations q A gs d rs
      → IsRelations q A (gs ++ new) d rs
  relations-up zero l rs h = h
  relations-up (suc d) l rs h = (
    h.0,
    h.1,
    h.2,
    relations-up d (omega arith) h.0 h.3,
    record {
      each = λ i b. rw (degrees-append gs new)
          (monomial-more q (degrees gs) (degrees new) (suc d) _ (h.4.each i b));
      all = λ m k. h.4.all m (monomial-down (suc d) l m k);
      descending = h.4.descending;
    },
    from-up h.0 (λ r o. (defining q V A gs d h.0 h.3 r o).vanishes.over) (suc d) l h.2 h.1 h.5,
    h.6,
  )
