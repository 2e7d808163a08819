-- The consequences of relations lead at the pivots of the span of the rows of their multiples.
use Rattle.std.proofs.Common.{◌≡◌, ℕ, zero, suc, ◌*◌, ◌<◌, ◌≤◌, ◌↔◌, List, [], ◌∷◌, ◌++◌, length, arith, ap}
use Rattle.std.proofs.Common.{sym, ◌∙◌, refl}
use Rattle.std.specs.Prelude.{slice_index_or}
use Rattle.std.specs.List.{AllByRecursion as Each}
use Rattle.linear_algebra.specs.Modular.{IsCongruent, sum_below}
use Rattle.linear_algebra.specs.Rows.{entry, row, IsEchelonOf, IsInSpan, IsPivot}
use Rattle.linear_algebra.proofs.Congruences.{congruent_add, congruent_eq, congruent_trans, congruent_sym}
use Rattle.linear_algebra.proofs.Spans.{in_span_congruent, in_span_zero, in_span_add}
use Rattle.graded_polynomials.specs.Monomials.{IsMonomial, IsMonomials}
use Rattle.graded_polynomials.specs.Polynomials.{Term, Polynomial, Multiple, coefficient, multiple, scaled}
use Rattle.graded_polynomials.specs.Polynomials.{total, IsMultiple, IsOneOf, IsOver}
use Rattle.graded_polynomials.proofs.Monomials.{over-multiple}
use Rattle.graded_polynomials.proofs.Terms.{each-append, over-scaled, coefficient-append}
use Rattle.graded_algebra.specs.Algebras.{Algebra, Generator, degrees}
use Rattle.graded_algebra.specs.Presentations.{IsConsequence, IsLeading}
use Rattle.graded_algebra.proofs.Ideals.{multiple-scaled, ideal-same, ideal-zero, ideal-append, ideal-scaled}
use Rattle.presentation_rows.specs.RowPolynomials.{polynomial_of, row_of}
use Rattle.presentation_rows.specs.Multiples.{terms_of, AreMultiples}
use Rattle.presentation_rows.proofs.RowTerms.{monomials-apart, coefficient-at, over-row, same-at-places}
use Rattle.presentation_rows.proofs.RowSums.{row-of-same, entry-congruent, row-plus, row-append, row-empty}
use Rattle.presentation_rows.proofs.RowSums.{row-times}
use Rattle.presentation_rows.proofs.Leads.{pivot-of-member, leading-of-row}

module _ (q d : ℕ) (V : Type 0) (A : Algebra V) (gs : List (Generator V)) (rs : List Polynomial)
    (ms rows multiples : List (List ℕ))
    (over : (r : Polynomial) → IsOneOf r rs
    → IsOver q (degrees gs) r.degree r.terms) (M : IsMonomials q (degrees gs) d ms)
    (R : AreMultiples q (degrees gs) rs d ms rows) (E : IsEchelonOf (suc q) (length ms) rows multiples) where
  -- rows to polynomials
  multiple-consequence : (t : Multiple) → IsMultiple q (degrees gs) rs d t
      → IsConsequence q A gs rs d (terms_of q (degrees gs) t)
  multiple-consequence t h = record {
    over = over-multiple q (degrees gs) h.rest t.of.degree d t.scalar t.by t.of.terms h.monomial
        (over t.of h.given) h.degree_is;
    ideal = record {
      multiples = t ∷ [];
      each = (h, tt);
      sum = record {
        at = λ m. congruent_eq
            (let e = coefficient-append (terms_of q (degrees gs) t) [] m in omega (arith, e));
      };
    };
  }

  consequence-plus : (f g : List Term) (c : ℕ) → IsConsequence q A gs rs d f → IsConsequence q A gs rs d g
      → IsConsequence q A gs rs d (f ++ scaled c g)
  consequence-plus f g c a b = record {
    over = each-append (λ (t : Term). IsMonomial q (degrees gs) d t.monomial) f (scaled c g) a.over
        (over-scaled q (degrees gs) d c g b.over);
    ideal = ideal-append q (degrees gs) rs d f (scaled c g) a.ideal
        (ideal-scaled q (degrees gs) rs d c g b.ideal);
  }

  -- a sum of the first n rows is the row of a consequence
  partial-sum : (u : ℕ → ℕ) (n : ℕ) → n ≤ length rows
      → (f : List Term) × IsConsequence q A gs rs d f
      × ((j : ℕ) → IsCongruent (suc q) (entry (row_of q ms f) j)
      (sum_below n (λ i. u i * entry (row rows i) j)))
  partial-sum u zero l = (
    [],
    record {
      over = tt;
      ideal = ideal-zero q (degrees gs) rs d [] (λ m. congruent_eq refl);
    },
    (λ j. row-empty q ms j),
  )
  partial-sum u (suc n) l =
      let r = partial-sum u n (omega arith) in
      let t = R.each n (omega arith) in (
        r.0 ++ scaled (u n) (terms_of q (degrees gs) t.0),
        consequence-plus r.0 (terms_of q (degrees gs) t.0) (u n) r.1 (multiple-consequence t.0 t.1),
        (λ j. congruent_trans (row-plus q ms r.0 (terms_of q (degrees gs) t.0) (u n) j)
            (congruent_add (r.2 j) (congruent_eq (ap (λ (v : List ℕ). u n * entry v j) (sym t.2))))),
      )

  pivot-row-consequence : (i : ℕ) → i < length multiples
      → IsConsequence q A gs rs d (polynomial_of ms (row multiples i))
  pivot-row-consequence i l =
      let s = E.spanned i l in
      let r = partial-sum s.0 (length rows) (omega arith) in
      record {
        over = over-row M (row multiples i);
        ideal = ideal-same q (degrees gs) rs d r.0 (polynomial_of ms (row multiples i))
            (same-at-places M (polynomial_of ms (row multiples i)) r.0 (over-row M (row multiples i)) r.1.over
            (λ k b. congruent_trans (congruent_eq
            (coefficient-at ms (row multiples i) (monomials-apart M) k b))
            (congruent_trans (congruent_sym (s.1.each k))
            (congruent_trans (congruent_sym (r.2 k)) (entry-congruent q ms r.0 k b)))))
            r.1.ideal;
      }

  -- polynomials to rows
  multiple-row : (t : Multiple) → IsMultiple q (degrees gs) rs d t
      → IsInSpan (suc q) multiples (entry (row_of q ms (terms_of q (degrees gs) t)))
  multiple-row t h =
      in_span_congruent (row-times q ms (terms_of q (degrees gs) t) (terms_of q (degrees gs) one) t.scalar
      (λ m. ap (λ c. coefficient (multiple q (degrees gs) c t.by t.of.terms) m)
      (let e : t.scalar ≡ t.scalar * 1 = omega arith in e)
      ∙ multiple-scaled q (degrees gs) t.scalar 1 t.by t.of.terms m))
      (in_span_add t.scalar in_span_zero (rw place.2 at (E.spans place.0 place.1)))
    where
      one : Multiple
      one = record { scalar = 1; by = t.by; of = t.of }

      place : (i : ℕ) × (i < length rows) × (row rows i ≡ row_of q ms (terms_of q (degrees gs) one))
      place = R.all one (record {
        given = h.given;
        rest = h.rest;
        monomial = h.monomial;
        degree_is = h.degree_is;
      }) refl

  total-row : (ts : List Multiple) → Each (IsMultiple q (degrees gs) rs d) ts
      → IsInSpan (suc q) multiples (entry (row_of q ms (total q (degrees gs) ts)))
  total-row [] h = in_span_congruent (λ j. congruent_sym (row-empty q ms j)) in_span_zero
  total-row (t ∷ ts) h =
      in_span_congruent (λ j. congruent_sym
      (row-append q ms (terms_of q (degrees gs) t) (total q (degrees gs) ts) j))
      (in_span_add 1 (multiple-row t h.0) (total-row ts h.1))

  consequence-row : (f : List Term) → IsConsequence q A gs rs d f
      → IsInSpan (suc q) multiples (entry (row_of q ms f))
  consequence-row f c = rw (row-of-same q ms c.ideal.sum) (total-row c.ideal.multiples c.ideal.each)

  pub consequence-pivots : 1 < suc q → (k : ℕ) → k < length ms
      → IsLeading q A (IsConsequence q A gs rs d) (slice_index_or ms k []) ↔ IsPivot multiples k
  consequence-pivots one k l = (
    (λ h. pivot-of-member q ms M.descending one A (IsConsequence q A gs rs d) multiples E.echelon h.member
        (consequence-row h.member h.is_member) k l h.here h.above),
    (λ p. leading-of-row q ms M.descending one A (IsConsequence q A gs rs d) multiples E.echelon p.0 k p.1
        p.2 l (pivot-row-consequence p.0 p.1)),
  )
