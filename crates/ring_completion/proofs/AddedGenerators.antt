-- One more generator of the degree: what is left of the monomials stays, and its own monomial is added
-- behind.
use Rattle.std.proofs.Common.{◌≡◌, ℕ, suc, ◌+◌, ◌*◌, ◌<◌, ◌≤◌, List, [], ◌∷◌, ◌++◌, length, Bool, cond}
use Rattle.std.proofs.Common.{◌⊎◌, inl, inr, arith, ap, ap₂, sym, ◌∙◌, refl, length-append}
use Rattle.std.specs.Prelude.{slice_index_or}
use Rattle.std.specs.List.{AllByRecursion as Each}
use Rattle.std.proofs.lemmas.Bool.{cases_lt}
use Rattle.std.proofs.lemmas.List.{get_or_append_left, get_or_push}
use Rattle.linear_algebra.specs.Modular.{IsCongruent}
use Rattle.linear_algebra.specs.Rows.{row}
use Rattle.linear_algebra.proofs.Congruences.{congruent_eq, congruent_trans, congruent_sym}
use Rattle.linear_algebra.proofs.Spans.{row_push, row_before_push}
use Rattle.graded_polynomials.specs.Monomials.{IsMonomial, IsMonomials, IsWithin, IsGreater}
use Rattle.graded_polynomials.specs.Monomials.{fits, swaps, joined, sign}
use Rattle.graded_polynomials.specs.Polynomials.{Term, Polynomial, Multiple, coefficient, multiple, total}
use Rattle.graded_polynomials.specs.Polynomials.{IsOver, IsOneOf, IsMultiple, IsInIdeal}
use Rattle.graded_polynomials.specs.Texts.{power}
use Rattle.graded_polynomials.proofs.Monomials.{within-joined, over-total}
use Rattle.graded_polynomials.proofs.Terms.{each-map, occurs, same-refl}
use Rattle.graded_algebra.specs.Algebras.{Algebra, Generator, degrees, evaluate}
use Rattle.graded_algebra.specs.Presentations.{IsLeading, IsConsequence}
use Rattle.graded_algebra.specs.Vectors.{Vector, vectors, unit}
use Rattle.graded_algebra.proofs.Leading.{not-zero}
use Rattle.graded_algebra.proofs.MoreGenerators.{single, monomial-single, last-case, degrees-append}
use Rattle.graded_algebra.proofs.MoreGenerators.{from-more}
use Rattle.graded_polynomials.proofs.MoreGenerators.{monomial-more, fits-more, degree-more}
use Rattle.presentation_rows.specs.Values.{vector, AreValues}
use Rattle.presentation_rows.proofs.MoreMonomials.{monomial-lower, single-is-power, greater-than-last}
use Rattle.presentation_rows.proofs.MoreMonomials.{values-with-last}
use Rattle.ring_completion.specs.Candidates.{AreSome, IsListed, AreLeft}

swaps-more : (ds es a b : List ℕ) → IsWithin ds a → IsWithin ds b → swaps (ds ++ es) a b ≡ swaps ds a b
swaps-more [] [] [] b v w = refl
swaps-more [] (e ∷ es) [] b v w = refl
swaps-more [] es (x ∷ a) b v w = absurd v
swaps-more (d ∷ ds) es [] b v w = refl
swaps-more (d ∷ ds) es (x ∷ a) [] v w = refl
swaps-more (d ∷ ds) es (x ∷ a) (y ∷ b) v w =
    ap₂ (λ k l. k * (d * y) + l) (degree-more ds es a v) (swaps-more ds es a b v w)

pub multiple-more : (q : ℕ) (ds es : List ℕ) (d c : ℕ) (m : List ℕ) (f : List Term) → IsWithin ds m
    → IsOver q ds d f → multiple q (ds ++ es) c m f ≡ multiple q ds c m f
multiple-more q ds es d c m [] w o = refl
multiple-more q ds es d c m (t ∷ f) w o =
    ap₂ (λ (b : Bool) (s : ℕ). cond b
    (record { scalar = c * (sign q s * t.scalar); monomial = joined m t.monomial } ∷ multiple q (ds ++ es)
    c m f) (multiple q (ds ++ es) c m f))
    (fits-more q ds es (joined m t.monomial) (within-joined ds m t.monomial w o.0.within))
    (swaps-more ds es m t.monomial w o.0.within)
    ∙ ap (λ (r : List Term). cond (fits q ds (joined m t.monomial))
    (record { scalar = c * (sign q (swaps ds m t.monomial) * t.scalar); monomial = joined m t.monomial } ∷ r)
    r) (multiple-more q ds es d c m f w o.1)

-- relations of positive degree have no new multiples in the degree of the new generators
module _ (q n : ℕ) (ds es : List ℕ) (above : Each (λ e. n < e) es) (rs : List Polynomial)
    (over : (r : Polynomial) → IsOneOf r rs → IsOver q ds r.degree r.terms)
    (positive : (r : Polynomial) → IsOneOf r rs → 0 < r.degree) where
  total-more : (ts : List Multiple) → Each (IsMultiple q ds rs (suc n)) ts
      → total q (ds ++ es) ts ≡ total q ds ts
  total-more [] h = refl
  total-more (t ∷ ts) h =
      ap₂ (λ (f g : List Term). f ++ g)
      (multiple-more q ds es t.of.degree t.scalar t.by t.of.terms h.0.monomial.within
      (over t.of h.0.given)) (total-more ts h.1)

  each-up : (ts : List Multiple) → Each (IsMultiple q ds rs (suc n)) ts
      → Each (IsMultiple q (ds ++ es) rs (suc n)) ts
  each-up ts h = each-map (IsMultiple q ds rs (suc n)) (IsMultiple q (ds ++ es) rs (suc n)) ts
      (λ t h. record {
        given = h.given;
        rest = h.rest;
        monomial =
            monomial-more q ds es h.rest t.by h.monomial;
        degree_is = h.degree_is;
      }) h

  each-down : (ts : List Multiple) → Each (IsMultiple q (ds ++ es) rs (suc n)) ts
      → Each (IsMultiple q ds rs (suc n)) ts
  each-down ts h = each-map (IsMultiple q (ds ++ es) rs (suc n)) (IsMultiple q ds rs (suc n)) ts
      (λ t h. record {
        given = h.given;
        rest = h.rest;
        monomial = monomial-lower q n ds es h.rest t.by above (let p = positive t.of h.given in let z =
            h.degree_is in omega (arith, p, z)) h.monomial;
        degree_is = h.degree_is;
      }) h

  pub ideal-up : (f : List Term) → IsInIdeal q ds rs (suc n) f → IsInIdeal q (ds ++ es) rs (suc n) f
  ideal-up f i = record {
    multiples = i.multiples;
    each = each-up i.multiples i.each;
    sum =
        rw (total-more i.multiples i.each) i.sum;
  }

  pub ideal-down : (f : List Term) → IsInIdeal q (ds ++ es) rs (suc n) f → IsInIdeal q ds rs (suc n) f
  ideal-down f i = record {
    multiples = i.multiples;
    each = each-down i.multiples i.each;
    sum =
        rw (total-more i.multiples (each-down i.multiples i.each)) at i.sum;
  }

not-within : (ds : List ℕ) → IsWithin ds (power (length ds) 1) → ⊥
not-within [] w = w
not-within (d ∷ ds) w = not-within ds w

module _ (q n : ℕ) {V : Type 0} (A : Algebra V) (gs : List (Generator V)) (g : Generator V)
    (degree-is : g.degree ≡ suc n) (rs : List Polynomial)
    (over : (r : Polynomial) → IsOneOf r rs → IsOver q (degrees gs) r.degree r.terms)
    (positive : (r : Polynomial) → IsOneOf r rs → 0 < r.degree)
    (generators : Each (λ d. 0 < d) (degrees gs)) (ms : List (List ℕ))
    (L : AreLeft q A gs rs (suc n) ms) where
  last : List ℕ
  last = power (length (degrees gs)) 1

  above : Each (λ e. n < e) (g.degree ∷ [])
  above = (omega (arith, degree-is), tt)

  pub up : (f : List Term) → IsConsequence q A gs rs (suc n) f → IsConsequence q A (gs ++ g ∷ []) rs (suc n) f
  up f c = record {
    over = each-map (λ t. IsMonomial q (degrees gs) (suc n) t.monomial)
        (λ t. IsMonomial q (degrees (gs ++ g ∷ [])) (suc n) t.monomial) f
        (λ t m. rw (degrees-append gs (g ∷ []))
        (monomial-more q (degrees gs) (g.degree ∷ []) (suc n) t.monomial m)) c.over;
    ideal = rw (degrees-append gs (g ∷ []))
        (ideal-up q n (degrees gs) (g.degree ∷ []) above rs over positive f c.ideal);
  }

  -- a consequence in the generators before has the coefficients of one that is over them
  down : (f : List Term) → IsConsequence q A (gs ++ g ∷ []) rs (suc n) f
      → (h : List Term) × IsConsequence q A gs rs (suc n) h
      × ((m : List ℕ) → IsCongruent (suc q) (coefficient f m) (coefficient h m))
  down f c = made
      (ideal-down q n (degrees gs) (g.degree ∷ []) above rs over positive f
      (rw (degrees-append gs (g ∷ [])) at c.ideal))
    where
      made : IsInIdeal q (degrees gs) rs (suc n) f
          → (h : List Term) × IsConsequence q A gs rs (suc n) h
          × ((m : List ℕ) → IsCongruent (suc q) (coefficient f m) (coefficient h m))
      made i = (
        total q (degrees gs) i.multiples,
        record {
          over = over-total q (degrees gs) rs (suc n) over i.multiples i.each;
          ideal = record {
            multiples = i.multiples;
            each = i.each;
            sum =
                same-refl (total q (degrees gs) i.multiples);
          };
        },
        (λ m. i.sum.at m),
      )

  leading-down : (m : List ℕ) → IsLeading q A (IsConsequence q A (gs ++ g ∷ []) rs (suc n)) m
      → IsLeading q A (IsConsequence q A gs rs (suc n)) m
  leading-down m l = made (down l.member l.is_member)
    where
      made : (h : List Term) × IsConsequence q A gs rs (suc n) h
          × ((m : List ℕ) → IsCongruent (suc q) (coefficient l.member m) (coefficient h m))
          → IsLeading q A (IsConsequence q A gs rs (suc n)) m
      made (h, c, e) = record {
        member = h;
        is_member = c;
        here = λ z. l.here ((e m).same_remainder ∙ z);
        above = λ k b. congruent_trans (congruent_sym (e k)) (l.above k b);
      }

  last-is : slice_index_or (ms ++ last ∷ []) (length ms) [] ≡ last
  last-is = get_or_push ms last [] (length ms) refl

  is-last : (i : ℕ) → i < length (ms ++ last ∷ []) → length ms ≤ i → i ≡ length ms
  is-last i l b = let e = length-append ms (last ∷ []) in omega (arith, l, b, e)

  pub left-with-last : AreLeft q A (gs ++ g ∷ []) rs (suc n) (ms ++ power (length (degrees gs)) 1 ∷ [])
  unfolding last
  left-with-last = record {
    some = record {
      each = λ i l. each i l (cases_lt i (length ms));
      descending =
          λ i j b l. descending i j b l (cases_lt j (length ms));
    };
    each = λ k l h. not-leading k l h (cases_lt k (length ms));
    all = λ m k. all m
        (last-case q (degrees gs) g.degree (suc n) m generators (let z = degree-is in omega (arith, z))
        (let z = degree-is in omega (arith, z)) (rw (degrees-append gs (g ∷ [])) at k));
  }
    where
      each : (i : ℕ) → i < length (ms ++ last ∷ []) → (i < length ms) ⊎ (length ms ≤ i)
          → IsMonomial q (degrees (gs ++ g ∷ [])) (suc n) (slice_index_or (ms ++ last ∷ []) i [])
      each i l (inl b) = rw (degrees-append gs (g ∷ []), get_or_append_left ms (last ∷ []) [] i b)
          (monomial-more q (degrees gs) (g.degree ∷ []) (suc n) (slice_index_or ms i []) (L.some.each i b))
      each i l (inr b) = rw (
        degrees-append gs (g ∷ []),
        is-last i l b,
        last-is,
        ← single-is-power (degrees gs),
        ← degree-is,
      ) (monomial-single q (degrees gs) g.degree)

      descending : (i j : ℕ) → i < j → j < length (ms ++ last ∷ []) → (j < length ms) ⊎ (length ms ≤ j)
          → IsGreater (slice_index_or (ms ++ last ∷ []) i []) (slice_index_or (ms ++ last ∷ []) j [])
      descending i j b l (inl c) = rw (
        get_or_append_left ms (last ∷ []) [] i (omega (arith, b, c)),
        get_or_append_left ms (last ∷ []) [] j c,
      ) (L.some.descending i j b c)
      descending i j b l (inr c) = let e = is-last j l c in let f : i < length ms = omega (arith, e, b) in
          rw (e, last-is, get_or_append_left ms (last ∷ []) [] i f)
          (greater-than-last (degrees gs) (slice_index_or ms i []) (L.some.each i f).within
          (let z = (L.some.each i f).degree_is in omega (arith, z)))

      not-leading : (k : ℕ) → k < length (ms ++ last ∷ [])
          → IsLeading q A (IsConsequence q A (gs ++ g ∷ []) rs (suc n))
          (slice_index_or (ms ++ last ∷ []) k [])
          → (k < length ms) ⊎ (length ms ≤ k) → ⊥
      not-leading k l h (inl b) = L.each k b
          (let x = leading-down (slice_index_or (ms ++ last ∷ []) k []) h in
          rw (get_or_append_left ms (last ∷ []) [] k b) at x)
      not-leading k l h (inr b) = at-last (let x = leading-down (slice_index_or (ms ++ last ∷ []) k []) h in
          rw (is-last k l b, last-is) at x)
        where
          at-last : IsLeading q A (IsConsequence q A gs rs (suc n)) last → ⊥
          at-last x = go (occurs q (degrees gs) (suc n) x.member x.is_member.over last)
            where
              go : IsMonomial q (degrees gs) (suc n) last ⊎ (coefficient x.member last ≡ 0) → ⊥
              go (inl y) = not-within (degrees gs) y.within
              go (inr z) = not-zero (congruent_eq z) x.here

      all : (m : List ℕ) → IsMonomial q (degrees gs) (suc n) m
          ⊎ ((g.degree ≡ suc n) × (m ≡ single (degrees gs)))
          → IsListed (ms ++ last ∷ []) m ⊎ IsLeading q A (IsConsequence q A (gs ++ g ∷ []) rs (suc n)) m
      all m (inl k) = go (L.all m k)
        where
          go : IsListed ms m ⊎ IsLeading q A (IsConsequence q A gs rs (suc n)) m
              → IsListed (ms ++ last ∷ []) m ⊎ IsLeading q A (IsConsequence q A (gs ++ g ∷ []) rs (suc n)) m
          go (inl i) = inl (
            i.0,
            (let e = length-append ms (last ∷ []) in let b = i.1 in omega (arith, b, e)),
            get_or_append_left ms (last ∷ []) [] i.0 i.1 ∙ i.2,
          )
          go (inr h) = inr record {
            member = h.member;
            is_member = up h.member h.is_member;
            here = h.here;
            above = h.above;
          }
      all m (inr k) = inl (
        length ms,
        (let e = length-append ms (last ∷ []) in omega (arith, e)),
        last-is ∙ sym (k.1 ∙ single-is-power (degrees gs)),
      )

-- the values of the list with the generator's class behind
pub list-values-with-last : (q d : ℕ) (mul : ℕ → ℕ → Vector q → Vector q → Vector q)
    (gs : List (Generator (Vector q))) (g : Generator (Vector q)) (ns all ms values : List (List ℕ))
    (w : List ℕ)
    → IsMonomials q (degrees gs) g.degree ns → AreValues q (vectors q mul) gs ns all
    → AreSome q (degrees gs) d ms → AreValues q (vectors q mul) gs ms values
    → vector q w ≡ g.class → mul 0 g.degree (unit q 0) g.class ≡ g.class
    → AreValues q (vectors q mul) (gs ++ g ∷ []) (ms ++ power (length (degrees gs)) 1 ∷ []) (values ++ w ∷ [])
list-values-with-last q d mul gs g ns all ms values w N U S V e h = record {
  count = length-append values (w ∷ []) ∙ ap (λ n. n + 1) V.count
      ∙ sym (length-append ms (power (length (degrees gs)) 1 ∷ []));
  each = λ i l. go i l (cases_lt i (length ms));
}
  where
    last : List ℕ
    last = power (length (degrees gs)) 1

    value-of-last : vector q w ≡ evaluate (vectors q mul) (gs ++ g ∷ []) last
    value-of-last = let X = values-with-last q mul gs g ns all w N U e h in
        sym (ap (vector q) (ap (row (all ++ w ∷ [])) (sym U.count) ∙ row_push all w))
        ∙ X.each (length ns) (let z = length-append ns (last ∷ []) in omega (arith, z))
        ∙ ap (evaluate (vectors q mul) (gs ++ g ∷ [])) (get_or_push ns last [] (length ns) refl)

    go : (i : ℕ) → i < length (ms ++ last ∷ []) → (i < length ms) ⊎ (length ms ≤ i)
        → vector q (row (values ++ w ∷ []) i) ≡ evaluate (vectors q mul) (gs ++ g ∷ [])
        (slice_index_or (ms ++ last ∷ []) i [])
    go i l (inl b) = rw (
      row_before_push values w i (let z = V.count in omega (arith, b, z)),
      get_or_append_left ms (last ∷ []) [] i b,
    )
        (V.each i b ∙ sym (from-more (vectors q mul) 0 (unit q 0) gs (g ∷ []) (slice_index_or ms i [])
        (S.each i b).within))
    go i l (inr b) = let f : i ≡ length ms =
        (let z = length-append ms (last ∷ []) in omega (arith, l, b, z)) in
        rw (f, get_or_push ms last [] (length ms) refl, ← V.count, row_push values w) value-of-last
