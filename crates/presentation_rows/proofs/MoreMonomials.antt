-- The monomials of a degree and their values where generators are added.
use Rattle.std.proofs.Common.{◌≡◌, ◌≢◌, ℕ, zero, suc, ◌+◌, ◌<◌, ◌≤◌, List, [], ◌∷◌, ◌++◌, length, ◌⊎◌, inl}
use Rattle.std.proofs.Common.{inr, arith, ap, sym, ◌∙◌, refl, length-append}
use Rattle.std.specs.Prelude.{slice_index_or}
use Rattle.std.specs.List.{AllByRecursion as Each}
use Rattle.std.proofs.lemmas.Bool.{cases_lt}
use Rattle.std.proofs.lemmas.List.{get_or_append_left, get_or_push}
use Rattle.linear_algebra.specs.Rows.{row}
use Rattle.linear_algebra.proofs.Spans.{row_push, row_before_push}
use Rattle.graded_polynomials.specs.Monomials.{IsMonomial, IsMonomials, IsWithin, IsTrimmed, IsGreater}
use Rattle.graded_polynomials.specs.Monomials.{degree, exponent}
use Rattle.graded_polynomials.specs.Texts.{power}
use Rattle.graded_algebra.specs.Algebras.{Generator, degrees, evaluate}
use Rattle.graded_algebra.specs.Vectors.{Vector, vectors, unit}
use Rattle.graded_algebra.proofs.Ideals.{degree-nil}
use Rattle.graded_polynomials.proofs.MoreGenerators.{monomial-more, fits-more, degree-more}
use Rattle.graded_algebra.proofs.MoreGenerators.{single, monomial-single, last-case, degrees-append}
use Rattle.graded_algebra.proofs.MoreGenerators.{from-more}
use Rattle.presentation_rows.specs.Values.{vector, AreValues}
use Rattle.presentation_rows.specs.Factors.{IsLastFactor}
use Rattle.presentation_rows.proofs.LastFactor.{value-by-factor, from-nil}

-- generators of higher degree are no factors
none-above : (n : ℕ) (es m : List ℕ) → Each (λ e. n < e) es → IsWithin es m → IsTrimmed m → degree es m ≤ n
    → m ≡ []
none-above n es [] h w t l = refl
none-above n [] (x ∷ m) h w t l = absurd w
none-above n (e ∷ es) (zero ∷ m) h w t l = absurd (t.0 (none-above n es m h.1 w t.1 (omega (arith, l))) refl)
none-above n (e ∷ es) (suc x ∷ m) h w t l = absurd (omega (arith, l, h.0))

within-lower : (n : ℕ) (ds es m : List ℕ) → Each (λ e. n < e) es → IsWithin (ds ++ es) m → IsTrimmed m
    → degree (ds ++ es) m ≤ n → IsWithin ds m
within-lower n [] es m h w t l = rw (none-above n es m h w t l) tt
within-lower n (d ∷ ds) es [] h w t l = tt
within-lower n (d ∷ ds) es (x ∷ m) h w t l = within-lower n ds es m h w t.1 (omega (arith, l))

pub monomial-lower : (q n : ℕ) (ds es : List ℕ) (d : ℕ) (m : List ℕ) → Each (λ e. n < e) es → d ≤ n
    → IsMonomial q (ds ++ es) d m → IsMonomial q ds d m
monomial-lower q n ds es d m h l k = record {
  within = w;
  trimmed = k.trimmed;
  fitting = sym (fits-more q ds es m w) ∙ k.fitting;
  degree_is = sym (degree-more ds es m w) ∙ k.degree_is;
}
  where
    w : IsWithin ds m
    w = within-lower n ds es m h k.within k.trimmed (let z = k.degree_is in omega (arith, z, l))

pub monomials-stay : (q d : ℕ) (ds es : List ℕ) (ms : List (List ℕ)) → Each (λ e. d < e) es
    → IsMonomials q ds d ms → IsMonomials q (ds ++ es) d ms
monomials-stay q d ds es ms h M = record {
  each = λ i l. monomial-more q ds es d (slice_index_or ms i []) (M.each i l);
  all = λ m k. M.all m (monomial-lower q d ds es d m h (omega arith) k);
  descending = M.descending;
}

pub values-stay : (q d : ℕ) (mul : ℕ → ℕ → Vector q → Vector q
    → Vector q) (gs new : List (Generator (Vector q))) (ms values : List (List ℕ))
    → IsMonomials q (degrees gs) d ms → AreValues q (vectors q mul) gs ms values
    → AreValues q (vectors q mul) (gs ++ new) ms values
values-stay q d mul gs new ms values M V = record {
  count = V.count;
  each = λ i l. V.each i l ∙ sym (from-more (vectors q mul) 0 (unit q 0) gs new (slice_index_or ms i [])
      (M.each i l).within);
}

-- the monomial of the generator behind the others
pub single-is-power : (ds : List ℕ) → single ds ≡ power (length ds) 1
single-is-power [] = refl
single-is-power (d ∷ ds) = ap (λ m. 0 ∷ m) (single-is-power ds)

exponent-here : (i : ℕ) → exponent (power i 1) i ≡ 1
exponent-here zero = refl
exponent-here (suc i) = exponent-here i

exponent-other : (i j : ℕ) → j ≢ i → exponent (power i 1) j ≡ 0
exponent-other zero zero h = absurd (h refl)
exponent-other zero (suc j) h = refl
exponent-other (suc i) zero h = refl
exponent-other (suc i) (suc j) h = exponent-other i j (λ e. h (ap suc e))

-- a monomial of positive degree in the generators before is greater
pub greater-than-last : (ds m : List ℕ) → IsWithin ds m → 0 < degree ds m → IsGreater m (power (length ds) 1)
greater-than-last ds [] w l = absurd (omega (arith, l, degree-nil ds))
greater-than-last [] (x ∷ m) w l = absurd w
greater-than-last (d ∷ ds) (suc x ∷ m) w l =
    record { at = 0; more = omega arith; before = λ i b. absurd (omega (arith, b)) }
greater-than-last (d ∷ ds) (zero ∷ m) w l = deeper (greater-than-last ds m w (omega (arith, l)))
  where
    deeper : IsGreater m (power (length ds) 1) → IsGreater (0 ∷ m) (0 ∷ power (length ds) 1)
    deeper g = record { at = suc g.at; more = g.more; before = before }
      where
        before : (i : ℕ) → i < suc g.at → exponent (0 ∷ m) i ≡ exponent (0 ∷ power (length ds) 1) i
        before zero b = refl
        before (suc i) b = g.before i (omega (arith, b))

monomial-last : (q d : ℕ) (ds : List ℕ) → IsMonomial q (ds ++ d ∷ []) d (power (length ds) 1)
monomial-last q d ds = rw (← single-is-power ds) (monomial-single q ds d)

pub monomials-with-last : (q d : ℕ) (ds : List ℕ) (ms : List (List ℕ)) → 0 < d → Each (λ a. 0 < a) ds
    → IsMonomials q ds d ms
    → IsMonomials q (ds ++ d ∷ []) d (ms ++ power (length ds) 1 ∷ [])
monomials-with-last q d ds ms p pos M = record {
  each = λ i l. each i l (cases_lt i (length ms));
  all = λ m k. all m (last-case q ds d d m pos p (omega arith) k);
  descending = λ i j b l. descending i j b l (cases_lt j (length ms));
}
  where
    last : slice_index_or (ms ++ power (length ds) 1 ∷ []) (length ms) [] ≡ power (length ds) 1
    last = get_or_push ms (power (length ds) 1) [] (length ms) refl

    is-last : (i : ℕ) → i < length (ms ++ power (length ds) 1 ∷ []) → length ms ≤ i → i ≡ length ms
    is-last i l b = let e = length-append ms (power (length ds) 1 ∷ []) in omega (arith, l, b, e)

    each : (i : ℕ) → i < length (ms ++ power (length ds) 1 ∷ []) → (i < length ms) ⊎ (length ms ≤ i)
        → IsMonomial q (ds ++ d ∷ []) d (slice_index_or (ms ++ power (length ds) 1 ∷ []) i [])
    each i l (inl b) = rw (get_or_append_left ms (power (length ds) 1 ∷ []) [] i b)
        (monomial-more q ds (d ∷ []) d (slice_index_or ms i []) (M.each i b))
    each i l (inr b) = rw (is-last i l b, last) (monomial-last q d ds)

    all : (m : List ℕ) → IsMonomial q ds d m ⊎ ((d ≡ d) × (m ≡ single ds)) → (i : ℕ)
        × (i < length (ms ++ power (length ds) 1 ∷ []))
        × (slice_index_or (ms ++ power (length ds) 1 ∷ []) i [] ≡ m)
    all m (inl k) = let i = M.all m k in (
      i.0,
      (let e = length-append ms (power (length ds) 1 ∷ []) in omega (arith, i.1, e)),
      get_or_append_left ms (power (length ds) 1 ∷ []) [] i.0 i.1 ∙ i.2,
    )
    all m (inr k) = (
      length ms,
      (let e = length-append ms (power (length ds) 1 ∷ []) in omega (arith, e)),
      last ∙ sym (k.1 ∙ single-is-power ds),
    )

    descending : (i j : ℕ) → i < j → j < length (ms ++ power (length ds) 1 ∷ []) → (j < length ms)
        ⊎ (length ms ≤ j)
        → IsGreater (slice_index_or (ms ++ power (length ds) 1 ∷ []) i [])
        (slice_index_or (ms ++ power (length ds) 1 ∷ []) j [])
    descending i j b l (inl c) = rw (
      get_or_append_left ms (power (length ds) 1 ∷ []) [] i (omega (arith, b, c)),
      get_or_append_left ms (power (length ds) 1 ∷ []) [] j c,
    ) (M.descending i j b c)
    descending i j b l (inr c) = let e = is-last j l c in let f : i < length ms = omega (arith, e, b) in
        rw (e, last, get_or_append_left ms (power (length ds) 1 ∷ []) [] i f)
        (greater-than-last ds (slice_index_or ms i []) (M.each i f).within
        (let z = (M.each i f).degree_is in omega (arith, z, p)))

place-of-last : {V : Type 0} (gs : List (Generator V)) (g : Generator V)
    → slice_index_or (gs ++ g ∷ []) (length (degrees gs)) g ≡ g
place-of-last [] g = refl
place-of-last (h ∷ gs) g = place-of-last gs g

last-factor : (i : ℕ) → IsLastFactor i [] (power i 1)
last-factor i = record {
  before = λ j l. exponent-other i j (λ e. absurd (omega (arith, l, e)));
  here = exponent-here i;
  after = λ j l. (exponent-other i j (λ e. absurd (omega (arith, l, e))), refl);
}

module _ (q : ℕ) (mul : ℕ → ℕ → Vector q → Vector q
    → Vector q) (gs : List (Generator (Vector q))) (g : Generator (Vector q)) where
  value-of-last : mul 0 g.degree (unit q 0) g.class ≡ g.class
      → evaluate (vectors q mul) (gs ++ g ∷ []) (power (length (degrees gs)) 1) ≡ g.class
  value-of-last h = r.3 ∙ ap (λ e. mul e g.degree (evaluate (vectors q mul) (gs ++ g ∷ []) []) g.class)
      (omega (arith, r.1))
      ∙ ap (λ (v : Vector q). mul 0 g.degree v g.class) (from-nil (vectors q mul) 0 (unit q 0) (gs ++ g ∷ []))
      ∙ h
    where
      M : IsMonomial q (degrees (gs ++ g ∷ [])) g.degree (power (length (degrees gs)) 1)
      M = rw (degrees-append gs (g ∷ [])) (monomial-last q g.degree (degrees gs))

      r : (e : ℕ) × (e + g.degree ≡ g.degree) × IsMonomial q (degrees (gs ++ g ∷ [])) e []
          × (evaluate (vectors q mul) (gs ++ g ∷ []) (power (length (degrees gs)) 1)
          ≡ mul e g.degree (evaluate (vectors q mul) (gs ++ g ∷ []) []) g.class)
      r = value-by-factor q g.degree (length (degrees gs)) (vectors q mul) (gs ++ g ∷ []) g
          (power (length (degrees gs)) 1) [] M tt
          (last-factor (length (degrees gs))) (place-of-last gs g)

  pub values-with-last : (ms values : List (List ℕ)) (w : List ℕ) → IsMonomials q (degrees gs) g.degree ms
      → AreValues q (vectors q mul) gs ms values
      → vector q w ≡ g.class → mul 0 g.degree (unit q 0) g.class ≡ g.class
      → AreValues q (vectors q mul) (gs ++ g ∷ []) (ms ++ power (length (degrees gs)) 1 ∷ [])
      (values ++ w ∷ [])
  values-with-last ms values w M V e h = record {
    count = length-append values (w ∷ []) ∙ ap (λ n. n + 1) V.count
        ∙ sym (length-append ms (power (length (degrees gs)) 1 ∷ []));
    each = λ i l. go i l (cases_lt i (length ms));
  }
    where
      last : List ℕ
      last = power (length (degrees gs)) 1

      go : (i : ℕ) → i < length (ms ++ last ∷ []) → (i < length ms) ⊎ (length ms ≤ i)
          → vector q (row (values ++ w ∷ []) i) ≡ evaluate (vectors q mul) (gs ++ g ∷ [])
          (slice_index_or (ms ++ last ∷ []) i [])
      go i l (inl b) = rw (
        row_before_push values w i (omega (arith, b, V.count)),
        get_or_append_left ms (last ∷ []) [] i b,
      )
          ((values-stay q g.degree mul gs (g ∷ []) ms values M V).each i b)
      go i l (inr b) = let f : i ≡ length ms =
          (let z = length-append ms (last ∷ []) in omega (arith, l, b, z)) in
          rw (f, get_or_push ms last [] (length ms) refl, ← V.count, row_push values w) (e
          ∙ sym (value-of-last h))
