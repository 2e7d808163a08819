-- The list of candidates that is made by first factors has all of them.
use Rattle.std.proofs.Common.{◌≡◌, ◌≢◌, ℕ, zero, suc, ◌+◌, ◌-◌, ◌<◌, ◌≤◌, List, [], ◌∷◌, length, Bool, true}
use Rattle.std.proofs.Common.{false, cond, ◌||◌, ◌&&◌, eqb, leb, ◌⊎◌, inl, inr, arith, ap, ap₂, sym, ◌∙◌}
use Rattle.std.proofs.Common.{refl}
use Rattle.std.specs.Prelude.{slice_index_or}
use Rattle.std.proofs.lemmas.Bool.{cases_Bool, cases_eq}
use Rattle.std.proofs.lemmas.Bool.Decides.{nat_tests}
use Rattle.std.specs.List.{AllByRecursion as Each}
use Rattle.graded_polynomials.specs.Monomials.{IsMonomial, IsGreater, IsTrimmed, IsWithin, exponent, degree}
use Rattle.graded_polynomials.specs.Monomials.{fits, joined, same}
use Rattle.graded_polynomials.specs.Polynomials.{IsOneOf}
use Rattle.graded_polynomials.specs.Texts.{power}
use Rattle.graded_polynomials.proofs.Monomials.{monomial-joined}
use Rattle.graded_polynomials.proofs.Terms.{each-append, false≢true, cases-same, eqb-true}
use Rattle.graded_algebra.proofs.Ideals.{degree-nil, is-one-of-left, is-one-of-right}
use Rattle.ring_completion.specs.Candidates.{IsListed}
use Rattle.ring_completion.specs.Completions.{IsClearBefore, IsGenerator, degree_of}
use Rattle.ring_completion.specs.Listings.{without_factor, is_listed, is_clear_before, has_standard_quotients}
use Rattle.ring_completion.specs.Listings.{products_with, candidates_from, standard_of}
use Rattle.graded_polynomials.proofs.Ordered.{Ordered, ordered-append}
use Rattle.ring_completion.proofs.DescendingLists.{each-other}
use Rattle.ring_completion.proofs.Factors.{put-trimmed, put-one, put-joined}
use Rattle.ring_completion.proofs.FirstFactors.{earlier-is-greater}
use Rattle.ring_completion.proofs.Smaller.{greater-joined}

-- the tests
pub listed-if-found : (ms : List (List ℕ)) (m : List ℕ) → is_listed ms m ≡ true → IsListed ms m
listed-if-found [] m h = false≢true h
listed-if-found (a ∷ ms) m h = go (cases-same a m) (listed-if-found ms m)
  where
    go : ((same a m ≡ true) × (a ≡ m)) ⊎ ((same a m ≡ false) × (a ≢ m))
        → (is_listed ms m ≡ true → IsListed ms m) → IsListed (a ∷ ms) m
    go (inl e) ih = (0, omega arith, e.1)
    go (inr e) ih = let r = ih (rw e.0 at h) in (suc r.0, (let l = r.1 in omega (arith, l)), r.2)

pub found-if-listed : (ms : List (List ℕ)) (m : List ℕ) → IsListed ms m → is_listed ms m ≡ true
found-if-listed [] m i = absurd (let l = i.1 in omega (arith, l))
found-if-listed (a ∷ ms) m i = go (cases-same a m) i (λ j. found-if-listed ms m j)
  where
    go : ((same a m ≡ true) × (a ≡ m)) ⊎ ((same a m ≡ false) × (a ≢ m)) → IsListed (a ∷ ms) m
        → (IsListed ms m → is_listed ms m ≡ true) → (same a m || is_listed ms m) ≡ true
    go (inl e) i ih = rw e.0 refl
    go (inr e) (zero, l, z) ih = absurd (e.1 z)
    go (inr e) (suc k, l, z) ih = rw e.0 (ih (k, omega arith, z))

both : (b c : Bool) → (b && c) ≡ true → (b ≡ true) × (c ≡ true)
both true c e = (refl, e)
both false c e = false≢true e

pub clear-if-found : (i : ℕ) (s : List ℕ) → is_clear_before i s ≡ true → IsClearBefore i s
clear-if-found zero s h k l = absurd (omega (arith, l))
clear-if-found (suc i) [] h k l = refl
clear-if-found (suc i) (e ∷ s) h zero l = eqb-true e 0 (both (eqb e 0) (is_clear_before i s) h).0
clear-if-found (suc i) (e ∷ s) h (suc k) l =
    clear-if-found i s (both (eqb e 0) (is_clear_before i s) h).1 k (omega arith)

pub found-if-clear : (i : ℕ) (s : List ℕ) → IsClearBefore i s → is_clear_before i s ≡ true
found-if-clear zero s h = refl
found-if-clear (suc i) [] h = refl
found-if-clear (suc i) (e ∷ s) h = let z : e ≡ 0 = h 0 (omega arith) in
    rw z (found-if-clear i s (λ k l. h (suc k) (omega arith)))

-- a monomial without a factor is the quotient
pub without-trimmed : (i : ℕ) (m : List ℕ) → IsTrimmed m → IsTrimmed (without_factor i m)
without-trimmed i [] t = tt
without-trimmed zero (e ∷ m) t = put-trimmed (e - 1) m t.1
without-trimmed (suc i) (e ∷ m) t = put-trimmed e (without_factor i m) (without-trimmed i m t.1)

pub without-joined : (i : ℕ) (m : List ℕ) → 1 ≤ exponent m i → joined (power i 1) (without_factor i m) ≡ m
without-joined i [] l = absurd (omega (arith, l))
without-joined zero (zero ∷ m) l = absurd (omega (arith, l))
without-joined zero (suc e ∷ m) l =
    put-one (suc e - 1) m ∙ ap (λ z. z ∷ m) (let w : suc (suc e - 1) ≡ suc e = omega arith in w)
without-joined (suc i) (e ∷ m) l = put-joined e (power i 1) (without_factor i m)
    ∙ ap (λ n. e ∷ n) (without-joined i m l)

-- lists by places
pub each-from : (P : List ℕ → Type 0) (ms : List (List ℕ))
    → ((i : ℕ) → i < length ms → P (slice_index_or ms i [])) → Each P ms
each-from P [] h = tt
each-from P (m ∷ ms) h = (h 0 (omega arith), each-from P ms (λ i l. h (suc i) (omega arith)))

pub falls-from : (ms : List (List ℕ))
    → ((i j : ℕ) → i < j → j < length ms → IsGreater (slice_index_or ms i []) (slice_index_or ms j []))
    → Ordered ms
falls-from [] h = tt
falls-from (m ∷ ms) h = (
  each-from (IsGreater m) ms (λ i l. h 0 (suc i) (omega arith) (omega arith)),
  falls-from ms (λ i j b l. h (suc i) (suc j) (omega arith) (omega arith)),
)

pub one-of-listed : (m : List ℕ) (ms : List (List ℕ)) → IsListed ms m → IsOneOf m ms
one-of-listed m [] i = absurd (let l = i.1 in omega (arith, l))
one-of-listed m (a ∷ ms) (zero, l, e) = inl (sym e)
one-of-listed m (a ∷ ms) (suc k, l, e) = inr (one-of-listed m ms (k, omega arith, e))

leb-is : (x y : ℕ) → leb x y ≡ true → x ≤ y
leb-is x y h = grind (arith, nat_tests)

is-leb : (x y : ℕ) → x ≤ y → leb x y ≡ true
is-leb x y h = grind (arith, nat_tests)

pub degree-power : (ds : List ℕ) (i : ℕ) → i < length ds → degree ds (power i 1) ≡ slice_index_or ds i 0
degree-power [] i l = absurd (omega (arith, l))
degree-power (d ∷ ds) zero l = let z = degree-nil ds in omega (arith, z)
degree-power (d ∷ ds) (suc i) l = let z = degree-power ds i (omega arith) in omega (arith, z)

pub within-length : (ds : List ℕ) (i : ℕ) → IsWithin ds (power i 1) → i < length ds
within-length [] zero w = absurd w
within-length [] (suc i) w = absurd w
within-length (d ∷ ds) zero w = omega arith
within-length (d ∷ ds) (suc i) w = let z = within-length ds i w in omega (arith, z)

module _ (lists : List (List (List ℕ))) (d : ℕ) (m : List ℕ) where
  pub found-quotient : (i : ℕ) (es : List ℕ) → has_standard_quotients lists d m i es ≡ true → (j : ℕ)
      → j < length es → 1 ≤ exponent m (i + j)
      → IsListed (standard_of lists (d - slice_index_or es j 0)) (without_factor (i + j) m)
  found-quotient i [] h j l x = absurd (omega (arith, l))
  found-quotient i (e ∷ es) h zero l x = go (cases_Bool (eqb (exponent m i) 0))
      (both (eqb (exponent m i) 0 || is_listed (standard_of lists (d - e)) (without_factor i m))
      (has_standard_quotients lists d m (suc i) es) h).0
    where
      zero-sum : i + 0 ≡ i
      zero-sum = omega arith

      go : (eqb (exponent m i) 0 ≡ true) ⊎ (eqb (exponent m i) 0 ≡ false)
          → (eqb (exponent m i) 0 || is_listed (standard_of lists (d - e)) (without_factor i m)) ≡ true
          → IsListed (standard_of lists (d - e)) (without_factor (i + 0) m)
      go (inl z) t = absurd (let w = eqb-true (exponent m i) 0 z in let y : 1 ≤ exponent m i =
          rw zero-sum at x in omega (arith, w, y))
      go (inr z) t =
          rw zero-sum (listed-if-found (standard_of lists (d - e)) (without_factor i m) (rw z at t))
  found-quotient i (e ∷ es) h (suc j) l x = rw (let z : i + suc j ≡ suc i + j = omega arith in z)
      (found-quotient (suc i) es
      (both (eqb (exponent m i) 0 || is_listed (standard_of lists (d - e)) (without_factor i m))
      (has_standard_quotients lists d m (suc i) es) h).1 j (omega arith)
      (let y : 1 ≤ exponent m (suc i + j) = rw (let z : i + suc j ≡ suc i + j = omega arith in z) at x in y))

  pub quotients-found : (i : ℕ) (es : List ℕ)
      → ((j : ℕ) → j < length es → 1 ≤ exponent m (i + j)
      → IsListed (standard_of lists (d - slice_index_or es j 0)) (without_factor (i + j) m))
      → has_standard_quotients lists d m i es ≡ true
  quotients-found i [] h = refl
  quotients-found i (e ∷ es) h = ap₂ (λ b c. b && c) (go (cases_eq (exponent m i) 0))
      (quotients-found (suc i) es (λ j l x. let z : i + suc j ≡ suc i + j = omega arith in let r =
      h (suc j) (omega arith) (rw z x) in rw z at r))
    where
      zero-sum : i + 0 ≡ i
      zero-sum = omega arith

      or-true : (b : Bool) → (b || true) ≡ true
      or-true true = refl
      or-true false = refl

      go : (exponent m i ≡ 0) ⊎ (exponent m i ≡ 0 → ⊥)
          → (eqb (exponent m i) 0 || is_listed (standard_of lists (d - e)) (without_factor i m)) ≡ true
      go (inl z) = rw z refl
      go (inr ne) = let y : 1 ≤ exponent m (i + 0) = rw zero-sum (omega (arith, ne)) in let r =
          h 0 (omega arith) y in
          let s : IsListed (standard_of lists (d - e)) (without_factor i m) = rw zero-sum at r in
          rw (found-if-listed (standard_of lists (d - e)) (without_factor i m) s)
          (or-true (eqb (exponent m i) 0))

module _ (q : ℕ) (ds : List ℕ) (lists : List (List (List ℕ))) (d : ℕ) where
  -- what is known of a member of the list
  pub record IsMade (i : ℕ) (m : List ℕ) : Type 0 where
    pub monomial : IsMonomial q ds d m
    pub quotients : has_standard_quotients lists d m 0 ds ≡ true
    pub first : ℕ
    pub rest : List ℕ
    pub low : i ≤ first
    pub product : joined (power first 1) rest ≡ m
    pub clear : IsClearBefore first rest

  abbrev test : ℕ → List ℕ → Bool
  test i s = is_clear_before i s
      && (fits q ds (joined (power i 1) s) && has_standard_quotients lists d (joined (power i 1) s) 0 ds)

  module _ (i e : ℕ) (I : IsGenerator q ds i) (sum : degree_of ds i + e ≡ d) where
    made : (s : List ℕ) → IsMonomial q ds e s → test i s ≡ true → IsMade i (joined (power i 1) s)
    made s S t = let a = both (is_clear_before i s)
        (fits q ds (joined (power i 1) s) && has_standard_quotients lists d (joined (power i 1) s) 0 ds) t in
        let b = both (fits q ds (joined (power i 1) s))
        (has_standard_quotients lists d (joined (power i 1) s) 0 ds) a.1 in record {
          monomial = monomial-joined q ds (degree_of ds i) e d (power i 1) s I S sum b.0;
          quotients = b.1;
          first = i;
          rest = s;
          low = omega arith;
          product = refl;
          clear = clear-if-found i s a.0;
        }

    block-each : (ss : List (List ℕ)) → Each (IsMonomial q ds e) ss
        → Each (IsMade i) (products_with q ds lists d i ss)
    block-each [] h = tt
    block-each (s ∷ ss) h = go (cases_Bool (test i s)) (block-each ss h.1)
      where
        go : (test i s ≡ true) ⊎ (test i s ≡ false) → Each (IsMade i) (products_with q ds lists d i ss)
            → Each (IsMade i) (products_with q ds lists d i (s ∷ ss))
        go (inl t) r = rw t (made s h.0 t, r)
        go (inr t) r = rw t r

    block-below : (a : List ℕ) (ss : List (List ℕ)) → Each (IsGreater a) ss
        → Each (IsGreater (joined (power i 1) a)) (products_with q ds lists d i ss)
    block-below a [] h = tt
    block-below a (s ∷ ss) h = go (cases_Bool (test i s)) (block-below a ss h.1)
      where
        go : (test i s ≡ true) ⊎ (test i s ≡ false)
            → Each (IsGreater (joined (power i 1) a)) (products_with q ds lists d i ss)
            → Each (IsGreater (joined (power i 1) a)) (products_with q ds lists d i (s ∷ ss))
        go (inl t) r = rw t (greater-joined (power i 1) a s h.0, r)
        go (inr t) r = rw t r

    block-falls : (ss : List (List ℕ)) → Ordered ss → Ordered (products_with q ds lists d i ss)
    block-falls [] h = tt
    block-falls (s ∷ ss) h = go (cases_Bool (test i s)) (block-falls ss h.1)
      where
        go : (test i s ≡ true) ⊎ (test i s ≡ false) → Ordered (products_with q ds lists d i ss)
            → Ordered (products_with q ds lists d i (s ∷ ss))
        go (inl t) r = rw t (block-below s ss h.0, r)
        go (inr t) r = rw t r

    block-all : (s : List ℕ) (ss : List (List ℕ)) → test i s ≡ true → IsOneOf s ss
        → IsOneOf (joined (power i 1) s) (products_with q ds lists d i ss)
    block-all s [] t o = absurd o
    block-all s (a ∷ ss) t (inl e) = rw (← e, t) (inl refl)
    block-all s (a ∷ ss) t (inr o) = go (cases_Bool (test i a)) (block-all s ss t o)
      where
        go : (test i a ≡ true) ⊎ (test i a ≡ false)
            → IsOneOf (joined (power i 1) s) (products_with q ds lists d i ss)
            → IsOneOf (joined (power i 1) s) (products_with q ds lists d i (a ∷ ss))
        go (inl u) r = rw u (inr r)
        go (inr u) r = rw u r

  -- the generators from i on have the degrees es
  pub record AreFrom (i : ℕ) (es : List ℕ) : Type 0 where
    pub count : i + length es ≡ length ds
    pub each : (k : ℕ) → k < length es → slice_index_or ds (i + k) 0 ≡ slice_index_or es k 0

  next : (i e : ℕ) (es : List ℕ) → AreFrom i (e ∷ es) → AreFrom (suc i) es
  next i e es h = record {
    count = let c = h.count in omega (arith, c);
    each = λ k l. ap (λ j. slice_index_or ds j 0) (let z : suc i + k ≡ i + suc k = omega arith in z)
        ∙ h.each (suc k) (omega arith);
  }

  module _ (generator : (i : ℕ) → i < length ds → IsGenerator q ds i)
      (monomials : (e : ℕ) → e < d → Each (IsMonomial q ds e) (standard_of lists e))
      (falls : (e : ℕ) → e < d → Ordered (standard_of lists e))
      (positive : (i : ℕ) → i < length ds → 0 < slice_index_or ds i 0) (some : 0 < d) where
    here : (i e : ℕ) (es : List ℕ) → AreFrom i (e ∷ es) → (i < length ds) × (slice_index_or ds i 0 ≡ e)
    here i e es h = (
      (let c = h.count in omega (arith, c)),
      ap (λ j. slice_index_or ds j 0) (let z : i ≡ i + 0 = omega arith in z) ∙ h.each 0 (omega arith),
    )

    sum-at : (i e : ℕ) (es : List ℕ) → AreFrom i (e ∷ es) → e ≤ d → degree_of ds i + (d - e) ≡ d
    sum-at i e es h l = let a = here i e es h in let b = degree-power ds i a.0 in let c = a.1 in
        omega (arith, b, c, l)

    lower-at : (i e : ℕ) (es : List ℕ) → AreFrom i (e ∷ es) → d - e < d
    lower-at i e es h = let a = here i e es h in let b = positive i a.0 in let c = a.1 in
        omega (arith, b, c, some)

    pub from-each : (i : ℕ) (es : List ℕ) → AreFrom i es → Each (IsMade i) (candidates_from q ds lists d i es)
    from-each i [] h = tt
    from-each i (e ∷ es) h = each-append (IsMade i)
        (cond (leb e d) (products_with q ds lists d i (standard_of lists (d - e))) [])
        (candidates_from q ds lists d (suc i) es)
        (go (cases_Bool (leb e d)))
        (each-other (IsMade (suc i)) (IsMade i) later (candidates_from q ds lists d (suc i) es)
        (from-each (suc i) es (next i e es h)))
      where
        later : (m : List ℕ) → IsMade (suc i) m → IsMade i m
        later m x = record {
          monomial = x.monomial;
          quotients = x.quotients;
          first = x.first;
          rest = x.rest;
          low = (let l = x.low in omega (arith, l));
          product = x.product;
          clear = x.clear;
        }

        go : (leb e d ≡ true) ⊎ (leb e d ≡ false)
            → Each (IsMade i) (cond (leb e d) (products_with q ds lists d i (standard_of lists (d - e))) [])
        go (inl t) = rw t
            (block-each i (d - e) (generator i (here i e es h).0) (sum-at i e es h (leb-is e d t))
            (standard_of lists (d - e)) (monomials (d - e) (lower-at i e es h)))
        go (inr t) = rw t tt

    pub from-falls : (i : ℕ) (es : List ℕ) → AreFrom i es → Ordered (candidates_from q ds lists d i es)
    from-falls i [] h = tt
    from-falls i (e ∷ es) h = go (cases_Bool (leb e d)) (from-falls (suc i) es (next i e es h))
      where
        over : (ss : List (List ℕ)) → Each (IsMonomial q ds (d - e)) ss → degree_of ds i + (d - e) ≡ d
            → Each (λ m. Each (IsGreater m) (candidates_from q ds lists d (suc i) es))
            (products_with q ds lists d i ss)
        over [] g s = tt
        over (a ∷ ss) g s = pick (cases_Bool (test i a)) (over ss g.1 s)
          where
            pick : (test i a ≡ true) ⊎ (test i a ≡ false)
                → Each (λ m. Each (IsGreater m) (candidates_from q ds lists d (suc i) es))
                (products_with q ds lists d i ss)
                → Each (λ m. Each (IsGreater m) (candidates_from q ds lists d (suc i) es))
                (products_with q ds lists d i (a ∷ ss))
            pick (inl t) r = rw t (
              each-other (IsMade (suc i)) (IsGreater (joined (power i 1) a))
                  (λ b y. rw (← y.product)
                  (earlier-is-greater i y.first a y.rest (let l = y.low in omega (arith, l))
                  (clear-if-found i a
                  (both (is_clear_before i a)
                  (fits q ds (joined (power i 1) a) && has_standard_quotients lists d (joined (power i 1) a) 0
                  ds) t).0) y.clear))
                  (candidates_from q ds lists d (suc i) es) (from-each (suc i) es (next i e es h)),
              r,
            )
            pick (inr t) r = rw t r

        go : (leb e d ≡ true) ⊎ (leb e d ≡ false) → Ordered (candidates_from q ds lists d (suc i) es)
            → Ordered (candidates_from q ds lists d i (e ∷ es))
        go (inl t) r = rw t
            (ordered-append (products_with q ds lists d i (standard_of lists (d - e)))
            (candidates_from q ds lists d (suc i) es)
            (block-falls i (d - e) (generator i (here i e es h).0) (sum-at i e es h (leb-is e d t))
            (standard_of lists (d - e)) (falls (d - e) (lower-at i e es h))) r
            (over (standard_of lists (d - e)) (monomials (d - e) (lower-at i e es h))
            (sum-at i e es h (leb-is e d t))))
        go (inr t) r = rw t r

    pub from-all : (i : ℕ) (es : List ℕ) → AreFrom i es → (k : ℕ) (s : List ℕ) → k < length es
        → slice_index_or es k 0 ≤ d
        → IsOneOf s (standard_of lists (d - slice_index_or es k 0)) → test (i + k) s ≡ true
        → IsOneOf (joined (power (i + k) 1) s) (candidates_from q ds lists d i es)
    from-all i [] h k s l b o t = absurd (omega (arith, l))
    from-all i (e ∷ es) h zero s l b o t = rw (is-leb e d b)
        (is-one-of-left _ (products_with q ds lists d i (standard_of lists (d - e)))
        (candidates_from q ds lists d (suc i) es)
        (rw zero-sum (block-all i (d - e) (generator i (here i e es h).0) (sum-at i e es h b) s
        (standard_of lists (d - e)) (rw zero-sum at t) o)))
      where
        zero-sum : i + 0 ≡ i
        zero-sum = omega arith
    from-all i (e ∷ es) h (suc k) s l b o t = is-one-of-right _
        (cond (leb e d) (products_with q ds lists d i (standard_of lists (d - e))) [])
        (candidates_from q ds lists d (suc i) es)
        (rw shifted (from-all (suc i) es (next i e es h) k s (omega arith) b o (rw shifted at t)))
      where
        shifted : i + suc k ≡ suc i + k
        shifted = omega arith
