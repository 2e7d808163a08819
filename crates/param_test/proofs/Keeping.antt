-- Polynomials without the terms in other generators, as polynomials in the variables.
use Rattle.std.proofs.Common.{◌≡◌, ℕ, zero, suc, ◌+◌, ◌<◌, ◌≤◌, List, [], ◌∷◌, ◌++◌, take, true, false, ◌⊎◌}
use Rattle.std.proofs.Common.{inl, inr, Some, slice_get, map, add-one, arith, ap, sym, subst, ◌∙◌, refl}
use Rattle.std.specs.Prelude.{All, AllPairs, option_map}
use Rattle.std.specs.List.{AllByRecursion as Each}
use Rattle.std.proofs.lemmas.Bool.{cases_Bool}
use Rattle.std.proofs.lemmas.List.{append-nil, map-append}
use Rattle.std.proofs.lemmas.List.Elements.{All-from_recursion, recursion_from_All}
use Rattle.graded_polynomials.specs.Monomials.{exponent, IsWithin, IsGreater}
use Rattle.graded_polynomials.specs.Polynomials.{Term, Polynomial, IsPolynomial, IsSame}
use Rattle.graded_polynomials.proofs.Terms.{each-map}
use Rattle.graded_polynomials.proofs.Ordered.{greater-after}
use Rattle.graded_polynomials.proofs.Stored.{Descending, descending-from, polynomial-unique}
use Rattle.gc_poly.specs.Generators.{Generators, greatest}
use Rattle.gc_poly.specs.Polynomials.{IsOverGenerators, IsMonomialOf, IsSumOf}
use Rattle.gc_poly.proofs.SumLemmas.{take-term}
use Rattle.param_test.specs.Variables.{is_variable, is_in_variables, restricted, kept_terms, kept, all_kept}
use Rattle.param_test.specs.Variables.{variables}
use Rattle.param_test.proofs.Lists.{each-both, each-take}
use Rattle.param_test.proofs.Restricting.{zero-of, both, monomial-restricted}

-- greater monomials in the variables stay greater
first-greater : (x y : ℕ) (a b : List ℕ) → IsGreater (x ∷ a) (y ∷ b) → (y < x) ⊎ ((x ≡ y) × IsGreater a b)
first-greater x y a b h = go h.at h.more h.before
  where
    go : (at : ℕ) → exponent (y ∷ b) at < exponent (x ∷ a) at
        → ((i : ℕ) → i < at → exponent (x ∷ a) i ≡ exponent (y ∷ b) i)
        → (y < x) ⊎ ((x ≡ y) × IsGreater a b)
    go zero m f = inl m
    go (suc k) m f =
        inr (f 0 (omega arith), record { at = k; more = m; before = λ i l. f (suc i) (omega arith) })

first-above-empty : (x : ℕ) (a : List ℕ) → IsGreater (x ∷ a) [] → (0 < x) ⊎ ((x ≡ 0) × IsGreater a [])
first-above-empty x a h = go h.at h.more h.before
  where
    go : (at : ℕ) → exponent [] at < exponent (x ∷ a) at
        → ((i : ℕ) → i < at → exponent (x ∷ a) i ≡ exponent [] i)
        → (0 < x) ⊎ ((x ≡ 0) × IsGreater a [])
    go zero m f = inl m
    go (suc k) m f =
        inr (f 0 (omega arith), record { at = k; more = m; before = λ i l. f (suc i) (omega arith) })

above-empty : (x : ℕ) (a : List ℕ) → 0 < x → IsGreater (x ∷ a) []
above-empty x a l = record { at = 0; more = l; before = λ i b. absurd (omega arith) }

after-zero : (a : List ℕ) → IsGreater a [] → IsGreater (0 ∷ a) []
after-zero a h = record { at = suc h.at; more = h.more; before = before }
  where
    before : (i : ℕ) → i < suc h.at → exponent (0 ∷ a) i ≡ exponent [] i
    before zero l = refl
    before (suc i) l = h.before i (omega arith)

below-empty : (b : List ℕ) → IsGreater [] b → ⊥
below-empty b h = absurd (let m : exponent b h.at < 0 = h.more in omega (arith, m))

empty-is : (q : ℕ) (ds : List ℕ) → restricted q ds [] ≡ []
empty-is q [] = refl
empty-is q (d ∷ ds) = refl

above-restricted : (q : ℕ) (ds a : List ℕ) → is_in_variables q ds a ≡ true → IsWithin ds a → IsGreater a []
    → IsGreater (restricted q ds a) []
above-restricted q ds [] h w g = absurd (below-empty [] g)
above-restricted q [] (x ∷ a) h w g = absurd w
above-restricted q (d ∷ ds) (x ∷ a) h w g =
    go (cases_Bool (is_variable q d)) (first-above-empty x a g) (λ k. above-restricted q ds a (both h).1 w k)
  where
    go : (is_variable q d ≡ true) ⊎ (is_variable q d ≡ false) → (0 < x) ⊎ ((x ≡ 0) × IsGreater a [])
        → (IsGreater a [] → IsGreater (restricted q ds a) []) → IsGreater (restricted q (d ∷ ds) (x ∷ a)) []
    go (inl v) (inl l) r = rw v (above-empty x (restricted q ds a) l)
    go (inl v) (inr e) r = rw (v, e.0) (after-zero (restricted q ds a) (r e.1))
    go (inr v) (inl l) r = absurd (let z = zero-of q d x v 0 (both h).0 in omega (arith, z, l))
    go (inr v) (inr e) r = rw v (r e.1)

pub greater-restricted : (q : ℕ) (ds a b : List ℕ) → is_in_variables q ds a ≡ true
    → is_in_variables q ds b ≡ true → IsWithin ds a → IsWithin ds b
    → IsGreater a b → IsGreater (restricted q ds a) (restricted q ds b)
greater-restricted q ds [] b h k w u g = absurd (below-empty b g)
greater-restricted q [] (x ∷ a) b h k w u g = absurd w
greater-restricted q (d ∷ ds) (x ∷ a) [] h k w u g = above-restricted q (d ∷ ds) (x ∷ a) h w g
greater-restricted q (d ∷ ds) (x ∷ a) (y ∷ b) h k w u g =
    go (cases_Bool (is_variable q d)) (first-greater x y a b g)
    (λ e. greater-restricted q ds a b (both h).1 (both k).1 w u e)
  where
    go : (is_variable q d ≡ true) ⊎ (is_variable q d ≡ false) → (y < x) ⊎ ((x ≡ y) × IsGreater a b)
        → (IsGreater a b → IsGreater (restricted q ds a) (restricted q ds b))
        → IsGreater (restricted q (d ∷ ds) (x ∷ a)) (restricted q (d ∷ ds) (y ∷ b))
    go (inl v) (inl l) r = rw v (record { at = 0; more = l; before = λ i b. absurd (omega arith) })
    go (inl v) (inr e) r = rw (v, e.0) (greater-after y (restricted q ds a) (restricted q ds b) (r e.1))
    go (inr v) (inl l) r = absurd (let z = zero-of q d x v 0 (both h).0 in omega (arith, z, l))
    go (inr v) (inr e) r = rw v (r e.1)

-- what is kept
each-kept : (q : ℕ) (ds : List ℕ) (P Q : Term → Type 0) (f : List Term)
    → ((t : Term) → is_in_variables q ds t.monomial ≡ true → P t
    → Q (record { scalar = t.scalar; monomial = restricted q ds t.monomial }))
    → Each P f → Each Q (kept_terms q ds f)
each-kept q ds P Q [] g h = tt
each-kept q ds P Q (t ∷ f) g h =
    go (cases_Bool (is_in_variables q ds t.monomial)) (each-kept q ds P Q f g h.1)
  where
    go : (is_in_variables q ds t.monomial ≡ true) ⊎ (is_in_variables q ds t.monomial ≡ false)
        → Each Q (kept_terms q ds f) → Each Q (kept_terms q ds (t ∷ f))
    go (inl v) r = rw v (g t v h.0, r)
    go (inr v) r = rw v r

descending-take : (n : ℕ) (f : List Term) → Descending f → Descending (take n f)
descending-take zero f h = tt
descending-take (suc n) [] h = tt
descending-take (suc n) (t ∷ f) h =
    (each-take (λ s. IsGreater t.monomial s.monomial) n f h.0, descending-take n f h.1)

pairs-from : (f : List Term) → Descending f → AllPairs (λ s t. IsGreater s.monomial t.monomial) f
pairs-from [] h i j d l b = absurd (omega arith)
pairs-from (t ∷ f) h zero zero d l b = absurd (omega arith)
pairs-from (t ∷ f) h zero (suc j) d l b = All-from_recursion (λ (s : Term). IsGreater t.monomial s.monomial) f
    h.0 j d (omega (arith, b))
pairs-from (t ∷ f) h (suc i) zero d l b = absurd (omega arith)
pairs-from (t ∷ f) h (suc i) (suc j) d l b = pairs-from f h.1 i j d (omega (arith, l)) (omega (arith, b))

descending-kept : (q : ℕ) (ds : List ℕ) (f : List Term) → Each (λ t. IsWithin ds t.monomial) f → Descending f
    → Descending (kept_terms q ds f)
descending-kept q ds [] w h = tt
descending-kept q ds (t ∷ f) w h =
    go (cases_Bool (is_in_variables q ds t.monomial)) (descending-kept q ds f w.1 h.1)
  where
    go : (is_in_variables q ds t.monomial ≡ true) ⊎ (is_in_variables q ds t.monomial ≡ false)
        → Descending (kept_terms q ds f) → Descending (kept_terms q ds (t ∷ f))
    go (inl v) r = rw v (
      each-kept q ds (λ s. IsWithin ds s.monomial × IsGreater t.monomial s.monomial)
          (λ s. IsGreater (restricted q ds t.monomial) s.monomial) f
          (λ s u k. greater-restricted q ds t.monomial s.monomial v u w.0 k.0 k.1)
          (each-both (λ s. IsWithin ds s.monomial) (λ s. IsGreater t.monomial s.monomial) f w.1 h.0),
      r,
    )
    go (inr v) r = rw v r

module _ (g : Generators) (d : ℕ) where
  pub polynomial-kept : (f : List Term) → IsPolynomial (greatest g) g.degrees d f
      → IsPolynomial (greatest g) (variables g).degrees d (kept_terms (greatest g) g.degrees f)
  polynomial-kept f h = record {
    over = each-kept (greatest g) g.degrees (λ t. IsMonomialOf g d t.monomial)
        (λ t. IsMonomialOf (variables g) d t.monomial) f
        (λ t v m. monomial-restricted g d t.monomial m v) h.over;
    coefficients = each-kept (greatest g) g.degrees (λ t. (0 < t.scalar) × (t.scalar ≤ greatest g))
        (λ t. (0 < t.scalar) × (t.scalar ≤ greatest g)) f
        (λ t v m. m) h.coefficients;
    descending = pairs-from (kept_terms (greatest g) g.degrees f) (descending-kept (greatest g) g.degrees f
        (each-map (λ (t : Term). IsMonomialOf g d t.monomial) (λ (t : Term). IsWithin g.degrees t.monomial)
        f (λ t m. m.within) h.over)
        (descending-from f h.descending));
  }

  polynomial-take : (n : ℕ) (f : List Term) → IsPolynomial (greatest g) g.degrees d f
      → IsPolynomial (greatest g) g.degrees d (take n f)
  polynomial-take n f h = record {
    over = each-take (λ (t : Term). IsMonomialOf g d t.monomial) n f h.over;
    coefficients = each-take (λ (t : Term). (0 < t.scalar) × (t.scalar ≤ greatest g)) n f h.coefficients;
    descending = pairs-from (take n f) (descending-take n f (descending-from f h.descending));
  }

kept-append : (q : ℕ) (ds : List ℕ) (f h : List Term) → kept_terms q ds (f ++ h)
    ≡ kept_terms q ds f ++ kept_terms q ds h
kept-append q ds [] h = refl
kept-append q ds (t ∷ f) h = go (cases_Bool (is_in_variables q ds t.monomial)) (kept-append q ds f h)
  where
    go : (is_in_variables q ds t.monomial ≡ true) ⊎ (is_in_variables q ds t.monomial ≡ false)
        → kept_terms q ds (f ++ h) ≡ kept_terms q ds f ++ kept_terms q ds h
        → kept_terms q ds ((t ∷ f) ++ h) ≡ kept_terms q ds (t ∷ f) ++ kept_terms q ds h
    go (inl v) e =
        rw v (ap (λ ts. record { scalar = t.scalar; monomial = restricted q ds t.monomial } ∷ ts) e)
    go (inr v) e = rw v e

scalar-at : (f : List Term) (i : ℕ) (m : List ℕ) → option_map (λ t. t.monomial) (slice_get f i) ≡ Some m
    → (x : ℕ) × (option_map (λ t. t.scalar) (slice_get f i) ≡ Some x)
scalar-at [] i m h = absurd cc
scalar-at (t ∷ f) zero m h = (t.scalar, refl)
scalar-at (t ∷ f) (suc i) m h = scalar-at f i m h

-- a term with a factor that is no variable is dropped
pub kept-dropped : (g : Generators) (f out : Polynomial) (i : ℕ) (m : List ℕ)
    → option_map (λ t. t.monomial) (slice_get f.terms i) ≡ Some m
    → out ≡ record { degree = f.degree; terms = kept_terms (greatest g) g.degrees (take i f.terms) }
    → is_in_variables (greatest g) g.degrees m ≡ false
    → out ≡ record { degree = f.degree; terms = kept_terms (greatest g) g.degrees (take (i + 1) f.terms) }
kept-dropped g f out i m monomial before v =
    let s = scalar-at f.terms i m monomial in
    before ∙ ap (λ (ts : List Term). record { degree = f.degree; terms = ts }) (sym (
    ap (kept_terms (greatest g) g.degrees) (take-term f.terms i s.0 m s.1 monomial)
    ∙ kept-append (greatest g) g.degrees (take i f.terms) (record { scalar = s.0; monomial = m } ∷ [])
    ∙ (rw v (append-nil (kept_terms (greatest g) g.degrees (take i f.terms))))))

module _ (g : Generators) (f out : Polynomial) (i x : ℕ) (m : List ℕ)
    (scalar : option_map (λ t. t.scalar) (slice_get f.terms i) ≡ Some x)
    (monomial : option_map (λ t. t.monomial) (slice_get f.terms i) ≡ Some m)
    (before : out ≡ record { degree = f.degree; terms = kept_terms (greatest g) g.degrees (take i f.terms) })
  where
    abbrev term : Term
    term = record { scalar = x; monomial = m }

    added : IsOverGenerators g f → is_in_variables (greatest g) g.degrees m ≡ true → (new : Polynomial)
        → IsSumOf (variables g) out.degree
        (out.terms ++ record { scalar = x; monomial = restricted (greatest g) g.degrees m } ∷ []) new
        → new ≡ record { degree = f.degree; terms = kept_terms (greatest g) g.degrees (take (i + 1) f.terms) }
    added h v new s = polynomial (s.degree_is ∙ ap (λ (o : Polynomial). o.degree) before)
        (polynomial-unique (greatest g) (variables g).degrees new.degree f.degree new.terms
        (kept_terms (greatest g) g.degrees (take (i + 1) f.terms)) s.over
        (polynomial-kept g f.degree (take (i + 1) f.terms) (polynomial-take g f.degree (i + 1) f.terms h))
        (subst (λ (ts : List Term). IsSame (greatest g) new.terms ts) sum s.same))
      where
        polynomial : {d : ℕ} {w : List Term} → new.degree ≡ d → new.terms ≡ w
            → new ≡ record { degree = d; terms = w }
        polynomial e k = rw (← e, ← k) refl

        sum : out.terms ++ record { scalar = x; monomial = restricted (greatest g) g.degrees m } ∷ []
            ≡ kept_terms (greatest g) g.degrees (take (i + 1) f.terms)
        sum = sym (ap (kept_terms (greatest g) g.degrees) (take-term f.terms i x m scalar monomial)
            ∙ kept-append (greatest g) g.degrees (take i f.terms) (term ∷ [])
            ∙ (rw v
            (ap (λ ts. ts ++ record { scalar = x; monomial = restricted (greatest g) g.degrees m } ∷ [])
            (sym (ap (λ (o : Polynomial). o.terms) before)))))

    -- any other term is added
    pub kept-added : (ring : Generators) (n : List ℕ) (new : Polynomial) → ring ≡ variables g
        → IsOverGenerators g f → is_in_variables (greatest g) g.degrees m ≡ true
        → n ≡ restricted (greatest g) g.degrees m
        → IsSumOf ring out.degree (out.terms ++ record { scalar = x; monomial = n } ∷ []) new
        → new ≡ record { degree = f.degree; terms = kept_terms (greatest g) g.degrees (take (i + 1) f.terms) }
    kept-added ring n new r h v e s = added h v new
        (subst
        (λ m. IsSumOf (variables g) out.degree (out.terms ++ record { scalar = x; monomial = m } ∷ []) new) e
        (subst (λ r. IsSumOf r out.degree (out.terms ++ record { scalar = x; monomial = n } ∷ []) new) r s))

each-at : (P : Term → Type 0) (f : List Term) (i x : ℕ) (m : List ℕ) → Each P f
    → option_map (λ t. t.scalar) (slice_get f i) ≡ Some x
    → option_map (λ t. t.monomial) (slice_get f i) ≡ Some m → P (record { scalar = x; monomial = m })
each-at P [] i x m h s k = absurd cc
each-at P (t ∷ f) zero x m h s k =
    subst P (let a : t.scalar ≡ x = cc in let b : t.monomial ≡ m = cc in rw (← a, ← b) refl) h.0
each-at P (t ∷ f) (suc i) x m h s k = each-at P f i x m h.1 s k

module _ (g ring : Generators) (f : Polynomial) (i : ℕ) (ring_is : ring ≡ variables g)
    (over : IsOverGenerators g f) where
  pub kept-over : (out : Polynomial)
      → out ≡ record { degree = f.degree; terms = kept_terms (greatest g) g.degrees (take i f.terms) }
      → IsOverGenerators ring out
  kept-over out b =
      subst (λ r. IsOverGenerators r out) (sym ring_is) (subst (IsOverGenerators (variables g)) (sym b)
      (polynomial-kept g f.degree (take i f.terms) (polynomial-take g f.degree i f.terms over)))

  module _ (x : ℕ) (m : List ℕ) (scalar : option_map (λ t. t.scalar) (slice_get f.terms i) ≡ Some x)
      (monomial : option_map (λ t. t.monomial) (slice_get f.terms i) ≡ Some m) where
    pub kept-scalar : x < ring.prime
    kept-scalar =
        let h = each-at (λ t. (0 < t.scalar) × (t.scalar ≤ greatest g)) f.terms i x m over.coefficients scalar
        monomial in
        let e = ap (λ (r : Generators). r.prime) ring_is in
        omega (arith, h.0, h.1, e)

    pub given-monomial : IsMonomialOf g f.degree m
    given-monomial = each-at (λ t. IsMonomialOf g f.degree t.monomial) f.terms i x m over.over scalar monomial

    pub kept-monomial : (out : Polynomial)
        → out ≡ record { degree = f.degree; terms = kept_terms (greatest g) g.degrees (take i f.terms) }
        → (n : List ℕ) → is_in_variables (greatest g) g.degrees m ≡ true
        → n ≡ restricted (greatest g) g.degrees m → IsMonomialOf ring out.degree n
    kept-monomial out b n v e = subst (λ r. IsMonomialOf r out.degree n) (sym ring_is)
        (subst (λ d. IsMonomialOf (variables g) d n) (sym (ap (λ (o : Polynomial). o.degree) b))
        (subst (IsMonomialOf (variables g) f.degree) (sym e)
        (monomial-restricted g f.degree m given-monomial v)))

-- all the polynomials
each-mapped : (g : Generators) (fs : List Polynomial) → Each (IsOverGenerators g) fs
    → Each (IsOverGenerators (variables g)) (map (kept g) fs)
each-mapped g [] h = tt
each-mapped g (f ∷ fs) h = (polynomial-kept g f.degree f.terms h.0, each-mapped g fs h.1)

degrees-mapped : (g : Generators) (fs : List Polynomial) → Each (λ f. f.degree ≤ 24) fs
    → Each (λ f. f.degree ≤ 24) (map (kept g) fs)
degrees-mapped g [] h = tt
degrees-mapped g (f ∷ fs) h = (h.0, degrees-mapped g fs h.1)

pub all-kept-over : (g : Generators) (fs : List Polynomial) → All (IsOverGenerators g) fs
    → All (IsOverGenerators (variables g)) (all_kept g fs)
all-kept-over g fs h = All-from_recursion (IsOverGenerators (variables g)) (map (kept g) fs)
    (each-mapped g fs (recursion_from_All (IsOverGenerators g) fs h))

pub all-kept-low : (g : Generators) (fs : List Polynomial) → All (λ f. f.degree ≤ 24) fs
    → All (λ f. f.degree ≤ 24) (all_kept g fs)
all-kept-low g fs h = All-from_recursion (λ (f : Polynomial). f.degree ≤ 24) (map (kept g) fs)
    (degrees-mapped g fs (recursion_from_All (λ (f : Polynomial). f.degree ≤ 24) fs h))

next : (fs : List Polynomial) (i : ℕ) (f : Polynomial) → slice_get fs i ≡ Some f
    → take (suc i) fs ≡ take i fs ++ f ∷ []
next [] i f s = absurd cc
next (h ∷ fs) zero f s = ap (λ (f : Polynomial). f ∷ []) cc
next (h ∷ fs) (suc i) f s = ap (λ (fs : List Polynomial). h ∷ fs) (next fs i f s)

pub all-kept-more : (g : Generators) (fs out new : List Polynomial) (i : ℕ) (f k : Polynomial)
    → slice_get fs i ≡ Some f → k ≡ kept g f
    → out ≡ all_kept g (take i fs) → new ≡ out ++ k ∷ [] → new ≡ all_kept g (take (i + 1) fs)
all-kept-more g fs out new i f k s e h n = n ∙ ap (λ (o : List Polynomial). o ++ k ∷ []) h
    ∙ ap (λ (k : Polynomial). all_kept g (take i fs) ++ k ∷ []) e
    ∙ sym (ap (map (kept g)) (rw add-one (next fs i f s)) ∙ map-append (kept g) (take i fs) (f ∷ []))
