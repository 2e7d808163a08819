-- The polynomial 0 adds nothing to an ideal.
use Rattle.std.proofs.Common.{◌≡◌, ℕ, ◌+◌, ◌<◌, List, [], ◌∷◌, ◌++◌, length, take, get_or, true, false, not}
use Rattle.std.proofs.Common.{cond, eqb, ◌⊎◌, inl, inr, arith, ap, sym, subst, ◌∙◌, refl}
use Rattle.std.specs.List.{AllByRecursion as Each}
use Rattle.std.proofs.lemmas.Bool.{cases_Bool}
use Rattle.std.proofs.lemmas.List.{take_more, append-nil}
use Rattle.graded_polynomials.specs.Polynomials.{Term, Polynomial, Multiple, multiple, total, IsSame}
use Rattle.graded_polynomials.specs.Polynomials.{IsMultiple, IsOneOf, IsInIdeal}
use Rattle.graded_polynomials.proofs.Terms.{eqb-true, false≢true}
use Rattle.graded_algebra.proofs.Ideals.{ideal-more}
use Rattle.param_test.specs.Nonzero.{has_terms, nonzero}

no-terms : (f : List Term) → not (eqb (length f) 0) ≡ false → f ≡ []
no-terms [] h = refl
no-terms (t ∷ f) h = go (cases_Bool (eqb (length (t ∷ f)) 0))
  where
    go : (eqb (length (t ∷ f)) 0 ≡ true) ⊎ (eqb (length (t ∷ f)) 0 ≡ false) → (t ∷ f) ≡ []
    go (inl b) = absurd (let z = eqb-true (length (t ∷ f)) 0 b in omega (arith, z))
    go (inr b) = false≢true (sym (rw b at h))

one-of-nonzero : (r : Polynomial) (fs : List Polynomial) → has_terms r ≡ true → IsOneOf r fs
    → IsOneOf r (nonzero fs)
one-of-nonzero r [] h o = absurd o
one-of-nonzero r (f ∷ fs) h (inl e) = rw (ap has_terms (sym e) ∙ h) (inl e)
one-of-nonzero r (f ∷ fs) h (inr o) = go (cases_Bool (has_terms f)) (one-of-nonzero r fs h o)
  where
    go : (has_terms f ≡ true) ⊎ (has_terms f ≡ false) → IsOneOf r (nonzero fs) → IsOneOf r (nonzero (f ∷ fs))
    go (inl b) k = rw b (inr k)
    go (inr b) k = rw b k

one-of-all : (r : Polynomial) (fs : List Polynomial) → IsOneOf r (nonzero fs) → IsOneOf r fs
one-of-all r [] o = o
one-of-all r (f ∷ fs) o = go (cases_Bool (has_terms f)) (λ k. one-of-all r fs k)
  where
    back : (IsOneOf r (nonzero fs) → IsOneOf r fs) → IsOneOf r (f ∷ nonzero fs) → IsOneOf r (f ∷ fs)
    back h (inl e) = inl e
    back h (inr k) = inr (h k)

    go : (has_terms f ≡ true) ⊎ (has_terms f ≡ false) → (IsOneOf r (nonzero fs) → IsOneOf r fs)
        → IsOneOf r (f ∷ fs)
    go (inl b) h = back h (rw b at o)
    go (inr b) h = inr (h (rw b at o))

abbrev dropped : List Multiple → List Multiple
dropped [] = []
dropped (t ∷ ts) = cond (has_terms t.of) (t ∷ dropped ts) (dropped ts)

module _ (q : ℕ) (ds : List ℕ) (fs : List Polynomial) (d : ℕ) where
  total-dropped : (ts : List Multiple) → total q ds ts ≡ total q ds (dropped ts)
  total-dropped [] = refl
  total-dropped (t ∷ ts) = go (cases_Bool (has_terms t.of)) (total-dropped ts)
    where
      go : (has_terms t.of ≡ true) ⊎ (has_terms t.of ≡ false) → total q ds ts ≡ total q ds (dropped ts)
          → total q ds (t ∷ ts) ≡ total q ds (dropped (t ∷ ts))
      go (inl b) e = rw b (ap (λ (f : List Term). multiple q ds t.scalar t.by t.of.terms ++ f) e)
      go (inr b) e =
          rw b (ap (λ (f : List Term). multiple q ds t.scalar t.by f ++ total q ds ts) (no-terms t.of.terms b)
          ∙ e)

  each-dropped : (ts : List Multiple) → Each (IsMultiple q ds fs d) ts
      → Each (IsMultiple q ds (nonzero fs) d) (dropped ts)
  each-dropped [] h = tt
  each-dropped (t ∷ ts) h = go (cases_Bool (has_terms t.of)) (each-dropped ts h.1)
    where
      go : (has_terms t.of ≡ true) ⊎ (has_terms t.of ≡ false)
          → Each (IsMultiple q ds (nonzero fs) d) (dropped ts)
          → Each (IsMultiple q ds (nonzero fs) d) (dropped (t ∷ ts))
      go (inl b) k = rw b (
        record {
          given = one-of-nonzero t.of fs b h.0.given;
          rest = h.0.rest;
          monomial = h.0.monomial;
          degree_is = h.0.degree_is;
        },
        k,
      )
      go (inr b) k = rw b k

  pub ideal-nonzero : (f : List Term) → IsInIdeal q ds fs d f → IsInIdeal q ds (nonzero fs) d f
  ideal-nonzero f i = record {
    multiples = dropped i.multiples;
    each = each-dropped i.multiples i.each;
    sum = subst (λ (g : List Term). IsSame q f g) (total-dropped i.multiples) i.sum;
  }

  pub ideal-all : (f : List Term) → IsInIdeal q ds (nonzero fs) d f → IsInIdeal q ds fs d f
  ideal-all f i = ideal-more q ds (nonzero fs) d fs (λ r o. one-of-all r fs o) f i

pub each-nonzero : (P : Polynomial → Type 0) (fs : List Polynomial) → Each P fs → Each P (nonzero fs)
each-nonzero P [] h = tt
each-nonzero P (f ∷ fs) h = go (cases_Bool (has_terms f)) (each-nonzero P fs h.1)
  where
    go : (has_terms f ≡ true) ⊎ (has_terms f ≡ false) → Each P (nonzero fs) → Each P (nonzero (f ∷ fs))
    go (inl b) k = rw b (h.0, k)
    go (inr b) k = rw b k

nonzero-last : (fs : List Polynomial) (f : Polynomial) → nonzero (fs ++ f ∷ [])
    ≡ nonzero fs ++ cond (has_terms f) (f ∷ []) []
nonzero-last [] f = go (cases_Bool (has_terms f))
  where
    go : (has_terms f ≡ true) ⊎ (has_terms f ≡ false) → nonzero (f ∷ []) ≡ cond (has_terms f) (f ∷ []) []
    go (inl b) = rw b refl
    go (inr b) = rw b refl
nonzero-last (r ∷ fs) f = go (cases_Bool (has_terms r)) (nonzero-last fs f)
  where
    go : (has_terms r ≡ true) ⊎ (has_terms r ≡ false)
        → nonzero (fs ++ f ∷ []) ≡ nonzero fs ++ cond (has_terms f) (f ∷ []) []
        → nonzero (r ∷ (fs ++ f ∷ [])) ≡ nonzero (r ∷ fs) ++ cond (has_terms f) (f ∷ []) []
    go (inl b) e = rw b (ap (λ (fs : List Polynomial). r ∷ fs) e)
    go (inr b) e = rw b e

nonzero-next : (fs : List Polynomial) (i : ℕ) (f : Polynomial) → i < length fs → f ≡ get_or fs i f
    → nonzero (take (i + 1) fs) ≡ nonzero (take i fs) ++ cond (has_terms f) (f ∷ []) []
nonzero-next fs i f l e = ap nonzero (take_more fs i f l)
    ∙ ap (λ (x : Polynomial). nonzero (take i fs ++ x ∷ [])) (sym e) ∙ nonzero-last (take i fs) f

-- one more polynomial, with terms or without
pub nonzero-more : (fs : List Polynomial) (i : ℕ) (f : Polynomial) → i < length fs → f ≡ get_or fs i f
    → has_terms f ≡ true
    → nonzero (take (i + 1) fs) ≡ nonzero (take i fs) ++ f ∷ []
nonzero-more fs i f l e b = nonzero-next fs i f l e ∙ rw b refl

pub nonzero-same : (fs : List Polynomial) (i : ℕ) (f : Polynomial) → i < length fs → f ≡ get_or fs i f
    → has_terms f ≡ false
    → nonzero (take (i + 1) fs) ≡ nonzero (take i fs)
nonzero-same fs i f l e b = nonzero-next fs i f l e ∙ rw b (append-nil (nonzero (take i fs)))

pub with-terms : (f : Polynomial) (n : ℕ) → n ≡ length f.terms → (n ≡ 0 → ⊥) → has_terms f ≡ true
with-terms f n e h = go (cases_Bool (has_terms f))
  where
    go : (has_terms f ≡ true) ⊎ (has_terms f ≡ false) → has_terms f ≡ true
    go (inl b) = b
    go (inr b) = absurd (h (e ∙ ap length (no-terms f.terms b)))

pub without-terms : (f : Polynomial) (n : ℕ) → n ≡ length f.terms → n ≡ 0 → has_terms f ≡ false
without-terms f n e z = let k : length f.terms ≡ 0 = sym e ∙ z in rw k refl
