-- Ideals: closed under sums and multiples, and of value 0 where the relations are.
use Rattle.std.proofs.Common.{◌≡◌, ℕ, suc, ◌+◌, ◌*◌, List, [], ◌∷◌, ◌++◌, true, false, cond, ◌⊎◌, inl, inr}
use Rattle.std.proofs.Common.{arith, ap, ap₂, sym, ◌∙◌, refl}
use Rattle.std.proofs.lemmas.Bool.{cases_Bool}
use Rattle.std.specs.List.{AllByRecursion as Each}
use Rattle.linear_algebra.specs.Modular.{IsCongruent}
use Rattle.graded_polynomials.specs.Monomials.{same, joined, swaps, sign, fits, degree}
use Rattle.graded_polynomials.specs.Polynomials.{Term, coefficient, scaled, multiple, IsSame, IsOver}
use Rattle.graded_polynomials.specs.Polynomials.{Multiple, total, IsMultiple, IsInIdeal, Polynomial, IsOneOf}
use Rattle.graded_algebra.specs.Algebras.{Algebra, Generator, degrees, evaluate, times, value}
use Rattle.graded_algebra.specs.Algebras.{IsGradedCommutative}
use Rattle.linear_algebra.proofs.Congruences.{congruent_trans, congruent_eq, congruent_add, to_congruent}
use Rattle.linear_algebra.proofs.Congruences.{congruent_sym}
use Rattle.graded_algebra.proofs.Vectors.{times-zero, mul-zero}
use Rattle.graded_algebra.proofs.Values.{linear-append, linear-same, value-multiple}
use Rattle.graded_polynomials.proofs.Terms.{coefficient-append, coefficient-scaled, same-trans, same-scaled}
use Rattle.graded_polynomials.proofs.Terms.{each-append, each-map}

pub is-one-of-left : {X : Type 0} (x : X) (xs ys : List X) → IsOneOf x xs → IsOneOf x (xs ++ ys)
is-one-of-left x [] ys o = elim o [ ]
is-one-of-left x (y ∷ xs) ys (inl e) = inl e
is-one-of-left x (y ∷ xs) ys (inr o) = inr (is-one-of-left x xs ys o)

pub is-one-of-right : {X : Type 0} (x : X) (xs ys : List X) → IsOneOf x ys → IsOneOf x (xs ++ ys)
is-one-of-right x [] ys o = o
is-one-of-right x (y ∷ xs) ys o = inr (is-one-of-right x xs ys o)

pub is-one-of-append : {X : Type 0} (x : X) (xs ys : List X) → IsOneOf x (xs ++ ys) → IsOneOf x xs
    ⊎ IsOneOf x ys
is-one-of-append x [] ys o = inr o
is-one-of-append x (y ∷ xs) ys (inl e) = inl (inl e)
is-one-of-append x (y ∷ xs) ys (inr o) = go (is-one-of-append x xs ys o)
  where
    go : IsOneOf x xs ⊎ IsOneOf x ys → IsOneOf x (y ∷ xs) ⊎ IsOneOf x ys
    go (inl o) = inl (inr o)
    go (inr o) = inr o

pub total-append : (q : ℕ) (ds : List ℕ) (ts us : List Multiple) (m : List ℕ)
    → coefficient (total q ds (ts ++ us)) m ≡ coefficient (total q ds ts) m + coefficient (total q ds us) m
total-append q ds [] us m = omega arith
total-append q ds (t ∷ ts) us m = omega (
  arith,
  total-append q ds ts us m,
  coefficient-append (multiple q ds t.scalar t.by t.of.terms) (total q ds (ts ++ us)) m,
  coefficient-append (multiple q ds t.scalar t.by t.of.terms) (total q ds ts) m,
)

abbrev pub scaled-multiples : ℕ → List Multiple → List Multiple
scaled-multiples c [] = []
scaled-multiples c (t ∷ ts) = record { scalar = c * t.scalar; by = t.by; of = t.of } ∷ scaled-multiples c ts

pub multiple-scaled : (q : ℕ) (ds : List ℕ) (c d : ℕ) (m : List ℕ) (f : List Term) (n : List ℕ)
    → coefficient (multiple q ds (c * d) m f) n ≡ c * coefficient (multiple q ds d m f) n
multiple-scaled q ds c d m [] n = omega arith
multiple-scaled q ds c d m (t ∷ f) n = go (multiple-scaled q ds c d m f n)
    (cases_Bool (fits q ds (joined m t.monomial))) (cases_Bool (same (joined m t.monomial) n))
  where
    s : ℕ
    s = sign q (swaps ds m t.monomial) * t.scalar

    go : coefficient (multiple q ds (c * d) m f) n ≡ c * coefficient (multiple q ds d m f) n
        → (fits q ds (joined m t.monomial) ≡ true) ⊎ (fits q ds (joined m t.monomial) ≡ false)
        → (same (joined m t.monomial) n ≡ true) ⊎ (same (joined m t.monomial) n ≡ false)
        → coefficient (multiple q ds (c * d) m (t ∷ f)) n ≡ c * coefficient (multiple q ds d m (t ∷ f)) n
    go ih (inl o) (inl e) = rw (o, e) (omega (arith, ih))
    go ih (inl o) (inr e) = rw (o, e) (omega (arith, ih))
    go ih (inr o) e = rw o ih

total-scaled : (q : ℕ) (ds : List ℕ) (c : ℕ) (ts : List Multiple) (m : List ℕ)
    → coefficient (total q ds (scaled-multiples c ts)) m ≡ c * coefficient (total q ds ts) m
total-scaled q ds c [] m = omega arith
total-scaled q ds c (t ∷ ts) m =
    coefficient-append (multiple q ds (c * t.scalar) t.by t.of.terms) (total q ds (scaled-multiples c ts)) m
    ∙ ap₂ (λ x y. x + y) (multiple-scaled q ds c t.scalar t.by t.of.terms m) (total-scaled q ds c ts m)
    ∙ (let e : c * coefficient (multiple q ds t.scalar t.by t.of.terms) m + c * coefficient
    (total q ds ts) m ≡ c * (coefficient (multiple q ds t.scalar t.by t.of.terms) m + coefficient
    (total q ds ts) m) = omega arith in e)
    ∙ ap (λ z. c * z) (sym (coefficient-append (multiple q ds t.scalar t.by t.of.terms) (total q ds ts) m))

each-scaled : (q : ℕ) (ds : List ℕ) (rs : List Polynomial) (d c : ℕ) (ts : List Multiple)
    → Each (IsMultiple q ds rs d) ts → Each (IsMultiple q ds rs d) (scaled-multiples c ts)
each-scaled q ds rs d c [] h = tt
each-scaled q ds rs d c (t ∷ ts) h = (
  record {
    given = h.0.given;
    rest = h.0.rest;
    monomial = h.0.monomial;
    degree_is = h.0.degree_is;
  },
  each-scaled q ds rs d c ts h.1,
)

module _ (q : ℕ) (ds : List ℕ) (rs : List Polynomial) (d : ℕ) where
  pub ideal-same : (f g : List Term) → IsSame q g f → IsInIdeal q ds rs d f → IsInIdeal q ds rs d g
  ideal-same f g h i = record { multiples = i.multiples; each = i.each; sum = same-trans h i.sum }

  pub ideal-zero : (f : List Term) → ((m : List ℕ) → IsCongruent (suc q) (coefficient f m) 0)
      → IsInIdeal q ds rs d f
  ideal-zero f h = record { multiples = []; each = tt; sum = record { at = h } }

  pub ideal-append : (f g : List Term) → IsInIdeal q ds rs d f → IsInIdeal q ds rs d g
      → IsInIdeal q ds rs d (f ++ g)
  ideal-append f g i k = record {
    multiples = i.multiples ++ k.multiples;
    each = each-append (IsMultiple q ds rs d) i.multiples k.multiples i.each k.each;
    sum = record {
      at = λ m.
          congruent_trans (congruent_eq (coefficient-append f g m))
          (congruent_trans (congruent_add (i.sum.at m) (k.sum.at m))
          (congruent_eq (sym (total-append q ds i.multiples k.multiples m))));
    };
  }

  pub ideal-scaled : (c : ℕ) (f : List Term) → IsInIdeal q ds rs d f → IsInIdeal q ds rs d (scaled c f)
  ideal-scaled c f i = record {
    multiples = scaled-multiples c i.multiples;
    each = each-scaled q ds rs d c i.multiples i.each;
    sum = record {
      at = λ m.
          congruent_trans ((same-scaled c i.sum).at m)
          (congruent_eq (coefficient-scaled c (total q ds i.multiples) m
          ∙ sym (total-scaled q ds c i.multiples m)));
    };
  }

  -- f = (f + c g) + (p - 1) c g
  pub ideal-back : (f g : List Term) (c : ℕ) → IsInIdeal q ds rs d (f ++ scaled c g) → IsInIdeal q ds rs d g
      → IsInIdeal q ds rs d f
  ideal-back f g c i k =
      ideal-same ((f ++ scaled c g) ++ scaled (q * c) g) f
      (record {
        at = λ m. congruent_sym
            (congruent_trans (congruent_eq
            (let e : coefficient ((f ++ scaled c g) ++ scaled (q * c) g) m
            ≡ coefficient f m + c * coefficient g m + (q * c) * coefficient g m = omega (
              arith,
              coefficient-append (f ++ scaled c g) (scaled (q * c) g) m,
              coefficient-append f (scaled c g) m,
              coefficient-scaled c g m,
              coefficient-scaled (q * c) g m,
            ) in e))
            (to_congruent 0 (c * coefficient g m) (omega arith)));
      })
      (ideal-append (f ++ scaled c g) (scaled (q * c) g) i (ideal-scaled (q * c) g k))

  -- more relations, a greater ideal
  pub ideal-more : (ss : List Polynomial) → ((r : Polynomial) → IsOneOf r rs → IsOneOf r ss) → (f : List Term)
      → IsInIdeal q ds rs d f → IsInIdeal q ds ss d f
  ideal-more ss h f i = record {
    multiples = i.multiples;
    each = each-map (IsMultiple q ds rs d) (IsMultiple q ds ss d) i.multiples
        (λ t m. record {
          given = h t.of m.given;
          rest = m.rest;
          monomial = m.monomial;
          degree_is = m.degree_is;
        }) i.each;
    sum = i.sum;
  }

-- the monomial 1
pub joined-nil : (m : List ℕ) → joined [] m ≡ m
joined-nil m = refl

pub swaps-nil : (ds b : List ℕ) → swaps ds [] b ≡ 0
swaps-nil [] b = refl
swaps-nil (d ∷ ds) b = refl

pub degree-nil : (ds : List ℕ) → degree ds [] ≡ 0
degree-nil [] = refl
degree-nil (d ∷ ds) = refl

pub fits-nil : (q : ℕ) (ds : List ℕ) → fits q ds [] ≡ true
fits-nil q [] = refl
fits-nil q (d ∷ ds) = refl

pub multiple-one : (q : ℕ) (ds : List ℕ) (d : ℕ) (f : List Term) → IsOver q ds d f → (m : List ℕ)
    → coefficient (multiple q ds 1 [] f) m ≡ coefficient f m
multiple-one q ds d [] h m = refl
multiple-one q ds d (t ∷ f) h m = rw (h.0.fitting, swaps-nil ds t.monomial)
    (ap₂ (λ x y. cond (same t.monomial m) x 0 + y) (let e : 1 * (1 * t.scalar) ≡ t.scalar = omega arith in e)
    (multiple-one q ds d f h.1 m))

pub ideal-self : (q : ℕ) (ds : List ℕ) (rs : List Polynomial) (d : ℕ) (r : Polynomial) → r.degree ≡ d
    → IsOneOf r rs → IsOver q ds d r.terms → IsInIdeal q ds rs d r.terms
ideal-self q ds rs d r e o h = record {
  multiples = record { scalar = 1; by = []; of = r } ∷ [];
  each = (
    record {
      given = o;
      rest = 0;
      monomial = record { within = tt; trimmed = tt; fitting = fits-nil q ds; degree_is = degree-nil ds };
      degree_is = omega (arith, e);
    },
    tt,
  );
  sum = record {
    at = λ m. congruent_eq (omega (
      arith,
      coefficient-append (multiple q ds 1 [] r.terms) [] m,
      multiple-one q ds d r.terms h m,
    ));
  };
}

module _ (q : ℕ) (V : Type 0) (A : Algebra V) where
  pub record Vanishes (gs : List (Generator V)) (r : Polynomial) : Type 0 where
    pub over : IsOver q (degrees gs) r.degree r.terms
    pub value_is : value A gs r.terms ≡ A.zero

module _ (q : ℕ) (V : Type 0) (A : Algebra V) (In : ℕ → V → Type 0) (L : IsGradedCommutative q V A In) where
  total-vanishes : (gs : List (Generator V)) (rs : List Polynomial)
      → ((r : Polynomial) → IsOneOf r rs → Vanishes q V A gs r)
      → (d : ℕ) (ts : List Multiple) → Each (IsMultiple q (degrees gs) rs d) ts
      → value A gs (total q (degrees gs) ts) ≡ A.zero
  total-vanishes gs rs z d [] h = refl
  total-vanishes gs rs z d (t ∷ ts) h =
      linear-append q V A L.space (evaluate A gs) (multiple q (degrees gs) t.scalar t.by t.of.terms)
      (total q (degrees gs) ts)
      ∙ ap₂ A.add
      (value-multiple q V A In L gs t.scalar t.by h.0.rest t.of.degree t.of.terms h.0.monomial.degree_is
      (z t.of h.0.given).over
      ∙ ap (times A t.scalar) (ap (A.mul h.0.rest t.of.degree (evaluate A gs t.by))
      (z t.of h.0.given).value_is ∙ mul-zero q V A In L _ _ _)
      ∙ times-zero q V A L.space t.scalar)
      (total-vanishes gs rs z d ts h.1)
      ∙ L.space.add-zero A.zero

  -- a member of the ideal of polynomials with the value 0 has the value 0
  pub ideal-vanishes : (gs : List (Generator V)) (rs : List Polynomial)
      → ((r : Polynomial) → IsOneOf r rs → Vanishes q V A gs r)
      → (d : ℕ) (f : List Term) → IsInIdeal q (degrees gs) rs d f → value A gs f ≡ A.zero
  ideal-vanishes gs rs z d f i =
      linear-same q V A L.space (evaluate A gs) f (total q (degrees gs) i.multiples) i.sum
      ∙ total-vanishes gs rs z d i.multiples i.each
