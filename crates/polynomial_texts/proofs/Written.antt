-- The text of a stored polynomial is read as that polynomial.
use Rattle.std.proofs.Common.{◌≡◌, ◌≢◌, ℕ, zero, suc, ◌+◌, ◌*◌, ◌<◌, ◌≤◌, Bool, true, false, cond, eqb, List}
use Rattle.std.proofs.Common.{[], ◌∷◌, ◌++◌, map, length, get_or, drop, append_assoc, ◌⊎◌, inl, inr, Option}
use Rattle.std.proofs.Common.{None, Some, arith, ap, ap₂, sym, ◌∙◌, refl}
use Rattle.std.specs.Prelude.{decimal, IfSome}
use Rattle.std.specs.List.{AllByRecursion as Each}
use Rattle.std.proofs.lemmas.List.{append-nil}
use Rattle.std.proofs.Math.Seq.{drop-cons}
use Rattle.std.proofs.lemmas.Bool.{cases_Bool}
use Rattle.limits.specs.declared.TheConstants.{GREATEST_DEGREE}
use Rattle.graded_polynomials.proofs.Terms.{eqb-true}
use Rattle.linear_algebra.proofs.Congruences.{congruent_eq}
use Rattle.graded_polynomials.specs.Monomials.{degree, IsTrimmed, IsWithin, IsMonomial}
use Rattle.graded_polynomials.specs.Polynomials.{Term, Polynomial, IsPolynomial, IsOver, coefficient}
use Rattle.graded_polynomials.specs.Texts.{joined_by, star, plus_sign, name, power_text, factor_texts}
use Rattle.graded_polynomials.specs.Texts.{pieces_text, term_text, polynomial_text, factors_of, written}
use Rattle.graded_polynomials.proofs.ReadLemmas.{read-written}
use Rattle.polynomial_texts.specs.Grammar.{NamedFactor, NamedTerm, terms, IsFactor, IsTerm, exponent_text}
use Rattle.polynomial_texts.specs.Grammar.{factor_text, numeral_pieces, term_bytes}
use Rattle.polynomial_texts.specs.Readings.{AreDegrees, number, NamesEach, NamesTerms, term_degree}
use Rattle.polynomial_texts.specs.Readings.{factors_degree, IsReading}
use Rattle.polynomial_texts.proofs.Names.{name-formed, degrees-each}

-- a number as it is written: 1 is left out
abbrev unless_one : ℕ → Option ℕ
unless_one n = cond (eqb n 1) None (Some n)

-- the factors as they are written, from generator i on
abbrev named_factors : List ℕ → ℕ → List ℕ → List NamedFactor
named_factors ds i [] = []
named_factors ds i (zero ∷ m) = named_factors ds (suc i) m
named_factors ds i (suc e ∷ m) = record {
  name = name ds i;
  exponent = unless_one (suc e);
} ∷ named_factors ds (suc i) m

abbrev named_term : List ℕ → Term → NamedTerm
named_term ds t = record { numeral = unless_one t.scalar; factors = named_factors ds 0 t.monomial }

power-written : (n : List ℕ) (e : ℕ) (b : Bool)
    → n ++ exponent_text (cond b None (Some e)) ≡ cond b n (n ++ 94 ∷ decimal e)
power-written n e true = append-nil n
power-written n e false = refl

power-is : (ds : List ℕ) (i e : ℕ) → cond (eqb e 1) (name ds i)
    (name ds i ++ 94 ∷ decimal e) ≡ power_text ds i e
power-is ds i e = ap (cond (eqb e 1) (name ds i)) (sym (append_assoc (name ds i) (94 ∷ []) (decimal e)))

factors-written : (ds : List ℕ) (i : ℕ) (m : List ℕ)
    → map factor_text (named_factors ds i m) ≡ factor_texts ds i m
factors-written ds i [] = refl
factors-written ds i (zero ∷ m) = factors-written ds (suc i) m
factors-written ds i (suc e ∷ m) = ap₂ (λ (p : List ℕ) ps. p ∷ ps)
    (power-written (name ds i) (suc e) (eqb (suc e) 1) ∙ power-is ds i (suc e)) (factors-written ds (suc i) m)

pieces-written : (c : ℕ) (ps : List (List ℕ)) → ps ≢ []
    → joined_by star (numeral_pieces (unless_one c) ++ ps) ≡ pieces_text c ps
pieces-written c [] n = absurd (n refl)
pieces-written c (p ∷ ps) n = go (eqb c 1)
  where
    go : (b : Bool) → joined_by star (numeral_pieces (cond b None (Some c)) ++ p ∷ ps) ≡ joined_by star
        (cond b (p ∷ ps) (decimal c ∷ p ∷ ps))
    go true = refl
    go false = refl

-- a monomial other than 1 has a factor
some-factor : (ds : List ℕ) (i : ℕ) (m : List ℕ) → IsTrimmed m → m ≢ [] → factor_texts ds i m ≢ []
some-factor ds i [] t n = absurd (n refl)
some-factor ds i (zero ∷ []) t n = absurd (t.0 refl refl)
some-factor ds i (zero ∷ x ∷ m) t n = some-factor ds (suc i) (x ∷ m) t.1 (λ e. cc)
some-factor ds i (suc e ∷ m) t n = λ h. cc

no-degree : (ds : List ℕ) → degree ds [] ≡ 0
no-degree [] = refl
no-degree (d ∷ ds) = refl

not-unit : (q : ℕ) (ds : List ℕ) (d : ℕ) (m : List ℕ) → 1 ≤ d → IsMonomial q ds d m → m ≢ []
not-unit q ds d m l h e = omega (arith, sym h.degree_is ∙ ap (degree ds) e ∙ no-degree ds)

term-written : (q : ℕ) (ds : List ℕ) (d : ℕ) (t : Term) → 1 ≤ d → IsMonomial q ds d t.monomial
    → term_bytes (named_term ds t) ≡ term_text ds t
term-written q ds d t l h = ap (λ ps. joined_by star (numeral_pieces (unless_one t.scalar) ++ ps))
    (factors-written ds 0 t.monomial)
    ∙ pieces-written t.scalar (factor_texts ds 0 t.monomial)
    (some-factor ds 0 t.monomial h.trimmed (not-unit q ds d t.monomial l h))

terms-written : (q : ℕ) (ds : List ℕ) (d : ℕ) (f : List Term) → 1 ≤ d → IsOver q ds d f
    → map term_bytes (map (named_term ds) f) ≡ map (term_text ds) f
terms-written q ds d [] l h = refl
terms-written q ds d (t ∷ f) l h = ap₂ (λ (p : List ℕ) ps. p ∷ ps) (term-written q ds d t l h.0)
    (terms-written q ds d f l h.1)

text-written : (q : ℕ) (ds : List ℕ) (d : ℕ) (f : List Term) → 1 ≤ d → f ≢ [] → IsOver q ds d f
    → joined_by plus_sign (map term_bytes (map (named_term ds) f)) ≡ polynomial_text ds f
text-written q ds d [] l n h = absurd (n refl)
text-written q ds d (t ∷ f) l n h = ap (joined_by plus_sign) (terms-written q ds d (t ∷ f) l h)

-- exponents are at most the degree
exponents-small : (ds m : List ℕ) → Each (λ d. (1 ≤ d) × (d ≤ GREATEST_DEGREE)) ds → IsWithin ds m
    → degree ds m ≤ GREATEST_DEGREE → Each (λ e. e ≤ GREATEST_DEGREE) m
exponents-small ds [] h w l = tt
exponents-small [] (e ∷ m) h w l = absurd w
exponents-small (d ∷ ds) (e ∷ m) h w l = (omega (arith, at-most), exponents-small ds m h.1 w (omega arith))
  where
    at-most : e ≤ d * e
    at-most = grind (arith, h.0.0)

unless-one-small : (e : ℕ) (b : Bool) → 1 ≤ e → e ≤ GREATEST_DEGREE
    → IfSome (cond b None (Some e)) (λ e. (1 ≤ e) × (e ≤ GREATEST_DEGREE))
unless-one-small e true a b = tt
unless-one-small e false a b = (a, b)

unless-one-below : (q e : ℕ) (b : Bool) → 1 ≤ e → e ≤ q
    → IfSome (cond b None (Some e)) (λ e. (1 ≤ e) × (e ≤ q))
unless-one-below q e true a b = tt
unless-one-below q e false a b = (a, b)

factors-formed : (ds : List ℕ) (i : ℕ) (m : List ℕ) → AreDegrees ds → Each (λ e. e ≤ GREATEST_DEGREE) m
    → Each IsFactor (named_factors ds i m)
factors-formed ds i [] g h = tt
factors-formed ds i (zero ∷ m) g h = factors-formed ds (suc i) m g h.1
factors-formed ds i (suc e ∷ m) g h = (
  record {
    name = name-formed ds i g;
    exponent = unless-one-small (suc e) (eqb (suc e) 1) (omega arith) h.0;
  },
  factors-formed ds (suc i) m g h.1,
)

-- a factor is written for each that has a text
named-some : (ds : List ℕ) (i : ℕ) (m : List ℕ) → factor_texts ds i m ≢ [] → named_factors ds i m ≢ []
named-some ds i m n e = n (sym (factors-written ds i m) ∙ ap (map factor_text) e)

term-formed : (q : ℕ) (ds : List ℕ) (d : ℕ) (t : Term) → AreDegrees ds → 1 ≤ d → d ≤ GREATEST_DEGREE
    → (0 < t.scalar) × (t.scalar ≤ q)
    → IsMonomial q ds d t.monomial → IsTerm q (named_term ds t)
term-formed q ds d t g l k c h = record {
  numeral = unless-one-below q t.scalar (eqb t.scalar 1) (omega (arith, c.0)) c.1;
  some = named-some ds 0 t.monomial (some-factor ds 0 t.monomial h.trimmed (not-unit q ds d t.monomial l h));
  each = factors-formed ds 0 t.monomial g
      (exponents-small ds t.monomial (degrees-each ds g) h.within (omega (arith, h.degree_is)));
}

terms-formed : (q : ℕ) (ds : List ℕ) (d : ℕ) (f : List Term) → AreDegrees ds → 1 ≤ d → d ≤ GREATEST_DEGREE
    → Each (λ t. (0 < t.scalar) × (t.scalar ≤ q)) f → IsOver q ds d f
    → Each (IsTerm q) (map (named_term ds) f)
terms-formed q ds d [] g l k c h = tt
terms-formed q ds d (t ∷ f) g l k c h = (
  term-formed q ds d t g l k c.0 h.0,
  terms-formed q ds d f g l k c.1 h.1,
)

number-unless : (e : ℕ) → e ≡ number (unless_one e)
number-unless e = go (cases_eqb e)
  where
    go : ((eqb e 1 ≡ true) × (e ≡ 1)) ⊎ (eqb e 1 ≡ false) → e ≡ number (unless_one e)
    go (inl h) = rw h.0 h.1
    go (inr h) = rw h refl

    cases_eqb : (e : ℕ) → ((eqb e 1 ≡ true) × (e ≡ 1)) ⊎ (eqb e 1 ≡ false)
    cases_eqb e = elim (cases_Bool (eqb e 1)) [ inl h ↦ inl (h, eqb-true e 1 h) | inr h ↦ inr h ]

factors-named : (ds : List ℕ) (i : ℕ) (m : List ℕ) → i + length m ≤ length ds
    → NamesEach ds (named_factors ds i m) (factors_of i m)
factors-named ds i [] l = tt
factors-named ds i (zero ∷ m) l = factors-named ds (suc i) m (omega (arith, l))
factors-named ds i (suc e ∷ m) l = (
  record { within = omega (arith, l); name_is = refl; exponent_is = number-unless (suc e) },
  factors-named ds (suc i) m (omega (arith, l)),
)

within-length : (ds m : List ℕ) → IsWithin ds m → length m ≤ length ds
within-length ds [] w = omega arith
within-length [] (x ∷ m) w = absurd w
within-length (d ∷ ds) (x ∷ m) w = omega (arith, within-length ds m w)

terms-named : (q : ℕ) (ds : List ℕ) (d : ℕ) (f : List Term) → IsOver q ds d f
    → NamesTerms ds (map (named_term ds) f) (written f)
terms-named q ds d [] h = tt
terms-named q ds d (t ∷ f) h = (
  record {
    numeral_is = number-unless t.scalar;
    factors = factors-named ds 0 t.monomial (omega (arith, within-length ds t.monomial h.0.within));
  },
  terms-named q ds d f h.1,
)

-- the degree from generator i on
degree-from : (ds : List ℕ) (i : ℕ) (m : List ℕ) → i + length m ≤ length ds
    → factors_degree ds (factors_of i m) ≡ degree (drop i ds) m
degree-from ds i [] l = sym (no-degree (drop i ds))
degree-from ds i (zero ∷ m) l = degree-from ds (suc i) m (omega (arith, l)) ∙ omega arith
    ∙ sym (ap (λ es. degree es (zero ∷ m)) (drop-cons ds i 0 (omega (arith, l))))
degree-from ds i (suc e ∷ m) l = ap (λ n. get_or ds i 0 * suc e + n)
    (degree-from ds (suc i) m (omega (arith, l)))
    ∙ sym (ap (λ es. degree es (suc e ∷ m)) (drop-cons ds i 0 (omega (arith, l))))

degrees-written : (q : ℕ) (ds : List ℕ) (d : ℕ) (f : List Term) → IsOver q ds d f
    → Each (λ r. term_degree ds r ≡ d) (written f)
degrees-written q ds d [] h = tt
degrees-written q ds d (t ∷ f) h = (
  degree-from ds 0 t.monomial (omega (arith, within-length ds t.monomial h.0.within))
      ∙ h.0.degree_is,
  degrees-written q ds d f h.1,
)

mapped-some : (ds : List ℕ) (f : List Term) → f ≢ [] → map (named_term ds) f ≢ []
mapped-some ds [] n = absurd (n refl)
mapped-some ds (t ∷ f) n = λ e. cc

written-some : (f : List Term) → f ≢ [] → written f ≢ []
written-some [] n = absurd (n refl)
written-some (t ∷ f) n = λ e. cc

pub text-reads-back : (q : ℕ) (ds : List ℕ) (f : Polynomial) → AreDegrees ds → f.terms ≢ [] → 1 ≤ f.degree
    → f.degree ≤ GREATEST_DEGREE
    → IsPolynomial q ds f.degree f.terms → IsReading q ds (polynomial_text ds f.terms) f
text-reads-back q ds f g n l k h = record {
  sum = terms (map (named_term ds) f.terms);
  terms = written f.terms;
  stands_for = record {
    text_of = record {
      formed = (mapped-some ds f.terms n, terms-formed q ds f.degree f.terms g l k h.coefficients h.over);
      text_is = text-written q ds f.degree f.terms l n h.over;
    };
    names = terms-named q ds f.degree f.terms h.over;
  };
  degrees = degrees-written q ds f.degree f.terms h.over;
  small = k;
  zero_degree = λ e. absurd (written-some f.terms n e);
  polynomial = h;
  value = record {
    at = λ m. congruent_eq
        (ap (λ g. coefficient g m) (sym (read-written q ds f.degree f.terms h.over)));
  };
}
