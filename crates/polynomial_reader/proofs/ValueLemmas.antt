-- The value of terms that are read: powers of generators, multiplied from left to right.
use Rattle.std.proofs.Common.{◌≡◌, ◌≢◌, ℕ, zero, suc, ◌+◌, ◌*◌, ◌<◌, ◌≤◌, ◌⊎◌, inl, inr, Bool, true, false}
use Rattle.std.proofs.Common.{not, ◌&&◌, ◌||◌, leb, cond, List, [], ◌∷◌, ◌++◌, length, take, get_or}
use Rattle.std.proofs.Common.{append_assoc, arith, ap, ap₂, sym, subst, ◌∙◌, refl}
use Rattle.std.specs.Prelude.{replicate, Result, Ok, Err, IfOk}
use Rattle.std.proofs.lemmas.Bool.{false≢true}
use Rattle.std.proofs.lemmas.Bool.Decides.{nat_tests}
use Rattle.std.proofs.lemmas.List.{take_more, append-nil}
use Rattle.limits.specs.declared.TheConstants.{GREATEST_DEGREE}
use Rattle.linear_algebra.proofs.Congruences.{congruent_eq}
use Rattle.graded_polynomials.specs.Monomials.{exponent, degree, is_exterior, fits, joined, IsTrimmed}
use Rattle.graded_polynomials.specs.Monomials.{IsWithin, IsMonomial}
use Rattle.graded_polynomials.specs.Polynomials.{Term, Polynomial, IsPolynomial, IsSame, coefficient, product}
use Rattle.graded_polynomials.specs.Texts.{Factor, ReadTerm, power, read_from, read_value}
use Rattle.graded_polynomials.proofs.Exponents.{same-exponents}
use Rattle.graded_polynomials.proofs.Stored.{polynomial-unique}
use Rattle.graded_polynomials.proofs.Terms.{same-trans, same-append}
use Rattle.polynomial_texts.specs.Readings.{factors_degree}
use Rattle.gc_poly.specs.Generators.{Generators, greatest}
use Rattle.gc_poly.specs.Polynomials.{IsSumOf, IsMonomialOf}
use Rattle.polynomial_reader.specs.Reading.{IsPowerOf}
use Rattle.gc_poly.proofs.Substituting.{product-same}
use Rattle.polynomial_reader.proofs.DegreeLemmas.{degree-more, degree-front}

power-pushed : (i e : ℕ) → replicate i 0 ++ e ∷ [] ≡ power i e
power-pushed zero e = refl
power-pushed (suc i) e = ap (λ m. 0 ∷ m) (power-pushed i e)

power-some : (i e : ℕ) → power i e ≢ []
power-some zero e = λ h. cc
power-some (suc i) e = λ h. cc

pub power-trimmed : (i e : ℕ) → 1 ≤ e → IsTrimmed (power i e)
power-trimmed zero e l = ((λ _ z. omega arith), tt)
power-trimmed (suc i) e l = ((λ z. absurd (power-some i e z)), power-trimmed i e l)

-- the monomial with the exponents of a power is it
pub power-is : (m es : List ℕ) (i e : ℕ) → 1 ≤ e → es ≡ replicate i 0 ++ e ∷ [] → IsTrimmed m
    → ((j : ℕ) → exponent m j ≡ exponent es j)
    → m ≡ power i e
power-is m es i e l s t h = same-exponents m (power i e) t (power-trimmed i e l) (λ j. h j
    ∙ ap (λ es. exponent es j) (s ∙ power-pushed i e))

-- the monomial that is made is the power
pub power-made : {E : Type 0} (r : Result (List ℕ) E) (es : List ℕ) (i e : ℕ) → 1 ≤ e
    → es ≡ replicate i 0 ++ e ∷ [] → IfOk r IsTrimmed
    → IfOk r (λ m. (j : ℕ) → exponent m j ≡ exponent es j) → IfOk r (λ m. m ≡ power i e)
power-made (Ok m) es i e l s t h = power-is m es i e l s t h
power-made (Err x) es i e l s t h = tt

-- the polynomial 0 of the degree of a power
pub zero-made : (ds : List ℕ) (x : Factor) (f : Polynomial) (i d e k : ℕ) → i ≡ x.generator
    → d ≡ get_or ds i 0 → k ≡ e → e ≡ x.exponent
    → f ≡ record { degree = d * k; terms = [] }
    → f ≡ record { degree = get_or ds x.generator 0 * x.exponent; terms = [] }
zero-made ds x f i d e k a b c g z = z
    ∙ (let make : ℕ → Polynomial = λ n. record {
      degree = n;
      terms = [];
    } in ap make (ap₂ (λ m n. m * n) (b ∙ ap (λ i. get_or ds i 0) a) (c ∙ g)))

power-within : (ds : List ℕ) (i e : ℕ) → i < length ds → IsWithin ds (power i e)
power-within [] i e l = absurd (omega arith)
power-within (d ∷ ds) zero e l = tt
power-within (d ∷ ds) (suc i) e l = power-within ds i e (omega (arith, l))

no-degree : (ds : List ℕ) → degree ds [] ≡ 0
no-degree [] = refl
no-degree (d ∷ ds) = refl

power-degree : (ds : List ℕ) (i e : ℕ) → i < length ds → degree ds (power i e) ≡ get_or ds i 0 * e
power-degree [] i e l = absurd (omega arith)
power-degree (d ∷ ds) zero e l = omega (arith, no-degree ds)
power-degree (d ∷ ds) (suc i) e l = omega (arith, power-degree ds i e (omega (arith, l)))

none-fits : (q : ℕ) (ds : List ℕ) → fits q ds [] ≡ true
none-fits q [] = refl
none-fits q (d ∷ ds) = refl

low-fits : (b : Bool) (e : ℕ) → (e ≤ 1) ⊎ (b ≡ false) → (not b || leb e 1) ≡ true
low-fits true e (inl l) = grind (arith, nat_tests)
low-fits true e (inr h) = absurd (false≢true (sym h))
low-fits false e h = refl

zero-fits : (b : Bool) → (not b || leb 0 1) ≡ true
zero-fits true = refl
zero-fits false = refl

power-fits : (q : ℕ) (ds : List ℕ) (i e : ℕ) → (e ≤ 1) ⊎ (is_exterior q (get_or ds i 0) ≡ false)
    → fits q ds (power i e) ≡ true
power-fits q [] i e h = refl
power-fits q (d ∷ ds) zero e h = ap₂ (λ a b. a && b) (low-fits (is_exterior q d) e h) (none-fits q ds)
power-fits q (d ∷ ds) (suc i) e h = ap₂ (λ a b. a && b) (zero-fits (is_exterior q d)) (power-fits q ds i e h)

-- a power of a generator that is not 0
pub power-monomial : (q : ℕ) (ds : List ℕ) (i e : ℕ) → i < length ds → 1 ≤ e → (e ≤ 1)
    ⊎ (is_exterior q (get_or ds i 0) ≡ false)
    → IsMonomial q ds (get_or ds i 0 * e) (power i e)
power-monomial q ds i e l k h = record {
  within = power-within ds i e l;
  trimmed = power-trimmed i e k;
  fitting = power-fits q ds i e h;
  degree_is = power-degree ds i e l;
}

-- the monomial of a power, as it is made
pub power-named : (x : Factor) (m : List ℕ) (i e : ℕ) → i ≡ x.generator → e ≡ x.exponent → m ≡ power i e
    → m ≡ power x.generator x.exponent
power-named x m i e a b h = h ∙ ap₂ power a b

pub power-fitting : (g : Generators) (x : Factor) (f : Polynomial) (m : List ℕ) (i e : ℕ)
    → x.generator < length g.degrees → 1 ≤ x.exponent
    → i ≡ x.generator → e ≡ x.exponent → (e ≤ 1) ⊎ (is_exterior (greatest g) (get_or g.degrees i 0) ≡ false)
    → m ≡ power i e → f ≡ record { degree = get_or g.degrees x.generator 0 * x.exponent; terms = [] }
    → IsMonomialOf g f.degree m
power-fitting g x f m i e l k a b o h z = subst (λ (f : Polynomial). IsMonomialOf g f.degree m) (sym z)
    (subst (IsMonomialOf g (get_or g.degrees x.generator 0 * x.exponent)) (sym (power-named x m i e a b h))
    (power-monomial (greatest g) g.degrees x.generator x.exponent l k (moved o)))
  where
    moved : (e ≤ 1) ⊎ (is_exterior (greatest g) (get_or g.degrees i 0) ≡ false)
        → (x.exponent ≤ 1) ⊎ (is_exterior (greatest g) (get_or g.degrees x.generator 0) ≡ false)
    moved (inl n) = inl (omega (arith, n, b))
    moved (inr n) = inr (ap (λ i. is_exterior (greatest g) (get_or g.degrees i 0)) (sym a) ∙ n)

one-term : (q : ℕ) (ds : List ℕ) (d : ℕ) (m : List ℕ) → 1 ≤ q → IsMonomial q ds d m
    → IsPolynomial q ds d (record { scalar = 1; monomial = m } ∷ [])
one-term q ds d m l h = record {
  over = (h, tt);
  coefficients = ((omega arith, l), tt);
  descending = λ i j t k b. absurd (omega arith);
}

-- the polynomial that is one power
pub power-term : (g : Generators) (x : Factor) (f new : Polynomial) (m : List ℕ) → 1 ≤ greatest g
    → m ≡ power x.generator x.exponent
    → IsMonomialOf g f.degree m
    → f ≡ record { degree = get_or g.degrees x.generator 0 * x.exponent; terms = [] }
    → IsSumOf g f.degree (f.terms ++ record { scalar = 1; monomial = m } ∷ []) new → IsPowerOf g x new
power-term g x f new m l e h z H = record {
  degree_is = H.degree_is ∙ ap (λ (f : Polynomial). f.degree) z;
  over = H.over;
  factor = λ k. record {
    at = λ n. congruent_eq
        (ap (λ t. coefficient (product (greatest g) g.degrees k t) n) terms);
  };
}
  where
    same : IsSame (greatest g) new.terms (record { scalar = 1; monomial = power x.generator x.exponent } ∷ [])
    same = subst (IsSame (greatest g) new.terms)
        (ap₂ (λ (ts : List Term) m. ts ++ record { scalar = 1; monomial = m } ∷ [])
        (ap (λ (f : Polynomial). f.terms) z) e) H.same

    terms : new.terms ≡ record { scalar = 1; monomial = power x.generator x.exponent } ∷ []
    terms = polynomial-unique (greatest g) g.degrees new.degree f.degree new.terms
        (record { scalar = 1; monomial = power x.generator x.exponent } ∷ []) H.over
        (one-term (greatest g) g.degrees f.degree (power x.generator x.exponent) l
        (subst (IsMonomialOf g f.degree) e h)) same

and-false : (b : Bool) → (b && false) ≡ false
and-false true = refl
and-false false = refl

high-fits : (b : Bool) (y : ℕ) → b ≡ true → 2 ≤ y → (not b || leb y 1) ≡ false
high-fits true y h l = grind (arith, nat_tests)
high-fits false y h l = absurd (false≢true h)

-- a generator whose square is 0 comes more than once
square-fits : (q : ℕ) (ds m : List ℕ) (i e : ℕ) → i < length ds → 2 ≤ e → is_exterior q (get_or ds i 0) ≡ true
    → fits q ds (joined m (power i e)) ≡ false
square-fits q [] m i e l k h = absurd (omega arith)
square-fits q (d ∷ ds) [] zero e l k h = ap (λ b. b && fits q ds []) (high-fits (is_exterior q d) e h k)
square-fits q (d ∷ ds) [] (suc i) e l k h = ap (λ b. (not (is_exterior q d) || leb 0 1) && b)
    (square-fits q ds [] i e (omega (arith, l)) k h) ∙ and-false (not (is_exterior q d) || leb 0 1)
square-fits q (d ∷ ds) (x ∷ m) zero e l k h =
    ap (λ b. b && fits q ds (joined m [])) (high-fits (is_exterior q d) (x + e) h (omega arith))
square-fits q (d ∷ ds) (x ∷ m) (suc i) e l k h = ap (λ b. (not (is_exterior q d) || leb (x + 0) 1) && b)
    (square-fits q ds m i e (omega (arith, l)) k h) ∙ and-false (not (is_exterior q d) || leb (x + 0) 1)

square-none : (q : ℕ) (ds : List ℕ) (h : List Term) (i e : ℕ) → i < length ds → 2 ≤ e
    → is_exterior q (get_or ds i 0) ≡ true
    → product q ds h (record { scalar = 1; monomial = power i e } ∷ []) ≡ []
square-none q ds [] i e l k x = refl
square-none q ds (t ∷ h) i e l k x = ap₂ (λ (a b : List Term). a ++ b)
    (one (fits q ds (joined t.monomial (power i e))) _ (square-fits q ds t.monomial i e l k x))
    (square-none q ds h i e l k x)
  where
    one : (b : Bool) (r : List Term) → b ≡ false → cond b r [] ≡ []
    one true r e = absurd (false≢true (sym e))
    one false r e = refl

zero-product : (q : ℕ) (ds : List ℕ) (h : List Term) → product q ds h [] ≡ []
zero-product q ds [] = refl
zero-product q ds (t ∷ h) = zero-product q ds h

zero-over : (g : Generators) (d : ℕ) → IsPolynomial (greatest g) g.degrees d []
zero-over g d = record { over = tt; coefficients = tt; descending = λ i j t k b. absurd (omega arith) }

-- a power that is 0
pub power-zero : (g : Generators) (x : Factor) (f : Polynomial) → x.generator < length g.degrees
    → 2 ≤ x.exponent
    → is_exterior (greatest g) (get_or g.degrees x.generator 0) ≡ true
    → f ≡ record { degree = get_or g.degrees x.generator 0 * x.exponent; terms = [] } → IsPowerOf g x f
power-zero g x f l k e z = subst (IsPowerOf g x) (sym z) record {
  degree_is = refl;
  over = zero-over g (get_or g.degrees x.generator 0 * x.exponent);
  factor = λ h. record {
    at = λ n. congruent_eq
        (ap (λ t. coefficient t n) (zero-product (greatest g) g.degrees h
        ∙ sym (square-none (greatest g) g.degrees h x.generator x.exponent l k e)));
  };
}

read-append : (q : ℕ) (ds : List ℕ) (f : List Term) (xs : List Factor) (x : Factor)
    → read_from q ds f (xs ++ x ∷ []) ≡ product q ds (read_from q ds f xs)
    (record { scalar = 1; monomial = power x.generator x.exponent } ∷ [])
read-append q ds f [] x = refl
read-append q ds f (y ∷ xs) x = read-append q ds
    (product q ds f (record { scalar = 1; monomial = power y.generator y.exponent } ∷ [])) xs x

-- one more factor
pub factor-step : (g : Generators) (f : List Term) (xs : List Factor) (i : ℕ) (x : Factor)
    (out by new : Polynomial) → i < length xs
    → x ≡ get_or xs i x
    → IsSumOf g (factors_degree g.degrees (take i xs)) (read_from (greatest g) g.degrees f (take i xs)) out
    → IsPowerOf g x by
    → IsSumOf g (out.degree + by.degree) (product (greatest g) g.degrees out.terms by.terms) new
    → IsSumOf g (factors_degree g.degrees (take (i + 1) xs))
    (read_from (greatest g) g.degrees f (take (i + 1) xs)) new
factor-step g f xs i x out by new l e F P H = record {
  degree_is = H.degree_is ∙ ap₂ (λ a b. a + b) F.degree_is P.degree_is
      ∙ sym (degree-more g.degrees xs i x l e);
  over = H.over;
  same = same-trans H.same (same-trans (P.factor out.terms)
      (subst (IsSame (greatest g) _) (sym
      (ap (read_from (greatest g) g.degrees f) (take_more xs i x l ∙ ap (λ y. take i xs ++ y ∷ []) (sym e))
      ∙ read-append (greatest g) g.degrees f (take i xs) x))
      (product-same (greatest g) g.degrees out.terms (read_from (greatest g) g.degrees f (take i xs))
      (record { scalar = 1; monomial = power x.generator x.exponent } ∷ []) F.same)));
}

value-append : (q : ℕ) (ds : List ℕ) (ts : List ReadTerm) (t : ReadTerm)
    → read_value q ds (ts ++ t ∷ []) ≡ read_value q ds ts ++ read_from q ds
    (record { scalar = t.numeral; monomial = [] } ∷ []) t.factors
value-append q ds [] t = append-nil (read_from q ds
    (record { scalar = t.numeral; monomial = [] } ∷ []) t.factors)
value-append q ds (s ∷ ts) t = ap (λ f. read_from q ds
    (record { scalar = s.numeral; monomial = [] } ∷ []) s.factors ++ f) (value-append q ds ts t)
    ∙ sym (append_assoc (read_from q ds (record { scalar = s.numeral; monomial = [] } ∷ []) s.factors)
    (read_value q ds ts)
    (read_from q ds (record { scalar = t.numeral; monomial = [] } ∷ []) t.factors))

-- one more term
pub value-step : (g : Generators) (d e : ℕ) (ts : List ReadTerm) (i : ℕ) (t : ReadTerm)
    (out by new : Polynomial) → i < length ts → t ≡ get_or ts i t
    → IsSumOf g d (read_value (greatest g) g.degrees (take i ts)) out
    → IsSumOf g e (read_from (greatest g) g.degrees
    (record { scalar = t.numeral; monomial = [] } ∷ []) t.factors) by
    → IsSumOf g out.degree (out.terms ++ by.terms) new
    → IsSumOf g d (read_value (greatest g) g.degrees (take (i + 1) ts)) new
value-step g d e ts i t out by new l x F B H = record {
  degree_is = H.degree_is ∙ F.degree_is;
  over = H.over;
  same = same-trans H.same (subst (IsSame (greatest g) (out.terms ++ by.terms))
      (sym (ap (read_value (greatest g) g.degrees) (take_more ts i t l
      ∙ ap (λ y. take i ts ++ y ∷ []) (sym x))
      ∙ value-append (greatest g) g.degrees (take i ts) t))
      (same-append F.same B.same));
}

-- the degree of a factor, behind those before it
pub factor-room : (ds : List ℕ) (xs : List Factor) (i : ℕ) (x : Factor) → i < length xs → x ≡ get_or xs i x
    → factors_degree ds xs ≤ GREATEST_DEGREE
    → factors_degree ds (take i xs) + get_or ds x.generator 0 * x.exponent ≤ GREATEST_DEGREE
factor-room ds xs i x l e h = omega (arith, sym (degree-more ds xs i x l e), degree-front ds xs (i + 1), h)
