-- What is written of a polynomial has that polynomial as its value.
use Rattle.std.proofs.Common.{◌≡◌, ℕ, zero, suc, ◌+◌, ◌*◌, ◌≤◌, List, [], ◌∷◌, ◌++◌, length, Bool, true}
use Rattle.std.proofs.Common.{false, not, ◌||◌, ◌&&◌, leb, arith, ap, ap₂, sym, ◌∙◌, refl}
use Rattle.std.proofs.lemmas.Bool.Decides.{nat_tests}
use Rattle.graded_polynomials.specs.Monomials.{fits, is_exterior, joined, swaps, IsTrimmed}
use Rattle.graded_polynomials.specs.Polynomials.{Term, product, IsOver}
use Rattle.graded_polynomials.specs.Texts.{power, read_from, read_value, factors_of, written}
use Rattle.graded_polynomials.proofs.Terms.{false≢true}

-- m from place i on
abbrev shift : ℕ → List ℕ → List ℕ
shift i [] = []
shift zero (e ∷ m) = e ∷ m
shift (suc i) (e ∷ m) = 0 ∷ shift i (e ∷ m)

shift-one : (i e : ℕ) → shift i (e ∷ []) ≡ power i e
shift-one zero e = refl
shift-one (suc i) e = ap (λ m. 0 ∷ m) (shift-one i e)

shift-zero : (i y : ℕ) (m : List ℕ) → shift (suc i) (y ∷ m) ≡ shift i (0 ∷ y ∷ m)
shift-zero zero y m = refl
shift-zero (suc i) y m = ap (λ m. 0 ∷ m) (shift-zero i y m)

plus-zero : (x : ℕ) → x + 0 ≡ x
plus-zero x = omega arith

joined-right : (a : List ℕ) → joined a [] ≡ a
joined-right [] = refl
joined-right (x ∷ a) = refl

joined-shift : (a : List ℕ) (i e : ℕ) (m : List ℕ) → length a ≤ i
    → joined a (shift i (e ∷ m)) ≡ joined (joined a (power i e)) (shift (suc i) m)
joined-shift [] zero e [] l = refl
joined-shift [] zero e (y ∷ m) l = ap (λ x. x ∷ y ∷ m) (sym (plus-zero e))
joined-shift [] (suc i) e [] l = ap (λ m. 0 ∷ m) (shift-one i e)
joined-shift [] (suc i) e (y ∷ m) l = ap₂ (λ x m. x ∷ m) (sym (plus-zero 0))
    (joined-shift [] i e (y ∷ m) (omega arith))
joined-shift (x ∷ a) zero e m l = absurd (omega arith)
joined-shift (x ∷ a) (suc i) e [] l = ap (λ m. (x + 0) ∷ joined a m) (shift-one i e)
joined-shift (x ∷ a) (suc i) e (y ∷ m) l =
    ap₂ (λ x m. x ∷ m) (sym (plus-zero (x + 0))) (joined-shift a i e (y ∷ m) (omega arith))

length-power : (i e : ℕ) → length (power i e) ≡ suc i
length-power zero e = refl
length-power (suc i) e = omega (arith, length-power i e)

length-joined : (a : List ℕ) (i e : ℕ) → length a ≤ i → length (joined a (power i e)) ≤ suc i
length-joined [] i e l = omega (arith, length-power i e)
length-joined (x ∷ a) zero e l = absurd (omega arith)
length-joined (x ∷ a) (suc i) e l = omega (arith, length-joined a i e (omega (arith, l)))

-- a later generator goes past nothing
swaps-power : (ds a : List ℕ) (i e : ℕ) → length a ≤ i → swaps ds a (power i e) ≡ 0
swaps-power [] a i e l = refl
swaps-power (d ∷ ds) [] i e l = refl
swaps-power (d ∷ ds) (x ∷ a) zero e l = absurd (omega arith)
swaps-power (d ∷ ds) (x ∷ a) (suc i) e l = omega (arith, swaps-power ds a i e (omega (arith, l)))

and-left : (b c : Bool) → (b && c) ≡ true → b ≡ true
and-left true c e = refl
and-left false c e = false≢true e

and-right : (b c : Bool) → (b && c) ≡ true → c ≡ true
and-right true c e = e
and-right false c e = false≢true e

smaller : (b : Bool) (x y : ℕ) → (b || leb (x + y) 1) ≡ true → (b || leb x 1) ≡ true
smaller true x y e = refl
smaller false x y e = grind (arith, nat_tests, e)

fits-left : (q : ℕ) (ds a b : List ℕ) → fits q ds (joined a b) ≡ true → fits q ds a ≡ true
fits-left q [] a b h = refl
fits-left q (d ∷ ds) [] b h = refl
fits-left q (d ∷ ds) (x ∷ a) [] h = h
fits-left q (d ∷ ds) (x ∷ a) (y ∷ b) h =
    ap₂ (λ b c. b && c) (smaller (not (is_exterior q d)) x y (and-left _ (fits q ds (joined a b)) h))
    (fits-left q ds a b (and-right (not (is_exterior q d) || leb (x + y) 1) (fits q ds (joined a b)) h))

read-step : (q : ℕ) (ds a : List ℕ) (c i e : ℕ) → length a ≤ i → fits q ds (joined a (power i e)) ≡ true
    → product q ds (record { scalar = c; monomial = a } ∷ [])
    (record { scalar = 1; monomial = power i e } ∷ []) ≡ record {
      scalar = c;
      monomial = joined a (power i e);
    } ∷ []
read-step q ds a c i e l h = rw (h, swaps-power ds a i e l)
    (ap (λ c. record { scalar = c; monomial = joined a (power i e) } ∷ [])
    (let k : c * (1 * 1) ≡ c = omega arith in k))

read-all : (q : ℕ) (ds : List ℕ) (c i : ℕ) (a m : List ℕ) → length a ≤ i → IsTrimmed m
    → fits q ds (joined a (shift i m)) ≡ true
    → read_from q ds (record { scalar = c; monomial = a } ∷ []) (factors_of i m) ≡ record {
      scalar = c;
      monomial = joined a (shift i m);
    } ∷ []
read-all q ds c i a [] l t h = ap (λ m. record { scalar = c; monomial = m } ∷ []) (sym (joined-right a))
read-all q ds c i a (zero ∷ []) l t h = absurd (t.0 refl refl)
read-all q ds c i a (zero ∷ y ∷ m) l t h =
    read-all q ds c (suc i) a (y ∷ m) (omega arith) t.1 (rw (shift-zero i y m) h)
    ∙ ap (λ m. record { scalar = c; monomial = joined a m } ∷ []) (shift-zero i y m)
read-all q ds c i a (suc e ∷ m) l t h =
    ap (λ f. read_from q ds f (factors_of (suc i) m))
    (read-step q ds a c i (suc e) l (fits-left q ds (joined a (power i (suc e))) (shift (suc i) m) k))
    ∙ read-all q ds c (suc i) (joined a (power i (suc e))) m (length-joined a i (suc e) l) t.1 k
    ∙ ap (λ m. record { scalar = c; monomial = m } ∷ []) (sym (joined-shift a i (suc e) m l))
  where
    k : fits q ds (joined (joined a (power i (suc e))) (shift (suc i) m)) ≡ true
    k = rw (sym (joined-shift a i (suc e) m l)) h

shift-none : (m : List ℕ) → shift 0 m ≡ m
shift-none [] = refl
shift-none (e ∷ m) = refl

-- the value of what is written of f is f itself
pub read-written : (q : ℕ) (ds : List ℕ) (d : ℕ) (f : List Term) → IsOver q ds d f
    → read_value q ds (written f) ≡ f
read-written q ds d [] o = refl
read-written q ds d (t ∷ f) o =
    ap₂ (λ (x y : List Term). x ++ y)
    (read-all q ds t.scalar 0 [] t.monomial (omega arith) o.0.trimmed (ap (fits q ds) (shift-none t.monomial)
    ∙ o.0.fitting)
    ∙ ap (λ m. record { scalar = t.scalar; monomial = m } ∷ []) (shift-none t.monomial))
    (read-written q ds d f o.1)
