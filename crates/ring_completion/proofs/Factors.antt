-- Factors of monomials: each monomial that is not 1 has one, and a factor of a monomial can be taken out.
use Rattle.std.proofs.Common.{◌≡◌, ◌≢◌, ℕ, zero, suc, ◌+◌, ◌*◌, ◌<◌, ◌≤◌, List, [], ◌∷◌, length, Bool, true}
use Rattle.std.proofs.Common.{false, not, ◌||◌, ◌&&◌, leb, ◌⊎◌, inl, inr, arith, ap, sym, ◌∙◌, refl}
use Rattle.std.proofs.lemmas.Bool.{cases_Bool}
use Rattle.graded_polynomials.specs.Monomials.{IsMonomial, IsTrimmed, IsWithin, exponent, degree, fits}
use Rattle.graded_polynomials.specs.Monomials.{is_exterior, joined, swaps}
use Rattle.graded_polynomials.specs.Texts.{power}
use Rattle.graded_polynomials.proofs.Exponents.{exponent-joined, joined-cancel}
use Rattle.graded_polynomials.proofs.Monomials.{trimmed-joined}
use Rattle.graded_polynomials.proofs.Terms.{false≢true}
use Rattle.graded_algebra.proofs.Ideals.{degree-nil}
use Rattle.ring_completion.specs.Candidates.{IsQuotient}
use Rattle.ring_completion.specs.Listings.{put}
use Rattle.ring_completion.specs.Completions.{IsClearBefore}
use Rattle.ring_completion.proofs.Joins.{joined-comm, joined-assoc, fits-right, fits-left}
use Rattle.ring_completion.proofs.Quotients.{power-trimmed, within-left}

pub joined-right : (a : List ℕ) → joined a [] ≡ a
joined-right [] = refl
joined-right (x ∷ a) = refl

pub length-power : (i e : ℕ) → length (power i e) ≡ suc i
length-power zero e = refl
length-power (suc i) e = omega (arith, length-power i e)

-- a monomial that is not 1 has a factor
pub has-factor : (m : List ℕ) → IsTrimmed m → m ≢ [] → (i : ℕ) × (1 ≤ exponent m i)
has-factor [] t h = absurd (h refl)
has-factor (suc e ∷ m) t h = (0, omega arith)
has-factor (zero ∷ m) t h = let r = has-factor m t.1 (λ e. t.0 e refl) in (suc r.0, r.1)

-- it has a first one
pub first-factor : (m : List ℕ) → IsTrimmed m → m ≢ [] → (i : ℕ) × (1 ≤ exponent m i) × IsClearBefore i m
first-factor [] t h = absurd (h refl)
first-factor (suc e ∷ m) t h = (0, omega arith, (λ k l. absurd (omega (arith, l))))
first-factor (zero ∷ m) t h = let r = first-factor m t.1 (λ e. t.0 e refl) in
    (suc r.0, r.1, (λ k l. later r.0 r.2 k l))
  where
    later : (i : ℕ) → IsClearBefore i m → (k : ℕ) → k < suc i → exponent (0 ∷ m) k ≡ 0
    later i c zero l = refl
    later i c (suc k) l = c k (omega arith)

-- a factor of what is clear before i is
pub clear-quotient : (i : ℕ) (a r m : List ℕ) → joined a r ≡ m → IsClearBefore i m → IsClearBefore i r
clear-quotient i a r m e c k l = let x = exponent-joined a r k in let y : exponent (joined a r) k ≡ 0 =
    ap (λ l. exponent l k) e ∙ c k l in omega (arith, x, y)

pub put-trimmed : (x : ℕ) (k : List ℕ) → IsTrimmed k → IsTrimmed (put x k)
put-trimmed zero [] t = tt
put-trimmed (suc x) [] t = ((λ e z. absurd (omega (arith, z))), tt)
put-trimmed x (y ∷ k) t = ((λ e z. absurd (let h : (y ∷ k) ≡ [] = e in cc h)), t)

pub put-one : (x : ℕ) (k : List ℕ) → joined (1 ∷ []) (put x k) ≡ suc x ∷ k
put-one zero [] = refl
put-one (suc x) [] = ap (λ z. z ∷ []) (omega arith)
put-one x (y ∷ k) = ap (λ z. z ∷ y ∷ k) (omega arith)

pub put-joined : (x : ℕ) (a k : List ℕ) → joined (0 ∷ a) (put x k) ≡ x ∷ joined a k
put-joined zero a [] = ap (λ z. 0 ∷ z) (sym (joined-right a))
put-joined (suc x) a [] = ap (λ z. z ∷ joined a []) (omega arith)
put-joined x a (y ∷ k) = ap (λ z. z ∷ joined a (y ∷ k)) (omega arith)

-- a factor is taken out
pub divided : (j : ℕ) (n : List ℕ) → IsTrimmed n → 1 ≤ exponent n j → (k : List ℕ) × IsTrimmed k
    × (joined (power j 1) k ≡ n)
divided j [] t l = absurd (omega (arith, l))
divided zero (zero ∷ n) t l = absurd (omega (arith, l))
divided zero (suc e ∷ n) t l = (put e n, put-trimmed e n t.1, put-one e n)
divided (suc j) (x ∷ n) t l = let r = divided j n t.1 l in
    (put x r.0, put-trimmed x r.0 r.1, put-joined x (power j 1) r.0 ∙ ap (λ z. x ∷ z) r.2)

pub within-right : (ds a b : List ℕ) → IsWithin ds (joined a b) → IsWithin ds b
within-right ds a b w = within-left ds b a (rw (joined-comm b a) w)

pub quotient-exists : (q : ℕ) (ds : List ℕ) (d j : ℕ) (n : List ℕ) → IsMonomial q ds d n → 1 ≤ exponent n j
    → (k : List ℕ) × IsQuotient q ds j (degree ds k) k n
quotient-exists q ds d j n N l = let r = divided j n N.trimmed l in (
  r.0,
  record {
    monomial = record {
      within = within-right ds (power j 1) r.0 (rw r.2 N.within);
      trimmed = r.1;
      fitting = fits-right q ds (power j 1) r.0 (ap (fits q ds) r.2 ∙ N.fitting);
      degree_is = refl;
    };
    product = r.2;
  },
)

pub power-here : (i e : ℕ) → exponent (power i e) i ≡ e
power-here zero e = refl
power-here (suc i) e = power-here i e

-- the generator of a quotient is a factor
pub quotient-divides : (q : ℕ) (ds : List ℕ) (i e : ℕ) (n m : List ℕ) → IsQuotient q ds i e n m
    → 1 ≤ exponent m i
quotient-divides q ds i e n m Q = let a = exponent-joined (power i 1) n i in let b = power-here i 1 in
    let c : exponent (joined (power i 1) n) i ≡ exponent m i = ap (λ l. exponent l i) Q.product in
    omega (arith, a, b, c)

pub power-elsewhere : (i e j : ℕ) → j ≢ i → exponent (power i e) j ≡ 0
power-elsewhere zero e zero ne = absurd (ne refl)
power-elsewhere zero e (suc j) ne = refl
power-elsewhere (suc i) e zero ne = refl
power-elsewhere (suc i) e (suc j) ne = power-elsewhere i e j (λ h. ne (omega (arith, h)))

-- two generators that divide a monomial divide it together
pub two-factors : (q : ℕ) (ds : List ℕ) (i j e f : ℕ) (n k m : List ℕ) → i ≢ j → IsQuotient q ds i e n m
    → IsQuotient q ds j f k m
    → (r : List ℕ) × IsQuotient q ds j (degree ds r) r n × IsQuotient q ds i (degree ds r) r k
two-factors q ds i j e f n k m ne Q P = let r = quotient-exists q ds e j n Q.monomial below in (
  r.0,
  r.1,
  record {
    monomial = r.1.monomial;
    product =
        same r.0 r.1.product (trimmed-joined (power i 1) r.0 (power-trimmed i) r.1.monomial.trimmed);
  },
)
  where
    exponents : exponent (power i 1) j + exponent n j ≡ exponent (power j 1) j + exponent k j
    exponents = sym (exponent-joined (power i 1) n j) ∙ ap (λ l. exponent l j) (Q.product ∙ sym P.product)
        ∙ exponent-joined (power j 1) k j

    below : 1 ≤ exponent n j
    below = let a = power-here j 1 in let b = power-elsewhere i 1 j (λ h. ne (sym h)) in
        omega (arith, exponents, a, b)

    same : (r : List ℕ) → joined (power j 1) r ≡ n → IsTrimmed (joined (power i 1) r)
        → joined (power i 1) r ≡ k
    same r h t = joined-cancel (power j 1) (joined (power i 1) r) k t P.monomial.trimmed
        (sym (joined-assoc (power j 1) (power i 1) r)
        ∙ ap (λ a. joined a r) (joined-comm (power j 1) (power i 1))
        ∙ joined-assoc (power i 1) (power j 1) r ∙ ap (joined (power i 1)) h ∙ Q.product ∙ sym P.product)

-- the exchanges of two generators
pub swaps-later : (ds a : List ℕ) (i e : ℕ) → length a ≤ i → swaps ds a (power i e) ≡ 0
swaps-later [] a i e l = refl
swaps-later (d ∷ ds) [] i e l = refl
swaps-later (d ∷ ds) (x ∷ a) zero e l = absurd (omega arith)
swaps-later (d ∷ ds) (x ∷ a) (suc i) e l = omega (arith, swaps-later ds a i e (omega (arith, l)))

swaps-empty : (ds a : List ℕ) → swaps ds a [] ≡ 0
swaps-empty [] a = refl
swaps-empty (d ∷ ds) [] = refl
swaps-empty (d ∷ ds) (x ∷ a) = refl

pub swaps-earlier : (ds : List ℕ) (i j : ℕ) → i < j → swaps ds (power j 1) (power i 1)
    ≡ degree ds (power i 1) * degree ds (power j 1)
swaps-earlier [] i j l = omega arith
swaps-earlier (d ∷ ds) i zero l = absurd (omega (arith, l))
swaps-earlier (d ∷ ds) zero (suc j) l =
    let a = swaps-empty ds (power j 1) in let b = degree-nil ds in
    let e : degree ds (power j 1) * (d * 1) + swaps ds (power j 1) []
    ≡ (d * 1 + degree ds []) * (d * 0 + degree ds (power j 1)) = rw (a, b) (omega arith) in e
swaps-earlier (d ∷ ds) (suc i) (suc j) l =
    let a = swaps-earlier ds i j (omega (arith, l)) in
    let e : degree ds (power j 1) * (d * 0) + swaps ds (power j 1) (power i 1)
    ≡ (d * 0 + degree ds (power i 1)) * (d * 0 + degree ds (power j 1)) = rw a (omega arith) in e

-- where a product with a generator does not fit, the generator is of odd degree and a factor already
one-more : (e : Bool) (y : ℕ) (f g : Bool) → ((not e || leb y 1) && f) ≡ true
    → ((not e || leb (1 + y) 1) && f) ≡ false → (e ≡ true) × (1 ≤ y)
one-more true y true g h k = (refl, positive (cases y) k)
  where
    cases : (y : ℕ) → (y ≡ 0) ⊎ (1 ≤ y)
    cases zero = inl refl
    cases (suc y) = inr (omega arith)

    positive : (y ≡ 0) ⊎ (1 ≤ y) → (leb (1 + y) 1 && true) ≡ false → 1 ≤ y
    positive (inl z) k = false≢true (sym k ∙ rw z refl)
    positive (inr l) k = l
one-more true y false g h k = false≢true (and-false (leb y 1) ∙ h)
  where
    and-false : (b : Bool) → false ≡ (b && false)
    and-false true = refl
    and-false false = refl
one-more false y true g h k = false≢true (sym k)
one-more false y false g h k = false≢true h

and-right : (b c : Bool) → (b && c) ≡ true → c ≡ true
and-right true c e = e
and-right false c e = false≢true e

and-left : (b c : Bool) → (b && c) ≡ true → b ≡ true
and-left true c e = refl
and-left false c e = false≢true e

and-none : (b c : Bool) → b ≡ true → (b && c) ≡ false → c ≡ false
and-none true c e h = h
and-none false c e h = false≢true e

pub unfit-factor : (q : ℕ) (ds : List ℕ) (i : ℕ) (n : List ℕ) → fits q ds (power i 1) ≡ true
    → fits q ds n ≡ true → fits q ds (joined (power i 1) n) ≡ false
    → (is_exterior q (degree ds (power i 1)) ≡ true) × (1 ≤ exponent n i)
unfit-factor q [] i n a b c = false≢true (sym c ∙ fits-none (joined (power i 1) n))
  where
    fits-none : (m : List ℕ) → fits q [] m ≡ true
    fits-none m = refl
unfit-factor q (d ∷ ds) i [] a b c = false≢true (sym c ∙ ap (fits q (d ∷ ds)) (joined-right (power i 1)) ∙ a)
unfit-factor q (d ∷ ds) zero (y ∷ n) a b c = let r = one-more (is_exterior q d) y (fits q ds n) true b c in (
  ap (is_exterior q) (let e = degree-nil ds in let z : d * 1 + degree ds [] ≡ d = omega (arith, e) in z)
      ∙ r.0,
  r.1,
)
unfit-factor q (d ∷ ds) (suc i) (y ∷ n) a b c =
    let z : ((not (is_exterior q d) || leb y 1) && fits q ds (joined (power i 1) n)) ≡ false =
    ap (λ z. (not (is_exterior q d) || leb z 1) && fits q ds (joined (power i 1) n))
    (let e : y ≡ 0 + y = omega arith in e) ∙ c in
    let r = unfit-factor q ds i n (and-right (not (is_exterior q d) || leb 0 1) (fits q ds (power i 1)) a)
    (and-right (not (is_exterior q d) || leb y 1) (fits q ds n) b)
    (and-none (not (is_exterior q d) || leb y 1) (fits q ds (joined (power i 1) n))
    (and-left (not (is_exterior q d) || leb y 1) (fits q ds n) b) z) in (
      ap (is_exterior q) (let e : d * 0 + degree ds (power i 1) ≡ degree ds (power i 1) = omega arith in e)
          ∙ r.0,
      r.1,
    )

-- the square of a generator of odd degree does not fit
pub square-unfit : (q : ℕ) (ds : List ℕ) (i : ℕ) → IsMonomial q ds (degree ds (power i 1)) (power i 1)
    → is_exterior q (degree ds (power i 1)) ≡ true
    → fits q ds (joined (power i 1) (power i 1)) ≡ false
square-unfit q ds i I o = go ds i I.within o
  where
    go : (ds : List ℕ) (i : ℕ) → IsWithin ds (power i 1) → is_exterior q (degree ds (power i 1)) ≡ true
        → fits q ds (joined (power i 1) (power i 1)) ≡ false
    go [] zero w o = absurd w
    go [] (suc i) w o = absurd w
    go (d ∷ ds) zero w o = let e : d * 1 + degree ds [] ≡ d = (let z = degree-nil ds in omega (arith, z)) in
        let x : is_exterior q d ≡ true = ap (is_exterior q) (sym e) ∙ o in rw x refl
    go (d ∷ ds) (suc i) w o = let e : d * 0 + degree ds (power i 1) ≡ degree ds (power i 1) = omega arith in
        ap (λ b. (not (is_exterior q d) || leb (0 + 0) 1) && b) (go ds i w (ap (is_exterior q) (sym e) ∙ o))
        ∙ and-false (not (is_exterior q d) || leb (0 + 0) 1)
      where
        and-false : (b : Bool) → (b && false) ≡ false
        and-false true = refl
        and-false false = refl

-- nor does its product with what it divides
pub twice-unfit : (q : ℕ) (ds : List ℕ) (i : ℕ) (r : List ℕ)
    → IsMonomial q ds (degree ds (power i 1)) (power i 1) → is_exterior q (degree ds (power i 1)) ≡ true
    → fits q ds (joined (power i 1) (joined (power i 1) r)) ≡ false
twice-unfit q ds i r I o = go (cases_Bool (fits q ds (joined (power i 1) (joined (power i 1) r))))
  where
    go : (fits q ds (joined (power i 1) (joined (power i 1) r)) ≡ true)
        ⊎ (fits q ds (joined (power i 1) (joined (power i 1) r)) ≡ false)
        → fits q ds (joined (power i 1) (joined (power i 1) r)) ≡ false
    go (inr f) = f
    go (inl f) = false≢true (sym (square-unfit q ds i I o)
        ∙ fits-left q ds (joined (power i 1) (power i 1)) r
        (ap (fits q ds) (joined-assoc (power i 1) (power i 1) r) ∙ f))
