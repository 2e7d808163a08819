-- Consistent forms of products with generators extend to all polynomials of the degree, and the consequences
-- of lower relations go to 0.
use Rattle.std.proofs.Common.{◌≡◌, ℕ, suc, ◌+◌, ◌*◌, ◌<◌, ◌≤◌, List, [], length, true, false, ◌⊎◌, inl, inr}
use Rattle.std.proofs.Common.{arith, ap, sym, ◌∙◌, refl}
use Rattle.std.specs.Prelude.{slice_index_or}
use Rattle.std.proofs.lemmas.Bool.{cases_Bool, cases_lt, cases_order}
use Rattle.std.specs.List.{AllByRecursion as Each}
use Rattle.linear_algebra.specs.Modular.{IsCongruent, IsFieldModulo}
use Rattle.linear_algebra.proofs.Congruences.{congruent_refl, congruent_eq, congruent_trans, congruent_sym}
use Rattle.linear_algebra.proofs.Congruences.{congruent_mul}
use Rattle.graded_polynomials.specs.Monomials.{IsMonomial, IsMonomials, exponent, degree, fits, is_exterior}
use Rattle.graded_polynomials.specs.Monomials.{joined, swaps, sign}
use Rattle.graded_polynomials.specs.Polynomials.{Term, Polynomial}
use Rattle.graded_polynomials.specs.Texts.{power}
use Rattle.graded_polynomials.proofs.Exponents.{joined-cancel}
use Rattle.graded_polynomials.proofs.Monomials.{monomial-joined}
use Rattle.graded_algebra.specs.Algebras.{Algebra, Generator, degrees, evaluate, value, linear, times}
use Rattle.graded_algebra.specs.Algebras.{IsSpace, IsGradedCommutative}
use Rattle.graded_algebra.specs.Presentations.{IsRelations}
use Rattle.graded_algebra.proofs.Evaluation.{sign-sum}
use Rattle.graded_algebra.proofs.Ideals.{degree-nil}
use Rattle.graded_algebra.proofs.Vectors.{times-times, times-congruent}
use Rattle.ring_completion.specs.Candidates.{IsQuotient}
use Rattle.ring_completion.specs.Completions.{generator_times, degree_of, IsGenerator, IsReduced, AreProducts}
use Rattle.ring_completion.specs.Completions.{AreConsistent, IsClearBefore}
use Rattle.ring_completion.proofs.Joins.{swaps-joined-right}
use Rattle.ring_completion.proofs.Quotients.{IsFactorOf, factor-of, degree-positive}
use Rattle.ring_completion.proofs.LinearForms.{sign-twice, linear-times, at, at-has}
use Rattle.ring_completion.proofs.Standing.{Standing, StandingClear, ClearStandard, standing, together}
use Rattle.ring_completion.proofs.Vanishing.{by-first-factor}
use Rattle.ring_completion.proofs.Through.{same-image, through}
use Rattle.ring_completion.proofs.Factors.{quotient-divides, first-factor, clear-quotient, quotient-exists}
use Rattle.ring_completion.proofs.Factors.{two-factors, swaps-later, swaps-earlier, length-power}
use Rattle.ring_completion.proofs.Factors.{unfit-factor}

module _ (q : ℕ) (V : Type 0) (A : Algebra V) (In : ℕ → V → Type 0) (L : IsGradedCommutative q V A In)
    (gs : List (Generator V))
    (field : IsFieldModulo (suc q)) (positive : Each (λ d. 0 < d) (degrees gs))
    (free : (c : ℕ) → times A c A.one ≡ A.zero → IsCongruent (suc q) c 0)
    (n : ℕ) (rs : List Polynomial) (R : IsRelations q A gs n rs)
    (W : Type 0) (B : Algebra W) (S : IsSpace q W B) (products : ℕ → List ℕ → List Term)
    (forms : ℕ → List ℕ → W)
    (P : AreProducts q A gs (suc n) products) (C : AreConsistent q A gs (suc n) products W B forms) where
  abbrev s : List ℕ → List ℕ → ℕ
  s a b = sign q (swaps (degrees gs) a b)

  abbrev δ : ℕ → ℕ
  δ i = degree_of (degrees gs) i

  -- the signs of the two ways to take out two generators
  signs-agree : (i j : ℕ) (r : List ℕ) → i < j
      → IsCongruent (suc q) (s (power i 1) (joined (power j 1) r) * (s (power j 1) r * sign q (δ i * δ j)))
      (s (power j 1) (joined (power i 1) r) * s (power i 1) r)
  signs-agree i j r l =
      congruent_trans (congruent_mul (congruent_eq (ap (sign q) left)) (sign-sum q b c))
      (congruent_trans (sign-sum q a (b + c))
      (congruent_trans (congruent_eq (ap (sign q) (let z : a + (b + c) ≡ (c + b) + a = omega arith in z)))
      (congruent_sym
      (congruent_trans (congruent_mul (congruent_eq (ap (sign q) right)) (congruent_refl (sign q a)))
      (sign-sum q (c + b) a)))))
    where
      a : ℕ
      a = swaps (degrees gs) (power i 1) r

      b : ℕ
      b = swaps (degrees gs) (power j 1) r

      c : ℕ
      c = δ i * δ j

      left : swaps (degrees gs) (power i 1) (joined (power j 1) r) ≡ a
      left = swaps-joined-right (degrees gs) (power i 1) (power j 1) r
          ∙ (let z = swaps-later (degrees gs) (power i 1) j 1
          (let w = length-power i 1 in omega (arith, w, l)) in omega (arith, z))

      right : swaps (degrees gs) (power j 1) (joined (power i 1) r) ≡ c + b
      right = swaps-joined-right (degrees gs) (power j 1) (power i 1) r
          ∙ ap (λ z. z + b) (swaps-earlier (degrees gs) i j l)

  -- the forms by two generators agree
  agree : (i j e : ℕ) (r k m : List ℕ) (g h : List Term) → i < j → IsGenerator q (degrees gs) i
      → IsGenerator q (degrees gs) j → IsMonomial q (degrees gs) e r
      → IsClearBefore i r → δ i + (δ j + e) ≡ suc n → Standing q A gs (δ j + e) (joined (power j 1) r) g
      → Standing q A gs (δ i + e) (joined (power i 1) r) h
      → times B (s (power i 1) (joined (power j 1) r)) (linear B (forms i) g)
      ≡ times B (s (power j 1) (joined (power i 1) r)) (linear B (forms j) h)
  agree i j e r k m g h l I J M clear d G H =
      ap (times B si)
      (through q V A In L gs field positive free n rs R W B S products P j e J low-j (forms i) r t.0 g M
      t.1.standing.reduced t.1.standing.value_is G.reduced G.value_is
      ∙ ap (times B (s (power j 1) r))
      (linear-times q W B S (λ a. linear B (forms i) (products j a)) (λ a. linear B (forms j) (products i a))
      (sign q (δ i * δ j))
      (ClearStandard q A gs e i) t.0 (together q A gs e i t.0 t.1.standing.reduced t.1.clear)
      (λ a z. C.exchange i j e a l I J z.0 z.1 d)))
      ∙ ap (times B si) (times-times q W B S (s (power j 1) r) (sign q (δ i * δ j)) X)
      ∙ times-times q W B S si (s (power j 1) r * sign q (δ i * δ j)) X
      ∙ times-congruent q W B S X (signs-agree i j r l)
      ∙ sym (times-times q W B S sj (s (power i 1) r) X)
      ∙ ap (times B sj)
      (sym (through q V A In L gs field positive free n rs R W B S products P i e I low-i (forms j) r t.0 h M
      t.1.standing.reduced t.1.standing.value_is H.reduced H.value_is))
    where
      p : 0 < δ i
      p = degree-positive (degrees gs) i positive I.within

      o : 0 < δ j
      o = degree-positive (degrees gs) j positive J.within

      low-j : δ j + e ≤ n
      low-j = omega (arith, p, d)

      low-i : δ i + e ≤ n
      low-i = omega (arith, o, d)

      t : (g : List Term) × StandingClear q A gs e i r g
      t = standing q V A In L gs field positive free n rs R e i (omega (arith, p, d)) r M clear

      si : ℕ
      si = s (power i 1) (joined (power j 1) r)

      sj : ℕ
      sj = s (power j 1) (joined (power i 1) r)

      X : W
      X = linear B (λ a. linear B (forms j) (products i a)) t.0

  -- w is the form of the monomial m, by its first factor
  record HasForm (m : List ℕ) (w : W) : Type 0 where
    generator : ℕ
    low : ℕ
    quotient : List ℕ
    is_quotient : IsQuotient q (degrees gs) generator low quotient m
    first : IsClearBefore generator m
    sum : List Term
    standing : Standing q A gs low quotient sum
    form_is : w ≡ times B (s (power generator 1) quotient) (linear B (forms generator) sum)

  alike : (i j e f : ℕ) (k r m : List ℕ) (g h : List Term) → i ≡ j → e ≤ n → f ≤ n
      → IsQuotient q (degrees gs) i e k m → IsQuotient q (degrees gs) j f r m
      → Standing q A gs e k g → Standing q A gs f r h → times B (s (power i 1) k) (linear B (forms i) g)
      ≡ times B (s (power j 1) r) (linear B (forms j) h)
  alike i j e f k r m g h x l l' Q Q' G H = rw (x, z)
      (ap (times B (s (power j 1) r))
      (same-image q V A In L gs field positive free n rs R W B S products P f l' (forms j) g h G'.reduced
      H.reduced (G'.value_is ∙ sym H.value_is)))
    where
      z : k ≡ r
      z = joined-cancel (power j 1) k r Q.monomial.trimmed Q'.monomial.trimmed
          (let y : joined (power j 1) k ≡ m = ap (λ i. joined (power i 1) k) (sym x) ∙ Q.product in
          y ∙ sym Q'.product)

      w : e ≡ f
      w = sym Q.monomial.degree_is ∙ ap (degree (degrees gs)) z ∙ Q'.monomial.degree_is

      G' : Standing q A gs f r g
      G' = rw (← w, ← z) G

  -- by the first factor and by a later one
  apart : (m : List ℕ) → IsMonomial q (degrees gs) (suc n) m → (v : W) → (a : HasForm m v)
      → (j f : ℕ) (k : List ℕ) (h : List Term)
      → IsQuotient q (degrees gs) j f k m → Standing q A gs f k h → a.generator < j
      → v ≡ times B (s (power j 1) k) (linear B (forms j) h)
  apart m M v a j f k h Q H l = a.form_is
      ∙ by-both (two-factors q (degrees gs) a.generator j a.low f a.quotient k m (λ e. omega (arith, e, l))
      a.is_quotient Q)
    where
      fa : IsFactorOf q (degrees gs) a.generator a.low (suc n) a.quotient m
      fa = factor-of q (degrees gs) a.generator a.low (suc n) a.quotient m M a.is_quotient

      fb : IsFactorOf q (degrees gs) j f (suc n) k m
      fb = factor-of q (degrees gs) j f (suc n) k m M Q

      by-both : (r : List ℕ) × IsQuotient q (degrees gs) j (degree (degrees gs) r) r a.quotient
          × IsQuotient q (degrees gs) a.generator (degree (degrees gs) r) r k
          → times B (s (power a.generator 1) a.quotient) (linear B (forms a.generator) a.sum)
          ≡ times B (s (power j 1) k) (linear B (forms j) h)
      by-both (r, x, y) =
          ap (λ k. times B (s (power a.generator 1) k) (linear B (forms a.generator) a.sum)) (sym x.product)
          ∙ agree a.generator j (degree (degrees gs) r) r a.quotient m a.sum h l fa.generator fb.generator
          x.monomial
          (clear-quotient a.generator (power j 1) r a.quotient x.product
          (clear-quotient a.generator (power a.generator 1) a.quotient m a.is_quotient.product a.first)) total
          (rw (degrees-a, x.product) a.standing) (rw (degrees-b, y.product) H)
          ∙ ap (λ k. times B (s (power j 1) k) (linear B (forms j) h)) y.product
        where
          degrees-a : δ j + degree (degrees gs) r ≡ a.low
          degrees-a = (factor-of q (degrees gs) j (degree (degrees gs) r) a.low r a.quotient
              a.is_quotient.monomial x).sum

          degrees-b : δ a.generator + degree (degrees gs) r ≡ f
          degrees-b = (factor-of q (degrees gs) a.generator (degree (degrees gs) r) f r k Q.monomial y).sum

          total : δ a.generator + (δ j + degree (degrees gs) r) ≡ suc n
          total = rw degrees-a fa.sum

  low-quotient : (i e : ℕ) (k m : List ℕ) → IsMonomial q (degrees gs) (suc n) m
      → IsQuotient q (degrees gs) i e k m → e ≤ n
  low-quotient i e k m M Q = let f = factor-of q (degrees gs) i e (suc n) k m M Q in
      let p = degree-positive (degrees gs) i positive f.generator.within in let z = f.sum in
      omega (arith, p, z)

  -- by any factor
  form-by-any : (m : List ℕ) (v : W) → IsMonomial q (degrees gs) (suc n) m → (a : HasForm m v)
      → (j f : ℕ) (k : List ℕ) (h : List Term)
      → IsQuotient q (degrees gs) j f k m → Standing q A gs f k h
      → v ≡ times B (s (power j 1) k) (linear B (forms j) h)
  form-by-any m v M a j f k h Q H = go (cases_order a.generator j)
    where
      go : (a.generator ≡ j) ⊎ ((a.generator < j) ⊎ (j < a.generator))
          → v ≡ times B (s (power j 1) k) (linear B (forms j) h)
      go (inl e) = a.form_is
          ∙ alike a.generator j a.low f a.quotient k m a.sum h e
          (low-quotient a.generator a.low a.quotient m M a.is_quotient) (low-quotient j f k m M Q)
          a.is_quotient Q a.standing H
      go (inr (inl l)) = apart m M v a j f k h Q H l
      go (inr (inr l)) = absurd (let z = a.first j l in let w = quotient-divides q (degrees gs) j f k m Q in
          omega (arith, z, w))

  form-exists : (m : List ℕ) → IsMonomial q (degrees gs) (suc n) m → (w : W) × HasForm m w
  form-exists m M = (
    times B (s (power i.0 1) k.0) (linear B (forms i.0) t.0),
    record {
      generator = i.0;
      low = degree (degrees gs) k.0;
      quotient = k.0;
      is_quotient = k.1;
      first = i.2;
      sum = t.0;
      standing = t.1.standing;
      form_is = refl;
    },
  )
    where
      i : (i : ℕ) × (1 ≤ exponent m i) × IsClearBefore i m
      i = first-factor m M.trimmed
          (λ e. absurd (let a : degree (degrees gs) m ≡ 0 = ap (degree (degrees gs)) e
          ∙ degree-nil (degrees gs) in let b = M.degree_is in omega (arith, a, b)))

      k : (k : List ℕ) × IsQuotient q (degrees gs) i.0 (degree (degrees gs) k) k m
      k = quotient-exists q (degrees gs) (suc n) i.0 m M i.1

      t : (g : List Term) × StandingClear q A gs (degree (degrees gs) k.0) 0 k.0 g
      t = standing q V A In L gs field positive free n rs R (degree (degrees gs) k.0) 0
          (low-quotient i.0 (degree (degrees gs) k.0) k.0 m M k.1) k.0
          k.1.monomial (λ x l. absurd (omega (arith, l)))

  module _ (ns : List (List ℕ)) (M : IsMonomials q (degrees gs) (suc n) ns) where
    chosen : (k : ℕ) → (k < length ns) ⊎ (length ns ≤ k) → W
    chosen k (inl l) = (form-exists (slice_index_or ns k []) (M.each k l)).0
    chosen k (inr l) = B.zero

    chosen-has : (k : ℕ) → k < length ns → (o : (k < length ns) ⊎ (length ns ≤ k))
        → HasForm (slice_index_or ns k []) (chosen k o)
    unfolding chosen
    chosen-has k b (inl l) = (form-exists (slice_index_or ns k []) (M.each k l)).1
    chosen-has k b (inr l) = absurd (omega (arith, b, l))

    -- the form of a monomial of degree n + 1
    pub form : List ℕ → W
    form m = at q W B S ns (λ k. chosen k (cases_lt k (length ns))) m

    form-has : (m : List ℕ) → IsMonomial q (degrees gs) (suc n) m → HasForm m (form m)
    unfolding form
    form-has m x = at-has q W B S HasForm ns (λ k. chosen k (cases_lt k (length ns)))
        (λ k l. chosen-has k l (cases_lt k (length ns))) m (M.all m x)

    -- by any of its factors
    form-by : (i e : ℕ) (k m : List ℕ) (g : List Term) → IsMonomial q (degrees gs) (suc n) m
        → IsQuotient q (degrees gs) i e k m → Standing q A gs e k g
        → form m ≡ times B (s (power i 1) k) (linear B (forms i) g)
    form-by i e k m g x Q G = form-by-any m (form m) x (form-has m x) i e k g Q G

    -- the form of a product with a generator
    generator-form : (i e : ℕ) (k : List ℕ) (g : List Term) → IsGenerator q (degrees gs) i
        → IsMonomial q (degrees gs) e k → δ i + e ≡ suc n → Standing q A gs e k g
        → linear B form (generator_times q (degrees gs) i k) ≡ linear B (forms i) g
    generator-form i e k g I K d G = go (cases_Bool (fits q (degrees gs) (joined (power i 1) k)))
      where
        p : 0 < δ i
        p = degree-positive (degrees gs) i positive I.within

        go : (fits q (degrees gs) (joined (power i 1) k) ≡ true)
            ⊎ (fits q (degrees gs) (joined (power i 1) k) ≡ false)
            → linear B form (generator_times q (degrees gs) i k) ≡ linear B (forms i) g
        go (inl f) = rw f
            (S.add-zero _ ∙ ap (λ c. times B c (form (joined (power i 1) k)))
            (let z : 1 * (s (power i 1) k * 1) ≡ s (power i 1) k = omega arith in z)
            ∙ ap (times B (s (power i 1) k))
            (form-by i e k (joined (power i 1) k) g
            (monomial-joined q (degrees gs) (δ i) e (suc n) (power i 1) k I K d f)
            (record { monomial = K; product = refl }) G)
            ∙ sign-twice q W B S (swaps (degrees gs) (power i 1) k) _)
        go (inr f) = rw f (sym (vanishes (unfit-factor q (degrees gs) i k I.fitting K.fitting f)))
          where
            vanishes : (is_exterior q (δ i) ≡ true) × (1 ≤ exponent k i) → linear B (forms i) g ≡ B.zero
            vanishes (o, x) = by-first-factor q V A In L gs field positive free n rs R W B S products forms P
                C i e k g I K d G o x
                (first-factor k K.trimmed
                (λ z. absurd (let w : exponent k i ≡ 0 = ap (λ m. exponent m i) z in omega (arith, w, x))))

    -- the forms extend to the monomials of degree n + 1
    pub forms-extend : (u : List ℕ → W)
        × ((i e : ℕ) (k : List ℕ) (g : List Term) → IsGenerator q (degrees gs) i
        → IsMonomial q (degrees gs) e k
        → degree_of (degrees gs) i + e ≡ suc n → IsReduced q A gs e g → value A gs g ≡ evaluate A gs k
        → linear B u (generator_times q (degrees gs) i k) ≡ linear B (forms i) g)
    forms-extend =
        (form, (λ i e k g I K d G v. generator-form i e k g I K d record { reduced = G; value_is = v }))
