-- Forms of products that are 0, since a generator of odd degree comes twice, are 0.
use Rattle.std.proofs.Common.{◌≡◌, ℕ, suc, ◌+◌, ◌*◌, ◌<◌, ◌≤◌, List, [], ◌∷◌, true, false, ◌⊎◌, inl, inr}
use Rattle.std.proofs.Common.{arith, ap, ap₂, sym, ◌∙◌, refl}
use Rattle.std.proofs.lemmas.Bool.{cases_order}
use Rattle.std.specs.List.{AllByRecursion as Each}
use Rattle.linear_algebra.specs.Modular.{IsCongruent, IsFieldModulo}
use Rattle.graded_polynomials.specs.Monomials.{IsMonomial, exponent, degree, fits, is_exterior, joined, swaps}
use Rattle.graded_polynomials.specs.Monomials.{sign}
use Rattle.graded_polynomials.specs.Polynomials.{Term, Polynomial}
use Rattle.graded_polynomials.specs.Texts.{power}
use Rattle.graded_polynomials.proofs.Exponents.{exponent-joined}
use Rattle.graded_algebra.specs.Algebras.{Algebra, Generator, degrees, evaluate, linear, times, IsSpace}
use Rattle.graded_algebra.specs.Algebras.{IsGradedCommutative}
use Rattle.graded_algebra.specs.Presentations.{IsRelations}
use Rattle.graded_algebra.proofs.Evaluation.{evaluate-unfit}
use Rattle.graded_algebra.proofs.Vectors.{times-zero}
use Rattle.ring_completion.specs.Candidates.{IsQuotient}
use Rattle.ring_completion.specs.Completions.{degree_of, IsGenerator, AreProducts, AreConsistent}
use Rattle.ring_completion.specs.Completions.{IsClearBefore}
use Rattle.ring_completion.proofs.Quotients.{IsFactorOf, factor-of, degree-positive}
use Rattle.ring_completion.proofs.LinearForms.{sign-twice, linear-times}
use Rattle.ring_completion.proofs.Standing.{Standing, StandingClear, ClearStandard, standing, together}
use Rattle.ring_completion.proofs.Through.{through}
use Rattle.ring_completion.proofs.Factors.{power-elsewhere, clear-quotient, twice-unfit, quotient-exists}

module _ (q : ℕ) (V : Type 0) (A : Algebra V) (In : ℕ → V → Type 0) (L : IsGradedCommutative q V A In)
    (gs : List (Generator V))
    (field : IsFieldModulo (suc q)) (positive : Each (λ d. 0 < d) (degrees gs))
    (free : (c : ℕ) → times A c A.one ≡ A.zero → IsCongruent (suc q) c 0)
    (n : ℕ) (rs : List Polynomial) (R : IsRelations q A gs n rs)
    (W : Type 0) (B : Algebra W) (S : IsSpace q W B) (products : ℕ → List ℕ → List Term)
    (forms : ℕ → List ℕ → W)
    (P : AreProducts q A gs (suc n) products) (C : AreConsistent q A gs (suc n) products W B forms) where
  abbrev s : List ℕ → List ℕ → ℕ
  s a b = sign q (swaps (degrees gs) a b)

  abbrev δ : ℕ → ℕ
  δ i = degree_of (degrees gs) i

  none : (g : List Term) → linear B (λ a. B.zero) g ≡ B.zero
  none [] = refl
  none (t ∷ g) = ap₂ B.add (times-zero q W B S t.scalar) (none g) ∙ S.add-zero B.zero

  zero-linear : (e i : ℕ) (u : List ℕ → W) (g : List Term) → Each (λ t. ClearStandard q A gs e i t.monomial) g
      → ((a : List ℕ) → ClearStandard q A gs e i a → u a ≡ B.zero) → linear B u g ≡ B.zero
  zero-linear e i u g h z = linear-times q W B S u (λ a. B.zero) 1 (ClearStandard q A gs e i) g h
      (λ a x. z a x ∙ sym (times-zero q W B S 1)) ∙ ap (times B 1) (none g) ∙ times-zero q W B S 1

  -- where generator i is of odd degree and the first factor of k, the form of x_i k is 0
  square-vanishes : (i e : ℕ) (k : List ℕ) (g : List Term) → IsGenerator q (degrees gs) i
      → IsMonomial q (degrees gs) e k → δ i + e ≡ suc n → Standing q A gs e k g
      → is_exterior q (δ i) ≡ true → 1 ≤ exponent k i → IsClearBefore i k → linear B (forms i) g ≡ B.zero
  square-vanishes i e k g I K d G o x c =
      through q V A In L gs field positive free n rs R W B S products P i low I (omega (arith, sum, p, d))
      (forms i) r.0 t.0 g r.1.monomial t.1.standing.reduced t.1.standing.value_is
      (rw sum G.reduced) (G.value_is ∙ ap (evaluate A gs) (sym r.1.product))
      ∙ ap (times B (s (power i 1) r.0))
      (zero-linear low i (λ a. linear B (forms i) (products i a)) t.0
      (together q A gs low i t.0 t.1.standing.reduced t.1.clear)
      (λ a z. C.square i low a I o z.0 z.1 (omega (arith, sum, d))))
      ∙ times-zero q W B S (s (power i 1) r.0)
    where
      p : 0 < δ i
      p = degree-positive (degrees gs) i positive I.within

      r : (r : List ℕ) × IsQuotient q (degrees gs) i (degree (degrees gs) r) r k
      r = quotient-exists q (degrees gs) e i k K x

      low : ℕ
      low = degree (degrees gs) r.0

      sum : δ i + low ≡ e
      sum = (factor-of q (degrees gs) i low e r.0 k K r.1).sum

      t : (g : List Term) × StandingClear q A gs low i r.0 g
      t = standing q V A In L gs field positive free n rs R low i (omega (arith, sum, p, d)) r.0 r.1.monomial
          (clear-quotient i (power i 1) r.0 k r.1.product c)

  -- the same where the first factor l of k is another one
  other-vanishes : (i l e : ℕ) (k : List ℕ) (g : List Term) → l < i → IsGenerator q (degrees gs) i
      → IsMonomial q (degrees gs) e k → δ i + e ≡ suc n → Standing q A gs e k g
      → is_exterior q (δ i) ≡ true → 1 ≤ exponent k i → 1 ≤ exponent k l → IsClearBefore l k
      → linear B (forms i) g ≡ B.zero
  other-vanishes i l e k g b I K d G o x y c =
      through q V A In L gs field positive free n rs R W B S products P l low F.generator
      (omega (arith, sum, p, d)) (forms i) r.0 t.0 g r.1.monomial t.1.standing.reduced
      t.1.standing.value_is
      (rw sum G.reduced) (G.value_is ∙ ap (evaluate A gs) (sym r.1.product))
      ∙ ap (times B (s (power l 1) r.0)) gone ∙ times-zero q W B S (s (power l 1) r.0)
    where
      p : 0 < δ i
      p = degree-positive (degrees gs) i positive I.within

      r : (r : List ℕ) × IsQuotient q (degrees gs) l (degree (degrees gs) r) r k
      r = quotient-exists q (degrees gs) e l k K y

      low : ℕ
      low = degree (degrees gs) r.0

      F : IsFactorOf q (degrees gs) l low e r.0 k
      F = factor-of q (degrees gs) l low e r.0 k K r.1

      sum : δ l + low ≡ e
      sum = F.sum

      o' : 0 < δ l
      o' = degree-positive (degrees gs) l positive F.generator.within

      t : (g : List Term) × StandingClear q A gs low l r.0 g
      t = standing q V A In L gs field positive free n rs R low l (omega (arith, sum, p, d)) r.0 r.1.monomial
          (clear-quotient l (power l 1) r.0 k r.1.product c)

      -- generator i divides the quotient by l
      inside : 1 ≤ exponent r.0 i
      inside = let a = exponent-joined (power l 1) r.0 i in let z =
          power-elsewhere l 1 i (λ h. omega (arith, h, b)) in
          let w : exponent (joined (power l 1) r.0) i ≡ exponent k i = ap (λ m. exponent m i) r.1.product in
          omega (arith, a, z, w, x)

      w : (w : List ℕ) × IsQuotient q (degrees gs) i (degree (degrees gs) w) w r.0
      w = quotient-exists q (degrees gs) low i r.0 r.1.monomial inside

      unfit : fits q (degrees gs) (joined (power i 1) r.0) ≡ false
      unfit = ap (λ m. fits q (degrees gs) (joined (power i 1) m)) (sym w.1.product)
          ∙ twice-unfit q (degrees gs) i w.0 I o

      Y : W
      Y = linear B (λ a. linear B (forms i) (products l a)) t.0

      -- 0 is the form by l of x_i times the quotient
      turned : B.zero ≡ times B (s (power i 1) r.0) (times B (sign q (δ l * δ i)) Y)
      turned = through q V A In L gs field positive free n rs R W B S products P i low I
          (omega (arith, sum, o', d)) (forms l) r.0 t.0 [] r.1.monomial t.1.standing.reduced
          t.1.standing.value_is
          record { over = tt; standard = tt }
          (sym (evaluate-unfit q V A In L gs (joined (power i 1) r.0) unfit))
          ∙ ap (times B (s (power i 1) r.0))
          (linear-times q W B S (λ a. linear B (forms l) (products i a))
          (λ a. linear B (forms i) (products l a)) (sign q (δ l * δ i))
          (ClearStandard q A gs low l) t.0 (together q A gs low l t.0 t.1.standing.reduced t.1.clear)
          (λ a z. C.exchange l i low a b F.generator I z.0 z.1 (omega (arith, sum, d))))

      gone : Y ≡ B.zero
      gone = sym (sign-twice q W B S (δ l * δ i) Y)
          ∙ ap (times B (sign q (δ l * δ i))) (sym (sign-twice q W B S (swaps (degrees gs) (power i 1) r.0) _)
          ∙ ap (times B (s (power i 1) r.0)) (sym turned)
          ∙ times-zero q W B S (s (power i 1) r.0))
          ∙ times-zero q W B S (sign q (δ l * δ i))

  -- where a generator of odd degree is a factor of k already, its form is 0
  pub by-first-factor : (i e : ℕ) (k : List ℕ) (g : List Term) → IsGenerator q (degrees gs) i
      → IsMonomial q (degrees gs) e k → δ i + e ≡ suc n → Standing q A gs e k g
      → is_exterior q (δ i) ≡ true → 1 ≤ exponent k i → (l : ℕ) × (1 ≤ exponent k l) × IsClearBefore l k
      → linear B (forms i) g ≡ B.zero
  by-first-factor i e k g I K d G o x (l, y, c) = go (cases_order l i)
    where
      go : (l ≡ i) ⊎ ((l < i) ⊎ (i < l)) → linear B (forms i) g ≡ B.zero
      go (inl z) = square-vanishes i e k g I K d G o x (rw z at c)
      go (inr (inl b)) = other-vanishes i l e k g b I K d G o x y c
      go (inr (inr b)) = absurd (let z = c i b in omega (arith, z, x))
