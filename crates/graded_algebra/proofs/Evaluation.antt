-- Evaluation of monomials is multiplicative.
use Rattle.std.proofs.Common.{◌≡◌, ℕ, zero, suc, ◌+◌, ◌*◌, ◌%◌, List, [], ◌∷◌, true, false, not, ◌&&◌, ◌||◌}
use Rattle.std.proofs.Common.{leb, ◌⊎◌, inl, inr, arith, ap, ap₂, sym, ◌∙◌, refl}
use Rattle.std.proofs.lemmas.Bool.{cases_Bool}
use Rattle.linear_algebra.specs.Modular.{IsCongruent}
use Rattle.linear_algebra.proofs.Congruences.{to_congruent}
use Rattle.graded_polynomials.specs.Monomials.{degree, fits, is_exterior, joined, swaps, sign}
use Rattle.graded_algebra.specs.Algebras.{Algebra, Generator, degrees, powers, evaluate_from, evaluate, times}
use Rattle.graded_algebra.specs.Algebras.{IsGradedCommutative}
use Rattle.graded_algebra.proofs.Vectors.{times-one, times-times, times-congruent, mul-zero, zero-mul}
use Rattle.graded_algebra.proofs.Vectors.{mul-times, times-mul}
use Rattle.graded_polynomials.proofs.Monomials.{degree-joined}

-- a product of signs
pub sign-sum : (q m n : ℕ) → IsCongruent (suc q) (sign q m * sign q n) (sign q (m + n))
sign-sum q m n = go (m % 2) (n % 2) refl refl (cases m) (cases n)
  where
    cases : (k : ℕ) → (k % 2 ≡ 0) ⊎ (k % 2 ≡ 1)
    cases k = grind arith

    go : (a b : ℕ) → m % 2 ≡ a → n % 2 ≡ b → (m % 2 ≡ 0) ⊎ (m % 2 ≡ 1) → (n % 2 ≡ 0) ⊎ (n % 2 ≡ 1)
        → IsCongruent (suc q) (sign q m * sign q n) (sign q (m + n))
    go a b _ _ (inl e) (inl f) = let g : (m + n) % 2 ≡ 0 = omega arith in
        rw (e, f, g) (to_congruent 0 0 (omega arith))
    go a b _ _ (inl e) (inr f) = let g : (m + n) % 2 ≡ 1 = omega arith in
        rw (e, f, g) (to_congruent 0 0 (omega arith))
    go a b _ _ (inr e) (inl f) = let g : (m + n) % 2 ≡ 1 = omega arith in
        rw (e, f, g) (to_congruent 0 0 (omega arith))
    go a b _ _ (inr e) (inr f) = let g : (m + n) % 2 ≡ 0 = omega arith in
        rw (e, f, g) (to_congruent 1 q (omega arith))

module _ (q : ℕ) (V : Type 0) (A : Algebra V) (In : ℕ → V → Type 0) (L : IsGradedCommutative q V A In) where
  at : {d d' e e' : ℕ} (x y : V) → d ≡ d' → e ≡ e' → A.mul d e x y ≡ A.mul d' e' x y
  at x y h k = ap₂ (λ d e. A.mul d e x y) h k

  in-at : {d d' : ℕ} (x : V) → d ≡ d' → In d x → In d' x
  in-at x h i = rw (← h) i

  pub power : Generator V → ℕ → V
  power g e = powers A 0 A.one g e

  pub powers-in : (j : ℕ) (a : V) (g : Generator V) (e : ℕ) → In j a
      → In (j + g.degree * e) (powers A j a g e)
  powers-in j a g zero i = in-at a (omega arith) i
  powers-in j a g (suc e) i = in-at _ (omega arith)
      (L.in-mul (j + g.degree * e) g.degree (powers A j a g e) g.class)

  power-in : (g : Generator V) (e : ℕ) → In (g.degree * e) (powers A 0 A.one g e)
  power-in g e = in-at _ (omega arith) (powers-in 0 A.one g e L.in-one)

  pub powers-mul : (j : ℕ) (a : V) (g : Generator V) (e : ℕ) → In j a
      → powers A j a g e ≡ A.mul j (g.degree * e) a (powers A 0 A.one g e)
  powers-mul j a g zero i = sym (L.mul-one j a i) ∙ at a A.one refl (omega arith)
  powers-mul j a g (suc e) i =
      ap (λ z. A.mul (j + g.degree * e) g.degree z g.class) (powers-mul j a g e i)
      ∙ L.mul-assoc j (g.degree * e) g.degree a (powers A 0 A.one g e) g.class
      ∙ at _ _ refl (omega arith)
      ∙ ap (A.mul j (g.degree * suc e) a) (at (powers A 0 A.one g e) g.class (omega arith) refl)

  pub powers-sum : (g : Generator V) (x y : ℕ)
      → powers A (g.degree * x) (powers A 0 A.one g x) g y ≡ powers A 0 A.one g (x + y)
  powers-sum g x zero = ap (powers A 0 A.one g) (omega arith)
  powers-sum g x (suc y) =
      ap (λ z. A.mul (g.degree * x + g.degree * y) g.degree z g.class) (powers-sum g x y)
      ∙ at _ _ (omega arith) refl ∙ ap (powers A 0 A.one g)
      (let e : suc (x + y) ≡ x + suc y = omega arith in e)

  pub power-mul : (g : Generator V) (x y : ℕ)
      → A.mul (g.degree * x) (g.degree * y) (powers A 0 A.one g x) (powers A 0 A.one g y) ≡ powers A 0 A.one g
      (x + y)
  power-mul g x y = sym (powers-mul (g.degree * x) (powers A 0 A.one g x) g y (power-in g x))
      ∙ powers-sum g x y

  -- the square of a generator of odd degree is 0 for odd p
  pub power-square : (g : Generator V) (e : ℕ) → is_exterior q g.degree ≡ true
      → powers A 0 A.one g (suc (suc e)) ≡ A.zero
  power-square g e h =
      at _ _ (let k : 0 + g.degree * suc e ≡ (0 + g.degree * e) + g.degree = omega arith in k) refl
      ∙ L.mul-assoc (0 + g.degree * e) g.degree g.degree (powers A 0 A.one g e) g.class g.class
      ∙ ap (A.mul (0 + g.degree * e) (g.degree + g.degree) (powers A 0 A.one g e))
      (L.mul-self g.degree g.class h)
      ∙ mul-zero q V A In L _ _ _

  pub from-in : (j : ℕ) (a : V) (gs : List (Generator V)) (m : List ℕ) → In j a
      → In (j + degree (degrees gs) m) (evaluate_from A j a gs m)
  from-in j a [] m i = in-at a (omega arith) i
  from-in j a (g ∷ gs) [] i = in-at a (omega arith) i
  from-in j a (g ∷ gs) (e ∷ m) i =
      in-at _ (omega arith) (from-in (j + g.degree * e) (powers A j a g e) gs m (powers-in j a g e i))

  pub evaluate-in : (gs : List (Generator V)) (m : List ℕ) → In (degree (degrees gs) m) (evaluate A gs m)
  evaluate-in gs m = in-at _ (omega arith) (from-in 0 A.one gs m L.in-one)

  pub from-mul : (j : ℕ) (a : V) (gs : List (Generator V)) (m : List ℕ) → In j a
      → evaluate_from A j a gs m ≡ A.mul j (degree (degrees gs) m) a (evaluate A gs m)
  from-mul j a [] m i = sym (L.mul-one j a i)
  from-mul j a (g ∷ gs) [] i = sym (L.mul-one j a i)
  from-mul j a (g ∷ gs) (e ∷ m) i =
      from-mul (j + g.degree * e) (powers A j a g e) gs m (powers-in j a g e i)
      ∙ ap (λ z. A.mul (j + g.degree * e) D z (evaluate A gs m)) (powers-mul j a g e i)
      ∙ L.mul-assoc j (g.degree * e) D a (powers A 0 A.one g e) (evaluate A gs m)
      ∙ ap (A.mul j (g.degree * e + D) a)
      (at _ _ (let k : g.degree * e ≡ 0 + g.degree * e = omega arith in k) refl
      ∙ sym (from-mul (0 + g.degree * e) (powers A 0 A.one g e) gs m (powers-in 0 A.one g e L.in-one)))
    where
      D : ℕ
      D = degree (degrees gs) m

  pub evaluate-cons : (g : Generator V) (gs : List (Generator V)) (e : ℕ) (m : List ℕ)
      → evaluate A (g ∷ gs) (e ∷ m) ≡ A.mul (g.degree * e) (degree (degrees gs) m) (powers A 0 A.one g e)
      (evaluate A gs m)
  evaluate-cons g gs e m =
      from-mul (0 + g.degree * e) (powers A 0 A.one g e) gs m (powers-in 0 A.one g e L.in-one)
      ∙ at _ _ (omega arith) refl

  signs : (m n : ℕ) (x : V) → times A (sign q m) (times A (sign q n) x) ≡ times A (sign q (m + n)) x
  signs m n x = times-times q V A L.space (sign q m) (sign q n) x
      ∙ times-congruent q V A L.space x (sign-sum q m n)

  -- (P a) (Q b) = s (P Q) (a b), where Q goes past a
  middle : (x a y b : ℕ) (P E Q F : V)
      → A.mul (x + a) (y + b) (A.mul x a P E) (A.mul y b Q F)
      ≡ times A (sign q (a * y)) (A.mul (x + y) (a + b) (A.mul x y P Q) (A.mul a b E F))
  middle x a y b P E Q F =
      L.mul-assoc x a (y + b) P E (A.mul y b Q F)
      ∙ ap (A.mul x (a + (y + b)) P)
      (sym (L.mul-assoc a y b E Q F) ∙ ap (λ z. A.mul (a + y) b z F) (L.mul-comm a y E Q)
      ∙ times-mul q V A In L (a + y) b (sign q (a * y)) (A.mul y a Q E) F
      ∙ ap (times A (sign q (a * y))) (at _ _ (omega arith) refl ∙ L.mul-assoc y a b Q E F))
      ∙ mul-times q V A In L x (a + (y + b)) (sign q (a * y)) P (A.mul y (a + b) Q (A.mul a b E F))
      ∙ ap (times A (sign q (a * y))) (at _ _ refl (omega arith)
      ∙ sym (L.mul-assoc x y (a + b) P Q (A.mul a b E F)))

  pub evaluate-mul : (gs : List (Generator V)) (a b : List ℕ)
      → A.mul (degree (degrees gs) a) (degree (degrees gs) b) (evaluate A gs a) (evaluate A gs b)
      ≡ times A (sign q (swaps (degrees gs) a b)) (evaluate A gs (joined a b))
  evaluate-mul [] a b = L.mul-one 0 A.one L.in-one ∙ sym (times-one q V A L.space A.one)
  evaluate-mul (g ∷ gs) [] b = L.one-mul _ _ (evaluate-in (g ∷ gs) b) ∙ sym (times-one q V A L.space _)
  evaluate-mul (g ∷ gs) (x ∷ a) [] = L.mul-one _ _ (evaluate-in (g ∷ gs) (x ∷ a))
      ∙ sym (times-one q V A L.space _)
  evaluate-mul (g ∷ gs) (x ∷ a) (y ∷ b) =
      ap₂ (A.mul (g.degree * x + D a) (g.degree * y + D b)) (evaluate-cons g gs x a) (evaluate-cons g gs y b)
      ∙ middle (g.degree * x) (D a) (g.degree * y) (D b) (powers A 0 A.one g x) (evaluate A gs a)
      (powers A 0 A.one g y) (evaluate A gs b)
      ∙ ap (times A (sign q (D a * (g.degree * y))))
      (ap₂ (A.mul (g.degree * x + g.degree * y) (D a + D b)) (power-mul g x y) (evaluate-mul gs a b)
      ∙ mul-times q V A In L _ _ (sign q (swaps (degrees gs) a b)) _ _
      ∙ ap (times A (sign q (swaps (degrees gs) a b)))
      (at _ _ (omega arith) (sym (degree-joined (degrees gs) a b))
      ∙ sym (evaluate-cons g gs (x + y) (joined a b))))
      ∙ signs (D a * (g.degree * y)) (swaps (degrees gs) a b) _
    where
      D : List ℕ → ℕ
      D m = degree (degrees gs) m

  -- a monomial that does not fit evaluates to 0
  pub evaluate-unfit : (gs : List (Generator V)) (m : List ℕ) → fits q (degrees gs) m ≡ false
      → evaluate A gs m ≡ A.zero
  evaluate-unfit [] m h = absurd (true-false h)
    where
      true-false : true ≡ false → ⊥
      true-false e = cc
  evaluate-unfit (g ∷ gs) [] h = absurd (true-false h)
    where
      true-false : true ≡ false → ⊥
      true-false e = cc
  evaluate-unfit (g ∷ gs) (e ∷ m) h = evaluate-cons g gs e m
      ∙ go (cases_Bool (fits q (degrees gs) m)) (evaluate-unfit gs m) e h
      (cases_Bool (is_exterior q g.degree))
    where
      go : (fits q (degrees gs) m ≡ true) ⊎ (fits q (degrees gs) m ≡ false)
          → (fits q (degrees gs) m ≡ false → evaluate A gs m ≡ A.zero)
          → (e : ℕ) → ((not (is_exterior q g.degree) || leb e 1) && fits q (degrees gs) m) ≡ false
          → (is_exterior q g.degree ≡ true) ⊎ (is_exterior q g.degree ≡ false)
          → A.mul (g.degree * e) (degree (degrees gs) m) (powers A 0 A.one g e) (evaluate A gs m) ≡ A.zero
      go (inr f) ih e h o = ap (A.mul (g.degree * e) (degree (degrees gs) m) (powers A 0 A.one g e)) (ih f)
          ∙ mul-zero q V A In L _ _ _
      go (inl f) ih (suc (suc e)) h (inl x) =
          ap (λ z. A.mul (g.degree * suc (suc e)) (degree (degrees gs) m) z (evaluate A gs m))
          (power-square g e x) ∙ zero-mul q V A In L _ _ _
      go (inl f) ih zero h (inl x) = absurd (let k : true ≡ false = sym f ∙ (rw x at h) in cc k)
      go (inl f) ih (suc zero) h (inl x) = absurd (let k : true ≡ false = sym f ∙ (rw x at h) in cc k)
      go (inl f) ih e h (inr x) = absurd (let k : true ≡ false = sym f ∙ (rw x at h) in cc k)
