-- A one to one map of the numbers below n into themselves reaches each of them.
use Rattle.std.proofs.Common.{◌≡◌, ℕ, zero, suc, refl, sym, ◌∙◌, ap, ◌<◌, ◌≤◌, arith, Bool, true, false, eqb}
use Rattle.std.proofs.Common.{cond, ◌⊎◌, inl, inr, eqb-true}
use Rattle.std.proofs.lemmas.Bool.{eqb-false}
use Rattle.std.proofs.lemmas.Bool.Decides.{eqb_tells}

abbrev pub Into : (ℕ → ℕ) → ℕ → ℕ → Type 0
Into f n m = (i : ℕ) → i < n → f i < m

abbrev pub OneToOne : (ℕ → ℕ) → ℕ → Type 0
OneToOne f n = (i j : ℕ) → i < n → j < n → f i ≡ f j → i ≡ j

-- f, with y in place of m
abbrev pub avoid : (ℕ → ℕ) → ℕ → ℕ → ℕ → ℕ
avoid f m y i = cond (eqb (f i) m) y (f i)

avoided : (f : ℕ → ℕ) (m y i : ℕ) → ((f i ≡ m) × (avoid f m y i ≡ y))
    ⊎ ((f i ≡ m → ⊥) × (avoid f m y i ≡ f i))
avoided f m y i = go (eqb (f i) m) refl
  where
    go : (b : Bool) → eqb (f i) m ≡ b → ((f i ≡ m) × (cond b y (f i) ≡ y))
        ⊎ ((f i ≡ m → ⊥) × (cond b y (f i) ≡ f i))
    go true e = inl (eqb-true (f i) m e, refl)
    go false e = inr (eqb-false (f i) m e, refl)

-- if y is no value of f, and f is one to one, then so is f with y in place of m
pub avoid-into : (f : ℕ → ℕ) (n m y : ℕ) → Into f n (suc m) → y < suc m
    → (y ≡ m → (i : ℕ) → i < n → f i ≡ m → ⊥) → Into (avoid f m y) n m
avoid-into f n m y into l h i p = go (avoided f m y i)
  where
    go : ((f i ≡ m) × (avoid f m y i ≡ y)) ⊎ ((f i ≡ m → ⊥) × (avoid f m y i ≡ f i)) → avoid f m y i < m
    go (inl a) = let ne : y ≡ m → ⊥ = λ e. h e i p a.0 in omega (arith, ne, l, a.1)
    go (inr a) = let b : f i < suc m = into i p in omega (arith, b, a.0, a.1)

pub avoid-one : (f : ℕ → ℕ) (n m y : ℕ) → OneToOne f n → ((i : ℕ) → i < n → f i ≡ y → ⊥)
    → OneToOne (avoid f m y) n
avoid-one f n m y one out i j p q e = go (avoided f m y i) (avoided f m y j)
  where
    go : ((f i ≡ m) × (avoid f m y i ≡ y)) ⊎ ((f i ≡ m → ⊥) × (avoid f m y i ≡ f i))
        → ((f j ≡ m) × (avoid f m y j ≡ y)) ⊎ ((f j ≡ m → ⊥) × (avoid f m y j ≡ f j)) → i ≡ j
    go (inl a) (inl b) = one i j p q (a.0 ∙ sym b.0)
    go (inl a) (inr b) = absurd (out j q (sym b.1 ∙ sym e ∙ a.1))
    go (inr a) (inl b) = absurd (out i p (sym a.1 ∙ e ∙ b.1))
    go (inr a) (inr b) = one i j p q (sym a.1 ∙ e ∙ b.1)

-- a one to one map goes into no fewer numbers
pub pigeonhole : (n m : ℕ) (f : ℕ → ℕ) → Into f n m → OneToOne f n → n ≤ m
pigeonhole zero m f into one = omega arith
pigeonhole (suc n) zero f into one = absurd (let h : f n < 0 = into n (omega arith) in omega (arith, h))
pigeonhole (suc n) (suc m) f into one =
    let fresh : (i : ℕ) → i < n → f i ≡ f n → ⊥ = λ i p e. let z : i ≡ n =
    one i n (omega (arith, p)) (omega arith) e in omega (arith, p, z) in
    let h : n ≤ m =
    pigeonhole n m (avoid f m (f n))
    (avoid-into f n m (f n) (λ i p. into i (omega (arith, p))) (into n (omega arith))
    (λ e i p k. fresh i p (k ∙ sym e)))
    (avoid-one f n m (f n) (λ i j p q e. one i j (omega (arith, p)) (omega (arith, q)) e) fresh) in
    omega (arith, h)

-- x is a value of f at some number below k, or at none
found : (f : ℕ → ℕ) (x k : ℕ) → ((i : ℕ) × (i < k) × (f i ≡ x)) ⊎ ((i : ℕ) → i < k → f i ≡ x → ⊥)
found f x zero = inr (λ i p e. absurd (omega (arith, p)))
found f x (suc k) = go (found f x k) (eqb_tells (f k) x)
  where
    go : ((i : ℕ) × (i < k) × (f i ≡ x)) ⊎ ((i : ℕ) → i < k → f i ≡ x → ⊥)
        → ((eqb (f k) x ≡ true) × (f k ≡ x)) ⊎ ((eqb (f k) x ≡ false) × (f k ≡ x → ⊥))
        → ((i : ℕ) × (i < suc k) × (f i ≡ x)) ⊎ ((i : ℕ) → i < suc k → f i ≡ x → ⊥)
    go (inl h) t = let l : h.0 < k = h.1 in inl (h.0, omega (arith, l), h.2)
    go (inr out) (inl t) = inl (k, omega arith, t.1)
    go (inr out) (inr t) = inr (λ i p e. last i p e (eqb_tells i k))
      where
        last : (i : ℕ) → i < suc k → f i ≡ x → ((eqb i k ≡ true) × (i ≡ k))
            ⊎ ((eqb i k ≡ false) × (i ≡ k → ⊥)) → ⊥
        last i p e (inl h) = t.1 (ap f (sym h.1) ∙ e)
        last i p e (inr h) = let ne = h.1 in out i (omega (arith, p, ne)) e

pub preimage : (n : ℕ) (f : ℕ → ℕ) → Into f n n → OneToOne f n → (x : ℕ) → x < n → (i : ℕ) × (i < n)
    × (f i ≡ x)
preimage n f into one x p = go n refl (found f x n)
  where
    go : (k : ℕ) → n ≡ k → ((i : ℕ) × (i < n) × (f i ≡ x)) ⊎ ((i : ℕ) → i < n → f i ≡ x → ⊥) → (i : ℕ)
        × (i < n) × (f i ≡ x)
    go k e (inl h) = h
    go zero e (inr out) = absurd (omega (arith, p, e))
    go (suc m) e (inr out) =
        let c : n ≤ m =
        pigeonhole n m (avoid f m x)
        (avoid-into f n m x (λ i q. let l : f i < n = into i q in omega (arith, l, e)) (omega (arith, p, e))
        (λ k i q z. out i q (z ∙ sym k)))
        (avoid-one f n m x one out) in
        absurd (omega (arith, c, e))
