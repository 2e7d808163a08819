-- Monomials by their exponents.
use Rattle.std.proofs.Common.{◌≡◌, ℕ, zero, suc, ◌+◌, ◌<◌, List, [], ◌∷◌, ◌⊎◌, inl, inr, arith, ap, ap₂, sym}
use Rattle.std.proofs.Common.{◌∙◌, refl}
use Rattle.std.proofs.lemmas.Bool.{cases_order}
use Rattle.graded_polynomials.specs.Monomials.{exponent, joined, IsTrimmed, IsGreater}

pub exponent-joined : (a b : List ℕ) (i : ℕ) → exponent (joined a b) i ≡ exponent a i + exponent b i
exponent-joined [] b i = omega arith
exponent-joined (x ∷ a) [] i = omega arith
exponent-joined (x ∷ a) (y ∷ b) zero = refl
exponent-joined (x ∷ a) (y ∷ b) (suc i) = exponent-joined a b i

all-zero : (b : List ℕ) → IsTrimmed b → ((i : ℕ) → exponent b i ≡ 0) → b ≡ []
all-zero [] t h = refl
all-zero (y ∷ b) t h = absurd (t.0 (all-zero b t.1 (λ i. h (suc i))) (h 0))

pub same-exponents : (a b : List ℕ) → IsTrimmed a → IsTrimmed b → ((i : ℕ) → exponent a i ≡ exponent b i)
    → a ≡ b
same-exponents [] b t u h = sym (all-zero b u (λ i. sym (h i)))
same-exponents (x ∷ a) [] t u h = all-zero (x ∷ a) t h
same-exponents (x ∷ a) (y ∷ b) t u h = ap₂ (λ x a. x ∷ a) (h 0) (same-exponents a b t.1 u.1 (λ i. h (suc i)))

pub joined-cancel : (a m n : List ℕ) → IsTrimmed m → IsTrimmed n → joined a m ≡ joined a n → m ≡ n
joined-cancel a m n t u e =
    same-exponents m n t u
    (λ i. let h : exponent (joined a m) i ≡ exponent (joined a n) i = ap (λ l. exponent l i) e in omega
    (arith, h, exponent-joined a m i, exponent-joined a n i))

pub joined-greater : (a m n : List ℕ) → IsGreater (joined a m) (joined a n) → IsGreater m n
joined-greater a m n g = record {
  at = g.at;
  more = omega (arith, g.more, exponent-joined a m g.at, exponent-joined a n g.at);
  before = λ i l. omega (arith, g.before i l, exponent-joined a m i, exponent-joined a n i);
}

-- the order is total
above-empty : (b : List ℕ) → IsTrimmed b → (b ≡ []) ⊎ IsGreater b []
above-empty [] t = inl refl
above-empty (suc y ∷ b) t = inr record { at = 0; more = omega arith; before = λ i l. absurd (omega arith) }
above-empty (zero ∷ b) t = go (above-empty b t.1)
  where
    go : (b ≡ []) ⊎ IsGreater b [] → ((0 ∷ b) ≡ []) ⊎ IsGreater (0 ∷ b) []
    go (inl e) = absurd (t.0 e refl)
    go (inr g) = inr record { at = suc g.at; more = g.more; before = before }
      where
        before : (i : ℕ) → i < suc g.at → exponent (0 ∷ b) i ≡ exponent [] i
        before zero l = refl
        before (suc i) l = g.before i (omega arith)

pub cases-greater : (a b : List ℕ) → IsTrimmed a → IsTrimmed b → (a ≡ b) ⊎ IsGreater a b ⊎ IsGreater b a
cases-greater [] b t u = go (above-empty b u)
  where
    go : (b ≡ []) ⊎ IsGreater b [] → ([] ≡ b) ⊎ IsGreater [] b ⊎ IsGreater b []
    go (inl e) = inl (sym e)
    go (inr g) = inr (inr g)
cases-greater (x ∷ a) [] t u = go (above-empty (x ∷ a) t)
  where
    go : ((x ∷ a) ≡ []) ⊎ IsGreater (x ∷ a) [] → ((x ∷ a) ≡ []) ⊎ IsGreater (x ∷ a) [] ⊎ IsGreater [] (x ∷ a)
    go (inl e) = inl e
    go (inr g) = inr (inl g)
cases-greater (x ∷ a) (y ∷ b) t u = go (cases_order x y) (cases-greater a b t.1 u.1)
  where
    deeper : (x y : ℕ) (a b : List ℕ) → x ≡ y → IsGreater a b → IsGreater (x ∷ a) (y ∷ b)
    deeper x y a b e g = record { at = suc g.at; more = g.more; before = before }
      where
        before : (i : ℕ) → i < suc g.at → exponent (x ∷ a) i ≡ exponent (y ∷ b) i
        before zero l = e
        before (suc i) l = g.before i (omega arith)

    go : (x ≡ y) ⊎ ((x < y) ⊎ (y < x)) → (a ≡ b) ⊎ IsGreater a b ⊎ IsGreater b a → ((x ∷ a) ≡ (y ∷ b))
        ⊎ IsGreater (x ∷ a) (y ∷ b) ⊎ IsGreater (y ∷ b) (x ∷ a)
    go (inl e) (inl f) = inl (ap₂ (λ x a. x ∷ a) e f)
    go (inl e) (inr (inl g)) = inr (inl (deeper x y a b e g))
    go (inl e) (inr (inr g)) = inr (inr (deeper y x b a (sym e) g))
    go (inr (inl l)) o = inr (inr record { at = 0; more = l; before = λ i b. absurd (omega arith) })
    go (inr (inr l)) o = inr (inl record { at = 0; more = l; before = λ i b. absurd (omega arith) })

pub greater-trans : (a b c : List ℕ) → IsGreater a b → IsGreater b c → IsGreater a c
greater-trans a b c g h = go (cases_order g.at h.at)
  where
    go : (g.at ≡ h.at) ⊎ ((g.at < h.at) ⊎ (h.at < g.at)) → IsGreater a c
    go (inl e) = record {
      at = g.at;
      more = (let k : exponent c g.at < exponent b g.at = rw e h.more in omega (arith, k, g.more));
      before = λ i l. g.before i l ∙ h.before i (omega (arith, e, l));
    }
    go (inr (inl l)) = record {
      at = g.at;
      more = omega (arith, g.more, h.before g.at l);
      before = λ i b. g.before i b ∙ h.before i (omega (arith, b, l));
    }
    go (inr (inr l)) = record {
      at = h.at;
      more = omega (arith, h.more, g.before h.at l);
      before = λ i b. g.before i (omega (arith, b, l)) ∙ h.before i b;
    }
