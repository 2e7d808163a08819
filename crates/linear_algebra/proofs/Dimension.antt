-- n + 1 vectors with n places are dependent, and what follows for the counts of independent lists.
use Rattle.std.proofs.Common.{◌≡◌, ◌≢◌, ℕ, zero, suc, ◌+◌, ◌*◌, ◌-◌, ◌%◌, ◌<◌, ◌⊎◌, inl, inr, ⊎_elim, arith}
use Rattle.std.proofs.Common.{ap, sym, ◌∙◌}
use Rattle.std.proofs.lemmas.Bool.{cases_eq}
use Rattle.std.proofs.Math.Nat.{zero-mod, mod-eq_of_lt}
use Rattle.linear_algebra.specs.Modular.{IsCongruent, IsFieldModulo, sum_below}
use Rattle.linear_algebra.proofs.Congruences.{congruent_refl, congruent_add, congruent_trans, congruent_eq}
use Rattle.linear_algebra.proofs.Congruences.{congruent_mul_left, congruent_minus}
use Rattle.linear_algebra.proofs.Sums.{sum_below-vanishes, sum_below-same, update, update_same, update_other}
use Rattle.linear_algebra.proofs.Sums.{sum_below-update}

-- a combination of the m rows that is 0 at the places below n, with a coefficient that is not 0
pub record Dependence (p m n : ℕ) (C : ℕ → ℕ → ℕ) : Type 0 where
  pub coefficients : ℕ → ℕ
  pub place : ℕ
  pub below : place < m
  pub nonzero : coefficients place % p ≢ 0
  pub vanishes : (j : ℕ) → j < n → IsCongruent p (sum_below m (λ i. coefficients i * C i j)) 0

-- a row with an entry that is not 0 modulo p at place n, or none
pub find_nonzero : (p m : ℕ) (f : ℕ → ℕ) → ((k : ℕ) × (k < m) × (f k % p ≢ 0))
    ⊎ ((k : ℕ) → k < m → IsCongruent p (f k) 0)
find_nonzero p zero f = inr (λ k l. absurd (omega arith))
find_nonzero p (suc m) f = go (cases_eq (f m % p) (0 % p)) (find_nonzero p m f)
  where
    zero_mod : (x : ℕ) → 0 % x ≡ 0
    zero_mod x = zero-mod x

    go : (f m % p ≡ 0 % p) ⊎ (f m % p ≡ 0 % p → ⊥) → ((k : ℕ) × (k < m) × (f k % p ≢ 0))
        ⊎ ((k : ℕ) → k < m → IsCongruent p (f k) 0) →
        ((k : ℕ) × (k < suc m) × (f k % p ≢ 0)) ⊎ ((k : ℕ) → k < suc m → IsCongruent p (f k) 0)
    go (inr ne) r = inl (m, omega arith, λ e. ne (e ∙ sym (zero_mod p)))
    go (inl e) (inl (k, l, n)) = inl (k, omega arith, n)
    go (inl e) (inr none) = inr (λ k l. ⊎_elim (λ (d : k ≡ m). rw d (record { same_remainder = e }))
        (λ (d : k ≡ m → ⊥). none k (omega arith)) (cases_eq k m))

-- the row that stands at i once row M has taken the place of row k
abbrev pub moved : ℕ → ℕ → ℕ → ℕ
moved k M = update k M (λ i. i)

-- row k's coefficient is x, the others are those of u over the moved rows
abbrev pub spread : ℕ → ℕ → ℕ → (ℕ → ℕ) → ℕ → ℕ
spread k M x u = update k x (update M (u k) u)

spread_same : (k M x : ℕ) (u : ℕ → ℕ) → spread k M x u k ≡ x
spread_same k M x u = update_same k x (update M (u k) u)

spread_last : (k M x : ℕ) (u : ℕ → ℕ) → k ≢ M → spread k M x u M ≡ u k
spread_last k M x u ne = update_other k x (update M (u k) u) M (λ e. ne (sym e)) ∙ update_same M (u k) u

spread_other : (k M x : ℕ) (u : ℕ → ℕ) (i : ℕ) → i ≢ k → i ≢ M → spread k M x u i ≡ u i
spread_other k M x u i n o = update_other k x (update M (u k) u) i n ∙ update_other M (u k) u i o

-- the sum over all M + 1 rows is row k's term and the sum over the moved rows
pub sum_below-spread : (M k x : ℕ) (u g : ℕ → ℕ) → k < suc M →
    sum_below (suc M) (λ i. spread k M x u i * g i) ≡ sum_below M (λ i. u i * g (moved k M i)) + x * g k
sum_below-spread M k x u g l = go (cases_eq k M)
  where
    term : k < M → (i : ℕ) → i < M → (i ≡ k) ⊎ (i ≡ k → ⊥)
        → spread k M x u i * g i ≡ update k (x * g k) (λ i. u i * g i) i
    term b i c (inl e) = rw e (ap (λ y. y * g k) (spread_same k M x u)
        ∙ sym (update_same k (x * g k) (λ i. u i * g i)))
    term b i c (inr ne) = ap (λ y. y * g i) (spread_other k M x u i ne (omega arith))
        ∙ sym (update_other k (x * g k) (λ i. u i * g i) i ne)

    moved_term : (i : ℕ) → (i ≡ k) ⊎ (i ≡ k → ⊥)
        → u i * g (moved k M i) ≡ update k (u k * g M) (λ i. u i * g i) i
    moved_term i (inl e) = rw e (ap (λ y. u k * g y) (update_same k M (λ i. i))
        ∙ sym (update_same k (u k * g M) (λ i. u i * g i)))
    moved_term i (inr ne) = ap (λ y. u i * g y) (update_other k M (λ i. i) i ne)
        ∙ sym (update_other k (u k * g M) (λ i. u i * g i) i ne)

    go : (k ≡ M) ⊎ (k ≡ M → ⊥) → sum_below (suc M) (λ i. spread k M x u i * g i) ≡ sum_below M
        (λ i. u i * g (moved k M i)) + x * g k
    go (inl e) = rw e (
        let one = sum_below-same M (λ i. spread M M x u i * g i) (λ i. u i * g i)
        (λ i b. ap (λ y. y * g i) (spread_other M M x u i (omega arith) (omega arith))) in
        let two = sum_below-same M (λ i. u i * g (moved M M i)) (λ i. u i * g i)
        (λ i b. ap (λ y. u i * g y) (update_other M M (λ i. i) i (omega arith))) in
        omega (arith, one, two, ap (λ y. y * g M) (spread_same M M x u)))
    go (inr ne) =
        let one = sum_below-same M (λ i. spread k M x u i * g i) (update k (x * g k) (λ i. u i * g i))
        (λ i b. term (omega arith) i b (cases_eq i k)) in
        let two = sum_below-same M (λ i. u i * g (moved k M i)) (update k (u k * g M) (λ i. u i * g i))
        (λ i b. moved_term i (cases_eq i k)) in
        omega (
          arith,
          one,
          two,
          ap (λ y. y * g M) (spread_last k M x u ne),
          sum_below-update M k (x * g k) (λ i. u i * g i) (omega arith),
          sum_below-update M k (u k * g M) (λ i. u i * g i) (omega arith),
        )

-- a combination of sums, taken apart
pub sum_below-apart : (m c : ℕ) (u f w : ℕ → ℕ) →
    sum_below m (λ i. u i * (f i + w i * c)) ≡ sum_below m (λ i. u i * f i) + sum_below m (λ i. u i * w i) * c
sum_below-apart zero c u f w = omega arith
sum_below-apart (suc m) c u f w = omega (arith, sum_below-apart m c u f w)

-- a row less the multiple of row k that makes it 0 at n
abbrev pub cleared_row : ℕ → ℕ → (ℕ → ℕ → ℕ) → ℕ → ℕ → ℕ → ℕ → ℕ → ℕ
cleared_row p b C k M n i j = C (moved k M i) j + (p - 1) * (b * C (moved k M i) n) * C k j

pub cleared_is_zero : (p b x y : ℕ) → 1 < p → IsCongruent p (x * b) 1
    → IsCongruent p (y + (p - 1) * (b * y) * x) 0
cleared_is_zero p b x y l h = congruent_trans (congruent_eq (omega arith))
    (congruent_trans (congruent_add (congruent_refl y) (congruent_mul_left ((p - 1) * y) h))
    (congruent_trans (congruent_eq (omega arith)) (congruent_minus y l)))

abbrev Step : ℕ → ℕ → Type 0
Step p n = (m : ℕ) (C : ℕ → ℕ → ℕ) → n < m → Dependence p m n C

dependent_some : {p : ℕ} → 1 < p → (n M : ℕ) (C : ℕ → ℕ → ℕ) (k b : ℕ) → k < suc M
    → IsCongruent p (C k n * b) 1 →
    Dependence p M n (cleared_row p b C k M n) → Dependence p (suc M) (suc n) C
dependent_some {p} h n M C k b l inv D = go (cases_eq D.place k)
  where
    w : ℕ → ℕ
    w i = (p - 1) * (b * C (moved k M i) n)

    x : ℕ
    x = sum_below M (λ i. D.coefficients i * w i)

    total : (j : ℕ) → sum_below (suc M) (λ i. spread k M x D.coefficients i * C i j) ≡ sum_below M
        (λ i. D.coefficients i * cleared_row p b C k M n i j)
    total j = sum_below-spread M k x D.coefficients (λ i. C i j) l
        ∙ sym (sum_below-apart M (C k j) D.coefficients (λ i. C (moved k M i) j) w)

    at : (j : ℕ) → (j ≡ n) ⊎ (j ≡ n → ⊥) → j < suc n
        → IsCongruent p (sum_below M (λ i. D.coefficients i * cleared_row p b C k M n i j)) 0
    at j (inl e) c = rw e (sum_below-vanishes p M (λ i. D.coefficients i * cleared_row p b C k M n i n)
        (λ i d. congruent_trans (congruent_mul_left (D.coefficients i)
        (cleared_is_zero p b (C k n) (C (moved k M i) n) h inv)) (congruent_eq (omega arith))))
    at j (inr ne) c = D.vanishes j (omega arith)

    go : (D.place ≡ k) ⊎ (D.place ≡ k → ⊥) → Dependence p (suc M) (suc n) C
    go (inl e) = record {
      coefficients = spread k M x D.coefficients;
      place = M;
      below = omega arith;
      nonzero = λ z. D.nonzero (rw e (ap (λ y. y % p)
          (sym (spread_last k M x D.coefficients (let d = D.below in omega arith))) ∙ z));
      vanishes = λ j c. congruent_trans (congruent_eq (total j)) (at j (cases_eq j n) c);
    }
    go (inr ne) = record {
      coefficients = spread k M x D.coefficients;
      place = D.place;
      below = let d = D.below in omega arith;
      nonzero = λ z. D.nonzero (ap (λ y. y % p)
          (sym (spread_other k M x D.coefficients D.place ne (let d = D.below in omega arith))) ∙ z);
      vanishes = λ j c. congruent_trans (congruent_eq (total j)) (at j (cases_eq j n) c);
    }

-- more rows than places are dependent
pub dependent : {p : ℕ} → IsFieldModulo p → (n m : ℕ) (C : ℕ → ℕ → ℕ) → n < m → Dependence p m n C
dependent F zero m C l = record {
  coefficients = λ i. 1;
  place = 0;
  below = l;
  nonzero = λ e. omega (arith, mod-eq_of_lt F.above_one);
  vanishes = λ j b. absurd (omega arith);
}
dependent {p} F (suc n) zero C l = absurd (omega arith)
dependent {p} F (suc n) (suc M) C l = go (dependent F n) (find_nonzero p (suc M) (λ i. C i n))
  where
    at : Dependence p (suc M) n C → ((k : ℕ) → k < suc M → IsCongruent p (C k n) 0)
        → (D : Dependence p (suc M) n C) → (j : ℕ) → j < suc n → (j ≡ n) ⊎ (j ≡ n → ⊥)
        → IsCongruent p (sum_below (suc M) (λ i. D.coefficients i * C i j)) 0
    at _ none D j b (inl e) = rw e (sum_below-vanishes p (suc M) (λ i. D.coefficients i * C i n)
        (λ i c. congruent_trans (congruent_mul_left (D.coefficients i) (none i c))
        (congruent_eq (omega arith))))
    at _ none D j b (inr ne) = D.vanishes j (omega arith)

    go : Step p n → ((k : ℕ) × (k < suc M) × (C k n % p ≢ 0))
        ⊎ ((k : ℕ) → k < suc M → IsCongruent p (C k n) 0) → Dependence p (suc M) (suc n) C
    go ih (inr none) = let D = ih (suc M) C (omega arith) in record {
      coefficients = D.coefficients;
      place = D.place;
      below = D.below;
      nonzero = D.nonzero;
      vanishes = λ j b. at D none D j b (cases_eq j n);
    }
    go ih (inl (k, b, ne)) = let i = F.inverse (C k n) ne in
        dependent_some F.above_one n M C k i.0 b i.1 (ih M (cleared_row p i.0 C k M n) (omega arith))
