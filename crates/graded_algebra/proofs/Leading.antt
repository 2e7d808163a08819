-- Leading places: members of a space, read at places below n modulo p.
use Rattle.std.proofs.Common.{◌≡◌, ◌≢◌, ℕ, zero, suc, ◌+◌, ◌*◌, ◌%◌, ◌<◌, ◌⊎◌, inl, inr, arith, sym, ◌∙◌}
use Rattle.std.proofs.lemmas.Bool.{cases_eq}
use Rattle.std.proofs.Math.Nat.{zero-mod}
use Rattle.linear_algebra.specs.Modular.{IsCongruent, IsFieldModulo}
use Rattle.linear_algebra.proofs.Congruences.{congruent_trans, congruent_eq, congruent_add, congruent_refl}
use Rattle.linear_algebra.proofs.Congruences.{congruent_mul_left, to_congruent}

pub zero-or-not : (q a : ℕ) → IsCongruent (suc q) a 0 ⊎ (a % suc q ≢ 0)
zero-or-not q a = go (cases_eq (a % suc q) 0)
  where
    go : (a % suc q ≡ 0) ⊎ (a % suc q ≡ 0 → ⊥) → IsCongruent (suc q) a 0 ⊎ (a % suc q ≢ 0)
    go (inl e) = inl (record { same_remainder = e ∙ sym (zero-mod (suc q)) })
    go (inr e) = inr e

pub not-zero : {q a : ℕ} → IsCongruent (suc q) a 0 → a % suc q ≢ 0 → ⊥
not-zero {q} h n = n (h.same_remainder ∙ zero-mod (suc q))

-- a - (a / b) b = 0
pub cleared : (q a b i : ℕ) → IsCongruent (suc q) (b * i) 1 → IsCongruent (suc q) (a + (q * (i * a)) * b) 0
cleared q a b i h =
    congruent_trans (congruent_eq (let e : a + (q * (i * a)) * b ≡ a + (q * a) * (b * i) = omega arith in e))
    (congruent_trans (congruent_add (congruent_refl a) (congruent_mul_left (q * a) h))
    (to_congruent 0 a (omega arith)))

module _ (q n : ℕ) (F : Type 0) (co : F → ℕ → ℕ) where
  -- i is the first place at which a member of S is not 0
  pub record LeadsAt (S : F → Type 0) (i : ℕ) : Type 0 where
    pub member : F
    pub is_member : S member
    pub here : co member i % suc q ≢ 0
    pub before : (j : ℕ) → j < i → IsCongruent (suc q) (co member j) 0

  -- a member that is 0 wherever the space leads before m is 0 before m
  pub vanishes-below : (S : F → Type 0) (f : F) → S f → (m : ℕ)
      → ((k : ℕ) → k < m → IsCongruent (suc q) (co f k) 0 ⊎ (LeadsAt S k → ⊥))
      → (k : ℕ) → k < m → IsCongruent (suc q) (co f k) 0
  vanishes-below S f s zero h k b = absurd (omega arith)
  vanishes-below S f s (suc m) h k b = go (vanishes-below S f s m (λ j l. h j (omega arith))) (cases_eq k m)
      (h m (omega arith)) (zero-or-not q (co f m))
    where
      go : ((k : ℕ) → k < m → IsCongruent (suc q) (co f k) 0) → (k ≡ m) ⊎ (k ≡ m → ⊥)
          → IsCongruent (suc q) (co f m) 0 ⊎ (LeadsAt S m → ⊥) → IsCongruent (suc q) (co f m) 0
          ⊎ (co f m % suc q ≢ 0) → IsCongruent (suc q) (co f k) 0
      go ih (inr d) o z = ih k (omega arith)
      go ih (inl e) (inl o) z = rw e o
      go ih (inl e) (inr o) (inl z) = rw e z
      go ih (inl e) (inr o) (inr z) = absurd (o record { member = f; is_member = s; here = z; before = ih })

module _ (q n : ℕ) (F : Type 0) (co : F → ℕ → ℕ) (field : IsFieldModulo (suc q)) (plus : F → ℕ → F → F)
    (co-plus : (f g : F) (c k : ℕ) → IsCongruent (suc q) (co (plus f c g) k) (co f k + c * co g k))
    (I G : F → Type 0)
    (I-plus : (f g : F) (c : ℕ) → I f → I g → I (plus f c g))
    (G-back : (f g : F) (c : ℕ) → G (plus f c g) → G g → G f)
    (G-zero : (f : F) → I f → ((k : ℕ) → k < n → IsCongruent (suc q) (co f k) 0) → G f)
    (status : (k : ℕ) → k < n → (LeadsAt q n F co I k → ⊥) ⊎ LeadsAt q n F co (λ f. I f × G f) k) where
  from-place : (k i : ℕ) → i + k ≡ n → (f : F) → I f → ((j : ℕ) → j < i → IsCongruent (suc q) (co f j) 0)
      → G f
  from-place zero i e f m b = G-zero f m (λ j l. b j (omega arith))
  from-place (suc k) i e f m b = go (from-place k (suc i) (omega arith)) (zero-or-not q (co f i))
      (status i (omega arith))
    where
      next : (f : F) → ((j : ℕ) → j < i → IsCongruent (suc q) (co f j) 0) → IsCongruent (suc q) (co f i) 0
          → (j : ℕ) → j < suc i → IsCongruent (suc q) (co f j) 0
      next f b z j l = pick (cases_eq j i)
        where
          pick : (j ≡ i) ⊎ (j ≡ i → ⊥) → IsCongruent (suc q) (co f j) 0
          pick (inl e) = rw e z
          pick (inr d) = b j (omega arith)

      go : ((f : F) → I f → ((j : ℕ) → j < suc i → IsCongruent (suc q) (co f j) 0) → G f)
          → IsCongruent (suc q) (co f i) 0 ⊎ (co f i % suc q ≢ 0)
          → (LeadsAt q n F co I i → ⊥) ⊎ LeadsAt q n F co (λ f. I f × G f) i → G f
      go ih (inl z) s = ih f m (next f b z)
      go ih (inr z) (inl s) = absurd (s record { member = f; is_member = m; here = z; before = b })
      go ih (inr z) (inr s) =
          G-back f s.member c
          (ih (plus f c s.member) (I-plus f s.member c m s.is_member.0)
          (next (plus f c s.member)
          (λ j l. congruent_trans (co-plus f s.member c j)
          (congruent_trans (congruent_add (b j l) (congruent_mul_left c (s.before j l)))
          (congruent_eq (omega arith))))
          (congruent_trans (co-plus f s.member c i)
          (cleared q (co f i) (co s.member i) inverse.0 inverse.1))))
          s.is_member.1
        where
          inverse : (b : ℕ) × IsCongruent (suc q) (co s.member i * b) 1
          inverse = field.inverse (co s.member i) s.here

          c : ℕ
          c = q * (inverse.0 * co f i)

  pub generates : (f : F) → I f → G f
  generates f m = from-place n 0 (omega arith) f m (λ j l. absurd (omega arith))
