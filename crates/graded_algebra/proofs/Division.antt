-- Standard monomials are closed under division.
use Rattle.std.proofs.Common.{◌≡◌, ◌≢◌, ℕ, suc, ◌+◌, ◌*◌, ◌%◌, List, [], ◌∷◌, true, false, cond, eqb, ◌⊎◌}
use Rattle.std.proofs.Common.{inl, inr, arith, ap, sym, ◌∙◌, refl}
use Rattle.std.proofs.lemmas.Bool.{cases_Bool}
use Rattle.linear_algebra.specs.Modular.{IsCongruent}
use Rattle.graded_polynomials.specs.Monomials.{IsMonomial, IsGreater, joined, fits, sign, swaps, same}
use Rattle.graded_polynomials.specs.Polynomials.{Term, coefficient, multiple, IsOver}
use Rattle.graded_algebra.specs.Algebras.{Algebra, Generator, degrees, evaluate, times, IsGradedCommutative}
use Rattle.graded_algebra.specs.Presentations.{IsLeading, IsRelation, IsStandard}
use Rattle.linear_algebra.proofs.Congruences.{congruent_eq, congruent_trans, congruent_mul_left}
use Rattle.linear_algebra.proofs.Congruences.{congruent_add, congruent_refl, congruent_sym, to_congruent}
use Rattle.std.proofs.Math.Nat.{zero-mod}
use Rattle.graded_algebra.proofs.Leading.{not-zero}
use Rattle.graded_polynomials.proofs.Terms.{cases-same, same-self}
use Rattle.graded_polynomials.proofs.Exponents.{joined-cancel, joined-greater}
use Rattle.graded_polynomials.proofs.Monomials.{over-multiple}
use Rattle.graded_algebra.proofs.Vectors.{times-zero, mul-zero}
use Rattle.graded_algebra.proofs.Values.{value-multiple}

-- the coefficient of a product with a monomial
pub coefficient-multiple : (q : ℕ) (ds : List ℕ) (d c : ℕ) (a : List ℕ) (f : List Term) → IsOver q ds d f
    → (m : List ℕ) → IsMonomial q ds d m → fits q ds (joined a m) ≡ true
    → coefficient (multiple q ds c a f) (joined a m) ≡ c * (sign q (swaps ds a m) * coefficient f m)
coefficient-multiple q ds d c a [] o m M h = omega arith
coefficient-multiple q ds d c a (t ∷ f) o m M h =
    go (coefficient-multiple q ds d c a f o.1 m M h) (cases-same t.monomial m)
  where
    s : ℕ
    s = sign q (swaps ds a m)

    go : coefficient (multiple q ds c a f) (joined a m) ≡ c * (s * coefficient f m)
        → ((same t.monomial m ≡ true) × (t.monomial ≡ m)) ⊎ ((same t.monomial m ≡ false) × (t.monomial ≢ m))
        → coefficient (multiple q ds c a (t ∷ f)) (joined a m) ≡ c *
        (s * (cond (same t.monomial m) t.scalar 0 + coefficient f m))
    go ih (inl e) = rw (e.1, h, same-self (joined a m), same-self m) (omega (arith, ih))
    go ih (inr e) = rw e.0 (pick (cases_Bool (fits q ds (joined a t.monomial)))
        (cases-same (joined a t.monomial) (joined a m)))
      where
        pick : (fits q ds (joined a t.monomial) ≡ true) ⊎ (fits q ds (joined a t.monomial) ≡ false)
            → ((same (joined a t.monomial) (joined a m) ≡ true) × (joined a t.monomial ≡ joined a m))
            ⊎ ((same (joined a t.monomial) (joined a m) ≡ false) × (joined a t.monomial ≢ joined a m))
            → coefficient (multiple q ds c a (t ∷ f)) (joined a m) ≡ c * (s * (0 + coefficient f m))
        pick (inr k) x = rw k (ih ∙ ap (λ n. c * (s * n)) (omega arith))
        pick (inl k) (inl x) = absurd (e.1 (joined-cancel a t.monomial m o.0.trimmed M.trimmed x.1))
        pick (inl k) (inr x) = rw (k, x.0)
            (let z : 0 + coefficient (multiple q ds c a f) (joined a m) ≡ coefficient (multiple q ds c a f)
            (joined a m) = omega arith in z ∙ ih ∙ ap (λ n. c * (s * n)) (omega arith))

-- what occurs in a product with a monomial is a product with it
pub multiple-occurs : (q : ℕ) (ds : List ℕ) (d c : ℕ) (a : List ℕ) (f : List Term) → IsOver q ds d f
    → (n : List ℕ)
    → ((m : List ℕ) × IsMonomial q ds d m × (fits q ds (joined a m) ≡ true) × (joined a m ≡ n))
    ⊎ (coefficient (multiple q ds c a f) n ≡ 0)
multiple-occurs q ds d c a [] o n = inr refl
multiple-occurs q ds d c a (t ∷ f) o n =
    go (multiple-occurs q ds d c a f o.1 n) (cases_Bool (fits q ds (joined a t.monomial)))
    (cases-same (joined a t.monomial) n)
  where
    go : ((m : List ℕ) × IsMonomial q ds d m × (fits q ds (joined a m) ≡ true) × (joined a m ≡ n))
        ⊎ (coefficient (multiple q ds c a f) n ≡ 0)
        → (fits q ds (joined a t.monomial) ≡ true) ⊎ (fits q ds (joined a t.monomial) ≡ false)
        → ((same (joined a t.monomial) n ≡ true) × (joined a t.monomial ≡ n))
        ⊎ ((same (joined a t.monomial) n ≡ false) × (joined a t.monomial ≢ n))
        → ((m : List ℕ) × IsMonomial q ds d m × (fits q ds (joined a m) ≡ true) × (joined a m ≡ n))
        ⊎ (coefficient (multiple q ds c a (t ∷ f)) n ≡ 0)
    go (inl m) h e = inl m
    go (inr z) (inr h) e = inr (rw h z)
    go (inr z) (inl h) (inl e) = inl (t.monomial, o.0, h, e.1)
    go (inr z) (inl h) (inr e) = inr (rw (h, e.0) (omega (arith, z)))

-- a sign is not 0
sign-times : (q n c : ℕ) → IsCongruent (suc q) (sign q n * c) 0 → IsCongruent (suc q) c 0
sign-times q n c h = go (cases_Bool (eqb (n % 2) 0))
  where
    go : (eqb (n % 2) 0 ≡ true) ⊎ (eqb (n % 2) 0 ≡ false) → IsCongruent (suc q) c 0
    go (inl e) = let k : IsCongruent (suc q) (1 * c) 0 = rw e at h in
        congruent_trans (congruent_eq (omega arith)) k
    go (inr e) = let k : IsCongruent (suc q) (q * c) 0 = rw e at h in
        congruent_trans (congruent_eq (let z : c ≡ c + 0 = omega arith in z))
        (congruent_trans (congruent_add (congruent_refl c) (congruent_sym k))
        (to_congruent 0 c (omega arith)))

module _ (q : ℕ) (V : Type 0) (A : Algebra V) (In : ℕ → V
    → Type 0) (L : IsGradedCommutative q V A In) (gs : List (Generator V)) where
  -- a multiple of a leading monomial leads
  pub leading-multiple : (e d : ℕ) (a m : List ℕ) → IsMonomial q (degrees gs) e a
      → IsMonomial q (degrees gs) d m → fits q (degrees gs) (joined a m) ≡ true
      → IsLeading q A (IsRelation q A gs d) m → IsLeading q A (IsRelation q A gs (e + d)) (joined a m)
  leading-multiple e d a m E M h l = record {
    member = multiple q (degrees gs) 1 a l.member;
    is_member = record {
      over = over-multiple q (degrees gs) e d (e + d) 1 a l.member E l.is_member.over refl;
      vanishes = value-multiple q V A In L gs 1 a e d l.member E.degree_is l.is_member.over
          ∙ ap (times A 1) (ap (A.mul e d (evaluate A gs a)) l.is_member.vanishes
          ∙ mul-zero q V A In L e d (evaluate A gs a)) ∙ times-zero q V A L.space 1;
    };
    here = λ z. not-zero (sign-times q (swaps (degrees gs) a m) (coefficient l.member m)
        (congruent_trans (congruent_eq (let k : sign q (swaps (degrees gs) a m) * coefficient l.member m ≡ 1 *
        (sign q (swaps (degrees gs) a m) * coefficient l.member m) = omega arith in k))
        (congruent_trans (congruent_eq (sym
        (coefficient-multiple q (degrees gs) d 1 a l.member l.is_member.over m M h))) (zero-from z))))
        l.here;
    above = λ n g. above n g (multiple-occurs q (degrees gs) d 1 a l.member l.is_member.over n);
  }
    where
      zero-from : {x : ℕ} → x % suc q ≡ 0 → IsCongruent (suc q) x 0
      zero-from {x} z = record { same_remainder = z ∙ sym (zero-mod (suc q)) }

      above : (n : List ℕ) → IsGreater n (joined a m)
          → ((k : List ℕ) × IsMonomial q (degrees gs) d k × (fits q (degrees gs) (joined a k) ≡ true)
          × (joined a k ≡ n)) ⊎ (coefficient (multiple q (degrees gs) 1 a l.member) n ≡ 0)
          → IsCongruent (suc q) (coefficient (multiple q (degrees gs) 1 a l.member) n) 0
      above n g (inr z) = congruent_eq z
      above n g (inl k) =
          rw (sym k.3)
          (congruent_trans (congruent_eq
          (coefficient-multiple q (degrees gs) d 1 a l.member l.is_member.over k.0 k.1 k.2))
          (congruent_trans (congruent_mul_left 1
          (congruent_mul_left (sign q (swaps (degrees gs) a k.0))
          (l.above k.0 (joined-greater a k.0 m (rw (sym k.3) at g)))))
          (congruent_eq (omega arith))))

  -- a quotient of a standard monomial is standard
  pub standard-quotient : (e d : ℕ) (a m : List ℕ) → IsMonomial q (degrees gs) e a
      → IsMonomial q (degrees gs) d m → fits q (degrees gs) (joined a m) ≡ true
      → IsStandard q A gs (e + d) (joined a m) → IsStandard q A gs d m
  standard-quotient e d a m E M h s l = s (leading-multiple e d a m E M h l)
