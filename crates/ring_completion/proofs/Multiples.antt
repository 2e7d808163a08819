-- Multiples of polynomials by a monomial, and the ideal.
use Rattle.std.proofs.Common.{◌≡◌, ℕ, suc, ◌+◌, ◌*◌, ◌%◌, List, [], ◌∷◌, ◌++◌, true, false, eqb, ◌⊎◌, inl}
use Rattle.std.proofs.Common.{inr, arith, ap, sym, ◌∙◌, refl}
use Rattle.std.proofs.lemmas.Bool.{cases_Bool}
use Rattle.std.proofs.Math.Nat.{zero-mod}
use Rattle.std.specs.List.{AllByRecursion as Each}
use Rattle.linear_algebra.specs.Modular.{IsCongruent}
use Rattle.linear_algebra.proofs.Congruences.{congruent_eq, congruent_trans, congruent_mul_left}
use Rattle.linear_algebra.proofs.Congruences.{congruent_sym, congruent_add, congruent_refl, to_congruent}
use Rattle.graded_polynomials.specs.Monomials.{IsMonomial, IsGreater, joined, fits, sign, swaps}
use Rattle.graded_polynomials.specs.Polynomials.{Term, Polynomial, Multiple, coefficient, multiple, total}
use Rattle.graded_polynomials.specs.Polynomials.{IsOver, IsSame, IsOneOf, IsMultiple, IsInIdeal}
use Rattle.graded_polynomials.proofs.Exponents.{joined-greater}
use Rattle.graded_polynomials.proofs.Monomials.{monomial-joined, over-total}
use Rattle.graded_polynomials.proofs.Terms.{false≢true, coefficient-append}
use Rattle.graded_algebra.specs.Algebras.{Algebra}
use Rattle.graded_algebra.specs.Presentations.{IsLeading}
use Rattle.graded_algebra.proofs.Leading.{not-zero}
use Rattle.graded_algebra.proofs.Division.{coefficient-multiple, multiple-occurs}
use Rattle.graded_algebra.proofs.Ideals.{ideal-same, ideal-zero, ideal-append}
use Rattle.ring_completion.proofs.Joins.{fits-left, multiple-assoc}

pub multiple-append : (q : ℕ) (ds : List ℕ) (c : ℕ) (m : List ℕ) (f g : List Term)
    → multiple q ds c m (f ++ g) ≡ multiple q ds c m f ++ multiple q ds c m g
multiple-append q ds c m [] g = refl
multiple-append q ds c m (t ∷ f) g =
    go (cases_Bool (fits q ds (joined m t.monomial))) (multiple-append q ds c m f g)
  where
    go : (fits q ds (joined m t.monomial) ≡ true) ⊎ (fits q ds (joined m t.monomial) ≡ false)
        → multiple q ds c m (f ++ g) ≡ multiple q ds c m f ++ multiple q ds c m g
        → multiple q ds c m ((t ∷ f) ++ g) ≡ multiple q ds c m (t ∷ f) ++ multiple q ds c m g
    go (inl e) r = rw e
        (ap (λ ts. record {
          scalar = c * (sign q (swaps ds m t.monomial) * t.scalar);
          monomial =
              joined m t.monomial;
        } ∷ ts) r)
    go (inr e) r = rw e r

pub multiple-unfit : (q : ℕ) (ds : List ℕ) (c : ℕ) (a : List ℕ) (f : List Term) → fits q ds a ≡ false
    → multiple q ds c a f ≡ []
multiple-unfit q ds c a [] h = refl
multiple-unfit q ds c a (t ∷ f) h =
    go (cases_Bool (fits q ds (joined a t.monomial))) (multiple-unfit q ds c a f h)
  where
    go : (fits q ds (joined a t.monomial) ≡ true) ⊎ (fits q ds (joined a t.monomial) ≡ false)
        → multiple q ds c a f ≡ [] → multiple q ds c a (t ∷ f) ≡ []
    go (inl e) r = false≢true (sym h ∙ fits-left q ds a t.monomial e)
    go (inr e) r = rw e r

-- the same polynomial has the same multiple
pub same-multiple : (q : ℕ) (ds : List ℕ) (d c : ℕ) (a : List ℕ) (f g : List Term) → IsOver q ds d f
    → IsOver q ds d g → IsSame q f g
    → IsSame q (multiple q ds c a f) (multiple q ds c a g)
same-multiple q ds d c a f g o p h =
    record { at = λ n. go n (multiple-occurs q ds d c a f o n) (multiple-occurs q ds d c a g p n) }
  where
    Occurs : List ℕ → Type 0
    Occurs n = (m : List ℕ) × IsMonomial q ds d m × (fits q ds (joined a m) ≡ true) × (joined a m ≡ n)

    at-product : (n : List ℕ) → Occurs n
        → IsCongruent (suc q) (coefficient (multiple q ds c a f) n) (coefficient (multiple q ds c a g) n)
    at-product n k = rw (← k.3)
        (congruent_trans (congruent_eq (coefficient-multiple q ds d c a f o k.0 k.1 k.2))
        (congruent_trans (congruent_mul_left c (congruent_mul_left (sign q (swaps ds a k.0)) (h.at k.0)))
        (congruent_eq (sym (coefficient-multiple q ds d c a g p k.0 k.1 k.2)))))

    go : (n : List ℕ) → Occurs n ⊎ (coefficient (multiple q ds c a f) n ≡ 0)
        → Occurs n ⊎ (coefficient (multiple q ds c a g) n ≡ 0)
        → IsCongruent (suc q) (coefficient (multiple q ds c a f) n) (coefficient (multiple q ds c a g) n)
    go n (inl k) o = at-product n k
    go n (inr z) (inl k) = at-product n k
    go n (inr z) (inr w) = congruent_eq (z ∙ sym w)

module _ (q : ℕ) (ds : List ℕ) (rs : List Polynomial) (over : (r : Polynomial) → IsOneOf r rs
    → IsOver q ds r.degree r.terms) where
  -- a multiple of a multiple
  multiple-of-multiple : (e d : ℕ) (a : List ℕ) → IsMonomial q ds e a → (t : Multiple)
      → IsMultiple q ds rs d t
      → IsInIdeal q ds rs (e + d) (multiple q ds 1 a (multiple q ds t.scalar t.by t.of.terms))
  multiple-of-multiple e d a E t h = ideal-same q ds rs (e + d) _ _
      (multiple-assoc q ds a t.by 1 t.scalar t.of.terms) (go (cases_Bool (fits q ds (joined a t.by))))
    where
      c : ℕ
      c = 1 * (t.scalar * sign q (swaps ds a t.by))

      u : Multiple
      u = record { scalar = c; by = joined a t.by; of = t.of }

      go : (fits q ds (joined a t.by) ≡ true) ⊎ (fits q ds (joined a t.by) ≡ false)
          → IsInIdeal q ds rs (e + d) (multiple q ds c (joined a t.by) t.of.terms)
      go (inl f) = record {
        multiples = u ∷ [];
        each = (
          record {
            given = h.given;
            rest = e + h.rest;
            monomial = monomial-joined q ds e h.rest (e + h.rest) a t.by E h.monomial refl f;
            degree_is = omega (arith, h.degree_is);
          },
          tt,
        );
        sum = record {
          at = λ m. congruent_eq
              (let z = coefficient-append (multiple q ds c (joined a t.by) t.of.terms) [] m in
              omega (arith, z));
        };
      }
      go (inr f) = rw (multiple-unfit q ds c (joined a t.by) t.of.terms f)
          (ideal-zero q ds rs (e + d) [] (λ m. congruent_refl 0))

  multiple-of-total : (e d : ℕ) (a : List ℕ) → IsMonomial q ds e a → (ts : List Multiple)
      → Each (IsMultiple q ds rs d) ts
      → IsInIdeal q ds rs (e + d) (multiple q ds 1 a (total q ds ts))
  multiple-of-total e d a E [] h = ideal-zero q ds rs (e + d) [] (λ m. congruent_refl 0)
  multiple-of-total e d a E (t ∷ ts) h =
      rw (multiple-append q ds 1 a (multiple q ds t.scalar t.by t.of.terms) (total q ds ts))
      (ideal-append q ds rs (e + d) _ _ (multiple-of-multiple e d a E t h.0)
      (multiple-of-total e d a E ts h.1))

  -- the ideal is closed under multiples
  pub ideal-multiple : (e d : ℕ) (a : List ℕ) (f : List Term) → IsMonomial q ds e a → IsOver q ds d f
      → IsInIdeal q ds rs d f
      → IsInIdeal q ds rs (e + d) (multiple q ds 1 a f)
  ideal-multiple e d a f E o i = ideal-same q ds rs (e + d) _ _
      (same-multiple q ds d 1 a f (total q ds i.multiples) o
      (over-total q ds rs d over i.multiples i.each) i.sum)
      (multiple-of-total e d a E i.multiples i.each)

-- a sign is not 0
sign-times : (q n c : ℕ) → IsCongruent (suc q) (sign q n * c) 0 → IsCongruent (suc q) c 0
sign-times q n c h = go (cases_Bool (eqb (n % 2) 0))
  where
    go : (eqb (n % 2) 0 ≡ true) ⊎ (eqb (n % 2) 0 ≡ false) → IsCongruent (suc q) c 0
    go (inl e) = let k : IsCongruent (suc q) (1 * c) 0 = rw e at h in
        congruent_trans (congruent_eq (omega arith)) k
    go (inr e) = let k : IsCongruent (suc q) (q * c) 0 = rw e at h in
        congruent_trans (congruent_eq (let z : c ≡ c + 0 = omega arith in z))
        (congruent_trans (congruent_add (congruent_refl c) (congruent_sym k))
        (to_congruent 0 c (omega arith)))

-- a multiple leads at the product with the leading monomial
pub leading-product : (q : ℕ) (ds : List ℕ) {V : Type 0} (A : Algebra V) (S T : List Term → Type 0) (d : ℕ)
    (a m : List ℕ)
    → ((f : List Term) → S f → IsOver q ds d f) → ((f : List Term) → S f → T (multiple q ds 1 a f))
    → IsMonomial q ds d m → fits q ds (joined a m) ≡ true → IsLeading q A S m → IsLeading q A T (joined a m)
leading-product q ds A S T d a m over maps M h l = record {
  member = multiple q ds 1 a l.member;
  is_member = maps l.member l.is_member;
  here = λ z. not-zero (sign-times q (swaps ds a m) (coefficient l.member m)
      (congruent_trans
      (congruent_eq
      (let k : sign q (swaps ds a m) * coefficient l.member m
      ≡ 1 * (sign q (swaps ds a m) * coefficient l.member m) = omega arith in k))
      (congruent_trans
      (congruent_eq (sym (coefficient-multiple q ds d 1 a l.member (over l.member l.is_member) m M h)))
      (zero-from z)))) l.here;
  above = λ n g. above n g (multiple-occurs q ds d 1 a l.member (over l.member l.is_member) n);
}
  where
    zero-from : {x : ℕ} → x % suc q ≡ 0 → IsCongruent (suc q) x 0
    zero-from {x} z = record { same_remainder = z ∙ sym (zero-mod (suc q)) }

    above : (n : List ℕ) → IsGreater n (joined a m)
        → ((k : List ℕ) × IsMonomial q ds d k × (fits q ds (joined a k) ≡ true) × (joined a k ≡ n))
        ⊎ (coefficient (multiple q ds 1 a l.member) n ≡ 0)
        → IsCongruent (suc q) (coefficient (multiple q ds 1 a l.member) n) 0
    above n g (inr z) = congruent_eq z
    above n g (inl k) =
        rw (sym k.3)
        (congruent_trans
        (congruent_eq (coefficient-multiple q ds d 1 a l.member (over l.member l.is_member) k.0 k.1 k.2))
        (congruent_trans
        (congruent_mul_left 1
        (congruent_mul_left (sign q (swaps ds a k.0))
        (l.above k.0 (joined-greater a k.0 m (rw (sym k.3) at g)))))
        (congruent_eq (omega arith))))
