-- The units are a basis of the vectors of a degree.
use Rattle.std.proofs.Common.{◌≡◌, ℕ, zero, suc, ◌+◌, ◌*◌, ◌%◌, ◌<◌, ◌≤◌, cond, eqb, ◌⊎◌, inl, inr, arith, ap}
use Rattle.std.proofs.Common.{ap₂, sym, ◌∙◌, refl}
use Rattle.std.proofs.Math.Path.{fun_ext}
use Rattle.std.proofs.Math.Nat.{mod-eq_of_lt, add-mod-mod, mod-add-mod}
use Rattle.std.proofs.lemmas.Bool.{cases_eq, cases_lt}
use mathlib.Core.HLevel.{Σ_prop_path}
use native.Mathlib.Bridge.{le_prop}
use Rattle.linear_algebra.specs.Modular.{IsCongruent}
use Rattle.linear_algebra.proofs.Congruences.{congruent_mul_left, congruent_mod, to_congruent}
use Rattle.graded_polynomials.specs.Polynomials.{IsOneOf}
use Rattle.graded_algebra.specs.Algebras.{times, IsSpace}
use Rattle.graded_algebra.specs.Presentations.{IsCombination, IsBasis}
use Rattle.graded_algebra.specs.Vectors.{Below, residue, Vector, unit, units, vectors, GradedAlgebra}
use Rattle.graded_algebra.specs.Vectors.{IsOfDegree, algebra, basis}
use Rattle.graded_polynomials.proofs.Terms.{eqb-self, eqb-false}

pub below-path : {n : ℕ} (a b : Below n) → a.0 ≡ b.0 → a ≡ b
below-path {n} a b e = Σ_prop_path (λ (k : ℕ). le_prop {n = suc k} {m = n}) {u = a} {v = b} e

module _ (q : ℕ) where
  pub residue-self : (a : Below (suc q)) → residue q a.0 ≡ a
  residue-self a = below-path (residue q a.0) a (mod-eq_of_lt a.1)

  pub plus-residue : (m n : ℕ) → residue q ((residue q m).0 + (residue q n).0) ≡ residue q (m + n)
  plus-residue m n = below-path _ _ (add-mod-mod (m % suc q) n (suc q) ∙ mod-add-mod m (suc q) n)

  module _ (mul : ℕ → ℕ → Vector q → Vector q → Vector q) where
    pub times-at : (n : ℕ) (v : Vector q) (i : ℕ) → times (vectors q mul) n v i ≡ residue q (n * (v i).0)
    times-at zero v i = ap (residue q) (omega arith)
    times-at (suc n) v i =
        ap (λ (b : Below (suc q)). residue q ((v i).0 + b.0)) (times-at n v i)
        ∙ ap (λ (b : Below (suc q)). residue q (b.0 + (residue q (n * (v i).0)).0)) (sym (residue-self (v i)))
        ∙ plus-residue (v i).0 (n * (v i).0) ∙ ap (residue q) (omega arith)

    -- v without its entry k
    abbrev without : ℕ → Vector q → Vector q
    without k v i = cond (eqb i k) (residue q 0) (v i)

    apart : (k : ℕ) (v : Vector q) → v ≡ (vectors q mul).add (times (vectors q mul) (v k).0 (unit q k))
        (without k v)
    apart k v = fun_ext (λ i. go i (cases_eq i k))
      where
        times-residue : (c m : ℕ) → residue q (c * (m % suc q)) ≡ residue q (c * m)
        times-residue c m = below-path _ _ (congruent_mul_left c (congruent_mod {p = suc q} m)).same_remainder

        go : (i : ℕ) → (i ≡ k) ⊎ (i ≡ k → ⊥)
            → v i ≡ residue q ((times (vectors q mul) (v k).0 (unit q k) i).0 + (without k v i).0)
        go i (inl e) =
            ap v e ∙ sym (residue-self (v k))
            ∙ ap (residue q) (let h : (v k).0 ≡ (v k).0 * 1 + 0 = omega arith in h)
            ∙ sym (plus-residue ((v k).0 * 1) 0)
            ∙ ap₂ (λ (x y : Below (suc q)). residue q (x.0 + y.0))
            (sym (times-at (v k).0 (unit q k) i ∙ times-residue (v k).0 (cond (eqb i k) 1 0)
            ∙ ap (λ b. residue q ((v k).0 * cond b 1 0)) (ap (λ j. eqb j k) e ∙ eqb-self k)))
            (ap (λ b. cond b (residue q 0) (v i)) (sym (ap (λ j. eqb j k) e ∙ eqb-self k)))
        go i (inr ne) =
            sym (residue-self (v i)) ∙ ap (residue q)
            (let h : (v i).0 ≡ (v k).0 * 0 + (v i).0 = omega arith in h)
            ∙ sym (plus-residue ((v k).0 * 0) (v i).0)
            ∙ ap₂ (λ (x y : Below (suc q)). residue q (x.0 + y.0))
            (sym (times-at (v k).0 (unit q k) i ∙ times-residue (v k).0 (cond (eqb i k) 1 0)
            ∙ ap (λ b. residue q ((v k).0 * cond b 1 0)) (eqb-false i k ne)))
            (residue-self (v i) ∙ ap (λ b. cond b (residue q 0) (v i)) (sym (eqb-false i k ne)))

    -- a vector that is 0 outside of n places from k on is a combination of their units
    pub spanned : (n k : ℕ) (v : Vector q) → ((i : ℕ) → i < k → v i ≡ residue q 0)
        → ((i : ℕ) → k + n ≤ i → v i ≡ residue q 0) → IsCombination (vectors q mul) (units q k n) v
    spanned zero k v b a = fun_ext (λ i. go i (cases_lt i k))
      where
        go : (i : ℕ) → (i < k) ⊎ (k ≤ i) → v i ≡ residue q 0
        go i (inl l) = b i l
        go i (inr l) = a i (omega arith)
    spanned (suc n) k v b a = (
      (v k).0,
      without k v,
      spanned n (suc k) (without k v) (λ i l. low i l (cases_eq i k)) (λ i l. high i l),
      apart k v,
    )
      where
        low : (i : ℕ) → i < suc k → (i ≡ k) ⊎ (i ≡ k → ⊥) → without k v i ≡ residue q 0
        low i l (inl e) = rw (e, eqb-self k) refl
        low i l (inr ne) = rw (eqb-false i k ne) (b i (omega arith))

        high : (i : ℕ) → suc k + n ≤ i → without k v i ≡ residue q 0
        high i l = rw (eqb-false i k (omega arith)) (a i (omega arith))

    pub unit-outside : (k n i : ℕ) → k < n → n ≤ i → unit q k i ≡ residue q 0
    unit-outside k n i l m = rw (eqb-false i k (omega arith)) refl

    units-inside : (n k m : ℕ) → k + n ≤ m → (v : Vector q) → IsOneOf v (units q k n) → (i : ℕ) → m ≤ i
        → v i ≡ residue q 0
    units-inside zero k m l v o i b = absurd o
    units-inside (suc n) k m l v (inl e) i b = rw e (unit-outside k m i (omega arith) b)
    units-inside (suc n) k m l v (inr o) i b = units-inside n (suc k) m (omega arith) v o i b

  pub is-basis : (G : GradedAlgebra q) (d : ℕ)
      → IsBasis (Vector q) (algebra q G) (IsOfDegree q G) d (basis q G d)
  is-basis G d = record {
    inside = λ v o i l. units-inside G.mul (G.ranks d) 0 (G.ranks d) (omega arith) v o i l;
    spans = λ v h. spanned G.mul (G.ranks d) 0 v (λ i l. absurd (omega arith)) (λ i l. h i (omega arith));
  }

  -- degree 0: the multiples of 1
  pub zero-spans : (G : GradedAlgebra q) (v : Vector q) → IsOfDegree q G 0 v → (c : ℕ)
      × (v ≡ times (algebra q G) c (unit q 0))
  zero-spans G v h = (
    (v 0).0,
    apart G.mul 0 v
        ∙ ap ((algebra q G).add (times (algebra q G) (v 0).0 (unit q 0))) (fun_ext (λ i. go i (cases_eq i 0)))
        ∙ G.laws.space.add-zero _,
  )
    where
      go : (i : ℕ) → (i ≡ 0) ⊎ (i ≡ 0 → ⊥) → without G.mul 0 v i ≡ residue q 0
      go i (inl e) = rw e refl
      go i (inr ne) = rw (eqb-false i 0 ne) (h i (let k : G.ranks 0 ≡ 1 = G.rank-zero in omega (arith, k)))

  pub one-free : (G : GradedAlgebra q) (c : ℕ) → 1 < suc q
      → times (algebra q G) c (unit q 0) ≡ (algebra q G).zero → IsCongruent (suc q) c 0
  one-free G c l e = record {
    same_remainder = ap (λ n. n % suc q) (let k : c ≡ c * 1 = omega arith in k)
        ∙ ap (λ n. (c * n) % suc q) (sym (mod-eq_of_lt l))
        ∙ sym (ap (λ (b : Below (suc q)). b.0) (times-at G.mul c (unit q 0) 0))
        ∙ ap (λ (v : Vector q). (v 0).0) e;
  }

-- the laws of sums of vectors
module _ (q : ℕ) (mul : ℕ → ℕ → Vector q → Vector q → Vector q) where
  pub vector-assoc : (x y z : Vector q) → (vectors q mul).add ((vectors q mul).add x y) z ≡
      (vectors q mul).add x ((vectors q mul).add y z)
  vector-assoc x y z =
      fun_ext (λ i. below-path _ _ (mod-add-mod ((x i).0 + (y i).0) (suc q) (z i).0
      ∙ ap (λ n. n % suc q) (let e : ((x i).0 + (y i).0) + (z i).0 ≡ (x i).0 +
      ((y i).0 + (z i).0) = omega arith in e)
      ∙ sym (add-mod-mod (x i).0 ((y i).0 + (z i).0) (suc q))))

  pub vector-comm : (x y : Vector q) → (vectors q mul).add x y ≡ (vectors q mul).add y x
  vector-comm x y = fun_ext (λ i. ap (residue q)
      (let e : (x i).0 + (y i).0 ≡ (y i).0 + (x i).0 = omega arith in e))

  pub vector-zero : (x : Vector q) → (vectors q mul).add x (vectors q mul).zero ≡ x
  vector-zero x = fun_ext (λ i. ap (λ (b : Below (suc q)). residue q (b.0 + (residue q 0).0))
      (sym (residue-self q (x i)))
      ∙ plus-residue q (x i).0 0 ∙ ap (residue q) (omega arith) ∙ residue-self q (x i))

  pub vector-times-p : (x : Vector q) → times (vectors q mul) (suc q) x ≡ (vectors q mul).zero
  vector-times-p x = fun_ext (λ i. times-at q mul (suc q) x i
      ∙ below-path _ _ ((to_congruent {p = suc q} 0 (x i).0 (omega arith)).same_remainder))

  pub vector-space : IsSpace q (Vector q) (vectors q mul)
  vector-space = record {
    add-assoc = vector-assoc;
    add-comm = vector-comm;
    add-zero = vector-zero;
    times-p = vector-times-p;
  }
