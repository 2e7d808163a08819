-- Examples: the multiples of one vector in each degree where `on` holds, and 0 in the other degrees. The
-- polynomials in one variable of degree 1 over F_2
-- and the exterior algebra of one generator of degree 1 over F_3 are such, and meet the laws.
use Rattle.std.proofs.Common.{◌≡◌, ℕ, zero, suc, ◌+◌, ◌*◌, ◌%◌, ◌≤◌, Bool, true, false, cond, eqb, leb, ◌⊎◌}
use Rattle.std.proofs.Common.{inl, inr, arith, ap, sym, ◌∙◌, refl}
use Rattle.std.proofs.Math.Path.{fun_ext}
use Rattle.std.proofs.lemmas.Bool.{cases_Bool, cases_eq}
use Rattle.linear_algebra.specs.Modular.{IsCongruent}
use Rattle.graded_polynomials.specs.Monomials.{is_exterior, sign}
use Rattle.graded_algebra.specs.Algebras.{Algebra, times, IsGradedCommutative}
use Rattle.graded_algebra.specs.Vectors.{Below, residue, Vector, unit, vectors, GradedAlgebra}
use Rattle.linear_algebra.proofs.Congruences.{congruent_mul_left, congruent_mul_right, congruent_mod}
use Rattle.linear_algebra.proofs.Congruences.{congruent_trans, congruent_eq, congruent_sym}
use Rattle.graded_polynomials.proofs.Terms.{eqb-false, false≢true}
use Rattle.graded_algebra.proofs.Vectors.{times-zero}
use Rattle.graded_algebra.proofs.VectorLemmas.{below-path, residue-self, plus-residue, vector-assoc}
use Rattle.graded_algebra.proofs.VectorLemmas.{vector-comm, vector-zero, vector-times-p, vector-space}

module _ (q : ℕ) where
  -- the multiple of the vector with the coefficient c
  abbrev pub at-zero : Below (suc q) → Vector q
  at-zero c i = cond (eqb i 0) c (residue q 0)

  abbrev Zero : Vector q
  Zero i = residue q 0

  residue-path : {m n : ℕ} → IsCongruent (suc q) m n → residue q m ≡ residue q n
  residue-path {m} {n} h = below-path (residue q m) (residue q n) h.same_remainder

  zero-sum : residue q 0 ≡ residue q ((residue q 0).0 + (residue q 0).0)
  zero-sum = sym (plus-residue q 0 0)

  -- the product of coefficients
  abbrev pub by : Below (suc q) → Below (suc q) → Below (suc q)
  by a b = residue q (a.0 * b.0)

  abbrev sum : Below (suc q) → Below (suc q) → Below (suc q)
  sum a b = residue q (a.0 + b.0)

  by-left : (a b c : Below (suc q)) → by (sum a b) c ≡ sum (by a c) (by b c)
  by-left a b c = residue-path
      (congruent_trans (congruent_mul_right c.0 (congruent_mod (a.0 + b.0))) (congruent_eq (omega arith)))
      ∙ sym (plus-residue q (a.0 * c.0) (b.0 * c.0))

  by-comm : (a b : Below (suc q)) → by a b ≡ by b a
  by-comm a b = ap (residue q) (let k : a.0 * b.0 ≡ b.0 * a.0 = omega arith in k)

  by-right : (a b c : Below (suc q)) → by a (sum b c) ≡ sum (by a b) (by a c)
  by-right a b c = residue-path
      (congruent_trans (congruent_mul_left a.0 (congruent_mod (b.0 + c.0))) (congruent_eq (omega arith)))
      ∙ sym (plus-residue q (a.0 * b.0) (a.0 * c.0))

  by-assoc : (a b c : Below (suc q)) → by (by a b) c ≡ by a (by b c)
  by-assoc a b c = residue-path (congruent_trans (congruent_mul_right c.0 (congruent_mod (a.0 * b.0)))
      (congruent_trans (congruent_eq (omega arith))
      (congruent_sym (congruent_mul_left a.0 (congruent_mod (b.0 * c.0))))))

  by-one : (a : Below (suc q)) → by a (residue q 1) ≡ a
  by-one a = residue-path
      (congruent_trans (congruent_mul_left a.0 (congruent_mod 1)) (congruent_eq (omega arith)))
      ∙ residue-self q a

  at-zero-sum : (a b : Below (suc q)) → at-zero (sum a b) ≡ (λ i. sum (at-zero a i) (at-zero b i))
  at-zero-sum a b = fun_ext (λ i. go (eqb i 0))
    where
      go : (o : Bool) → cond o (sum a b) (residue q 0) ≡ sum (cond o a (residue q 0)) (cond o b (residue q 0))
      go true = refl
      go false = zero-sum

  -- a vector that is 0 from 1 on
  only-zero : (v : Vector q) → ((i : ℕ) → 1 ≤ i → v i ≡ residue q 0) → at-zero (v 0) ≡ v
  only-zero v h = fun_ext (λ i. go i (cases_eq i 0))
    where
      go : (i : ℕ) → (i ≡ 0) ⊎ (i ≡ 0 → ⊥) → at-zero (v 0) i ≡ v i
      go i (inl e) = rw e refl
      go i (inr e) = rw (eqb-false i 0 e) (sym (h i (omega arith)))

  module _ (on : ℕ → Bool) where
    -- the product where the degrees add to n
    abbrev pub product : ℕ → Vector q → Vector q → Vector q
    product n a b = cond (on n) (at-zero (by (a 0) (b 0))) Zero

    abbrev pub line-mul : ℕ → ℕ → Vector q → Vector q → Vector q
    line-mul d e a b = product (d + e) a b

    abbrev pub rank : ℕ → ℕ
    rank d = cond (on d) 1 0

    abbrev In : ℕ → Vector q → Type 0
    In d v = (i : ℕ) → rank d ≤ i → v i ≡ residue q 0

    abbrev pub A : Algebra (Vector q)
    A = vectors q line-mul

    left : (o : Bool) (x y z : Vector q)
        → cond o (at-zero (by (A.add x y 0) (z 0))) Zero ≡ A.add (cond o (at-zero (by (x 0) (z 0))) Zero)
        (cond o (at-zero (by (y 0) (z 0))) Zero)
    left true x y z = ap at-zero (by-left (x 0) (y 0) (z 0)) ∙ at-zero-sum (by (x 0) (z 0)) (by (y 0) (z 0))
    left false x y z = fun_ext (λ i. zero-sum)

    right : (o : Bool) (x y z : Vector q)
        → cond o (at-zero (by (x 0) (A.add y z 0))) Zero ≡ A.add (cond o (at-zero (by (x 0) (y 0))) Zero)
        (cond o (at-zero (by (x 0) (z 0))) Zero)
    right true x y z = ap at-zero (by-right (x 0) (y 0) (z 0)) ∙ at-zero-sum (by (x 0) (y 0)) (by (x 0) (z 0))
    right false x y z = fun_ext (λ i. zero-sum)

    module _ (zero-on : on 0 ≡ true) (down : (d e : ℕ) → on (d + e) ≡ true → (on d ≡ true) × (on e ≡ true))
        (signs : (d e : ℕ) → on (d + e) ≡ true → sign q (d * e) ≡ 1) (squares : (d : ℕ)
        → is_exterior q d ≡ true → on (d + d) ≡ false) where
      assoc : (d e f : ℕ) (x y z : Vector q)
          → line-mul (d + e) f (line-mul d e x y) z ≡ line-mul d (e + f) x (line-mul e f y z)
      assoc d e f x y z = go (cases_Bool (on (d + (e + f))))
        where
          same : (d + e) + f ≡ d + (e + f)
          same = omega arith

          go : (on (d + (e + f)) ≡ true) ⊎ (on (d + (e + f)) ≡ false)
              → line-mul (d + e) f (line-mul d e x y) z ≡ line-mul d (e + f) x (line-mul e f y z)
          go (inl h) =
              let l = (down (d + e) f (ap on same ∙ h)).0 in
              let r = (down d (e + f) h).1 in
              rw (same, h, l, r) (ap at-zero (by-assoc (x 0) (y 0) (z 0)))
          go (inr h) = rw (same, h) refl

      comm : (d e : ℕ) (x y : Vector q) → line-mul d e x y ≡ times A (sign q (d * e)) (line-mul e d y x)
      comm d e x y = go (cases_Bool (on (d + e)))
        where
          turn : e + d ≡ d + e
          turn = omega arith

          go : (on (d + e) ≡ true) ⊎ (on (d + e) ≡ false)
              → line-mul d e x y ≡ times A (sign q (d * e)) (line-mul e d y x)
          go (inl h) = rw (turn, h, signs d e h) (ap at-zero (by-comm (x 0) (y 0))
              ∙ sym (vector-zero q line-mul (at-zero (by (y 0) (x 0)))))
          go (inr h) = rw (turn, h)
              (sym (times-zero q (Vector q) A (vector-space q line-mul) (sign q (d * e))))

      by-one-right : (d n : ℕ) (x : Vector q) → n ≡ d → In d x → product n x (unit q 0) ≡ x
      by-one-right d n x s h = go (cases_Bool (on d))
        where
          go : (on d ≡ true) ⊎ (on d ≡ false) → product n x (unit q 0) ≡ x
          go (inl o) = rw (s, o) (ap at-zero (by-one (x 0)) ∙ only-zero x (λ i l. h i (rw o l)))
          go (inr o) = rw (s, o) (fun_ext (λ i. sym (h i (rw o (omega arith)))))

      by-one-left : (d : ℕ) (x : Vector q) → In d x → product d (unit q 0) x ≡ x
      by-one-left d x h = turned ∙ by-one-right d d x refl h
        where
          turned : product d (unit q 0) x ≡ product d x (unit q 0)
          turned = ap (λ c. cond (on d) (at-zero c) Zero) (by-comm (residue q 1) (x 0))

      inside : (n : ℕ) (x y : Vector q) → In n (product n x y)
      inside n x y i l = go (cases_Bool (on n))
        where
          go : (on n ≡ true) ⊎ (on n ≡ false) → product n x y i ≡ residue q 0
          go (inl o) = let k : 1 ≤ i = rw o at l in rw (o, eqb-false i 0 (omega arith)) refl
          go (inr o) = rw o refl

      pub line-laws : IsGradedCommutative q (Vector q) A In
      line-laws = record {
        space = vector-space q line-mul;
        mul-left = λ d e x y z. left (on (d + e)) x y z;
        mul-right = λ d e x y z. right (on (d + e)) x y z;
        mul-assoc = assoc;
        mul-comm = comm;
        mul-self = λ d x h. rw (squares d h) refl;
        mul-one = λ d x h. by-one-right d (d + 0) x (omega arith) h;
        one-mul = λ d x h. (let k : 0 + d ≡ d = omega arith in rw k (by-one-left d x h));
        in-one = λ i l. (let k : 1 ≤ i = rw zero-on at l in rw (eqb-false i 0 (omega arith)) refl);
        in-mul = λ d e x y. inside (d + e) x y;
      }

      abbrev pub line : GradedAlgebra q
      line = record { ranks = rank; mul = line-mul; rank-zero = rw zero-on refl; laws = line-laws }

-- the polynomials in one variable of degree 1 over F_2
pub polynomials : GradedAlgebra 1
polynomials = line 1 (λ n. true) refl (λ d e h. (refl, refl)) (λ d e h. one (eqb ((d * e) % 2) 0))
    (λ d h. absurd (false≢true h))
  where
    one : (b : Bool) → (let s : ℕ = cond b 1 1 in s ≡ 1)
    one true = refl
    one false = refl
