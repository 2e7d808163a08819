-- An example: the polynomials in one variable of degree 1 over F_2, with an open definition.
use Rattle.std.proofs.Common.{◌≡◌, ℕ, ◌+◌, ◌*◌, ◌%◌, ◌≤◌, Bool, true, false, cond, eqb, ◌⊎◌, inl, inr, arith}
use Rattle.std.proofs.Common.{ap, sym, ◌∙◌, refl}
use Rattle.std.proofs.Math.Path.{fun_ext}
use Rattle.std.proofs.lemmas.Bool.{cases_eq}
use Rattle.linear_algebra.specs.Modular.{IsCongruent}
use Rattle.graded_polynomials.specs.Monomials.{sign}
use Rattle.graded_algebra.specs.Algebras.{Algebra, times, IsGradedCommutative}
use Rattle.graded_algebra.specs.Vectors.{Below, residue, Vector, unit, vectors, GradedAlgebra}
use Rattle.linear_algebra.proofs.Congruences.{congruent_mul_left, congruent_mul_right, congruent_mod}
use Rattle.linear_algebra.proofs.Congruences.{congruent_trans, congruent_eq, congruent_sym, congruent_add}
use Rattle.graded_polynomials.proofs.Terms.{eqb-false, false≢true}
use Rattle.graded_algebra.proofs.VectorLemmas.{below-path, residue-self, vector-assoc, vector-comm}
use Rattle.graded_algebra.proofs.VectorLemmas.{vector-zero, vector-times-p}

abbrev pub line-mul : ℕ → ℕ → Vector 1 → Vector 1 → Vector 1
line-mul d e a b i = cond (eqb i 0) (residue 1 ((a 0).0 * (b 0).0)) (residue 1 0)

abbrev pub line-algebra : Algebra (Vector 1)
line-algebra = vectors 1 line-mul

abbrev pub In : ℕ → Vector 1 → Type 0
In d v = (i : ℕ) → 1 ≤ i → v i ≡ residue 1 0

-- two vectors that are alike at 0 and 0 elsewhere
alike : (x y : Bool → Below 2) → x true ≡ y true → x false ≡ y false
    → ◌≡◌ {A = Vector 1} (λ i. x (eqb i 0)) (λ i. y (eqb i 0))
alike x y e f = fun_ext (λ i. go (eqb i 0))
  where
    go : (b : Bool) → x b ≡ y b
    go true = e
    go false = f

residue-path : {m n : ℕ} → IsCongruent 2 m n → residue 1 m ≡ residue 1 n
residue-path {m} {n} h = below-path (residue 1 m) (residue 1 n) h.same_remainder

same-sign : (n : ℕ) (x : Vector 1) → x ≡ times line-algebra (sign 1 n) x
same-sign n x = go (eqb (n % 2) 0)
  where
    go : (b : Bool) → x ≡ times line-algebra (cond b 1 1) x
    go true = sym (vector-zero 1 line-mul x)
    go false = sym (vector-zero 1 line-mul x)

pub line-laws : IsGradedCommutative 1 (Vector 1) line-algebra In
line-laws = record {
  space = record {
    add-assoc = vector-assoc 1 line-mul;
    add-comm = vector-comm 1 line-mul;
    add-zero = vector-zero 1 line-mul;
    times-p = vector-times-p 1 line-mul;
  };
  mul-left = λ d e x y z.
      alike (λ b. cond b (residue 1 (((x 0).0 + (y 0).0) % 2 * (z 0).0)) (residue 1 0))
      (λ b. residue 1
      ((cond b (residue 1 ((x 0).0 * (z 0).0)) (residue 1 0)).0
      + (cond b (residue 1 ((y 0).0 * (z 0).0)) (residue 1 0)).0))
      (residue-path (congruent_trans (congruent_mul_right (z 0).0 (congruent_mod ((x 0).0 + (y 0).0)))
      (congruent_trans (congruent_eq (omega arith))
      (congruent_sym
      (congruent_add (congruent_mod ((x 0).0 * (z 0).0)) (congruent_mod ((y 0).0 * (z 0).0))))))) refl;
  mul-right = λ d e x y z.
      alike (λ b. cond b (residue 1 ((x 0).0 * (((y 0).0 + (z 0).0) % 2))) (residue 1 0))
      (λ b. residue 1
      ((cond b (residue 1 ((x 0).0 * (y 0).0)) (residue 1 0)).0
      + (cond b (residue 1 ((x 0).0 * (z 0).0)) (residue 1 0)).0))
      (residue-path (congruent_trans (congruent_mul_left (x 0).0 (congruent_mod ((y 0).0 + (z 0).0)))
      (congruent_trans (congruent_eq (omega arith))
      (congruent_sym
      (congruent_add (congruent_mod ((x 0).0 * (y 0).0)) (congruent_mod ((x 0).0 * (z 0).0))))))) refl;
  mul-assoc = λ d e f x y z.
      alike (λ b. cond b (residue 1 (((x 0).0 * (y 0).0) % 2 * (z 0).0)) (residue 1 0))
      (λ b. cond b (residue 1 ((x 0).0 * (((y 0).0 * (z 0).0) % 2))) (residue 1 0))
      (residue-path (congruent_trans (congruent_mul_right (z 0).0 (congruent_mod ((x 0).0 * (y 0).0)))
      (congruent_trans (congruent_eq (omega arith))
      (congruent_sym (congruent_mul_left (x 0).0 (congruent_mod ((y 0).0 * (z 0).0))))))) refl;
  mul-comm = λ d e x y.
      alike (λ b. cond b (residue 1 ((x 0).0 * (y 0).0)) (residue 1 0))
      (λ b. cond b (residue 1 ((y 0).0 * (x 0).0)) (residue 1 0))
      (ap (residue 1) (let k : (x 0).0 * (y 0).0 ≡ (y 0).0 * (x 0).0 = omega arith in k)) refl
      ∙ same-sign (d * e) (line-mul e d y x);
  mul-self = λ d x h. false≢true h;
  mul-one = λ d x h. fun_ext (λ i. right x h i (cases_eq i 0));
  one-mul = λ d x h. fun_ext (λ i. left x h i (cases_eq i 0));
  in-one = λ i l. rw (eqb-false i 0 (omega arith)) refl;
  in-mul = λ d e x y i l. rw (eqb-false i 0 (omega arith)) refl;
}
  where
    right : (x : Vector 1) → ((i : ℕ) → 1 ≤ i → x i ≡ residue 1 0) → (i : ℕ) → (i ≡ 0) ⊎ (i ≡ 0 → ⊥)
        → line-mul 0 0 x (unit 1 0) i ≡ x i
    right x h i (inl e) =
        rw e (ap (residue 1) (let k : (x 0).0 * 1 ≡ (x 0).0 = omega arith in k) ∙ residue-self 1 (x 0))
    right x h i (inr e) = rw (eqb-false i 0 e) (sym (h i (omega arith)))

    left : (x : Vector 1) → ((i : ℕ) → 1 ≤ i → x i ≡ residue 1 0) → (i : ℕ) → (i ≡ 0) ⊎ (i ≡ 0 → ⊥)
        → line-mul 0 0 (unit 1 0) x i ≡ x i
    left x h i (inl e) =
        rw e (ap (residue 1) (let k : 1 * (x 0).0 ≡ (x 0).0 = omega arith in k) ∙ residue-self 1 (x 0))
    left x h i (inr e) = rw (eqb-false i 0 e) (sym (h i (omega arith)))

abbrev pub line : GradedAlgebra 1
line = record { ranks = λ d. 1; mul = line-mul; rank-zero = refl; laws = line-laws }
