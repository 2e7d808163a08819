-- Graded algebras by their operations, and the evaluation of polynomials.
use Rattle.std.specs.Prelude.{◌≡◌, ℕ, zero, suc, ◌+◌, ◌*◌, true, List, [], ◌∷◌}
use Rattle.graded_polynomials.specs.Monomials.{is_exterior, sign}
use Rattle.graded_polynomials.specs.Polynomials.{Term}

-- all degrees have one type of vectors; mul d e multiplies a vector of degree d and one of degree e
pub record Algebra (V : Type 0) : Type 0 where
  pub zero : V
  pub add : V → V → V
  pub one : V
  pub mul : ℕ → ℕ → V → V → V

-- n copies of x, added
abbrev pub times : {V : Type 0} → Algebra V → ℕ → V → V
times A zero x = A.zero
times A (suc n) x = A.add x (times A n x)

pub record Generator (V : Type 0) : Type 0 where
  pub degree : ℕ
  pub class : V

abbrev pub degrees : {V : Type 0} → List (Generator V) → List ℕ
degrees [] = []
degrees (g ∷ gs) = g.degree ∷ degrees gs

-- a, of degree j, times the generator g, e times
abbrev pub powers : {V : Type 0} → Algebra V → ℕ → V → Generator V → ℕ → V
powers A j a g zero = a
powers A j a g (suc e) = A.mul (j + g.degree * e) g.degree (powers A j a g e) g.class

-- a, of degree j, times the factors of a monomial, from left to right
abbrev pub evaluate_from : {V : Type 0} → Algebra V → ℕ → V → List (Generator V) → List ℕ → V
evaluate_from A j a [] m = a
evaluate_from A j a (g ∷ gs) [] = a
evaluate_from A j a (g ∷ gs) (e ∷ m) = evaluate_from A (j + g.degree * e) (powers A j a g e) gs m

abbrev pub evaluate : {V : Type 0} → Algebra V → List (Generator V) → List ℕ → V
evaluate A gs m = evaluate_from A 0 A.one gs m

-- the linear extension of u to sums of terms
abbrev pub linear : {V : Type 0} → Algebra V → (List ℕ → V) → List Term → V
linear A u [] = A.zero
linear A u (t ∷ f) = A.add (times A t.scalar (u t.monomial)) (linear A u f)

-- the value of a polynomial
abbrev pub value : {V : Type 0} → Algebra V → List (Generator V) → List Term → V
value A gs f = linear A (evaluate A gs) f

-- a vector space over the numbers modulo p = q + 1
pub record IsSpace (q : ℕ) (V : Type 0) (A : Algebra V) : Type 0 where
  pub add-assoc : (x y z : V) → A.add (A.add x y) z ≡ A.add x (A.add y z)
  pub add-comm : (x y : V) → A.add x y ≡ A.add y x
  pub add-zero : (x : V) → A.add x A.zero ≡ x
  pub times-p : (x : V) → times A (suc q) x ≡ A.zero

-- a graded commutative algebra over the numbers modulo p = q + 1; In d v: v is of degree d
pub record IsGradedCommutative (q : ℕ) (V : Type 0) (A : Algebra V) (In : ℕ → V → Type 0) : Type 0 where
  pub space : IsSpace q V A
  pub mul-left : (d e : ℕ) (x y z : V) → A.mul d e (A.add x y) z ≡ A.add (A.mul d e x z) (A.mul d e y z)
  pub mul-right : (d e : ℕ) (x y z : V) → A.mul d e x (A.add y z) ≡ A.add (A.mul d e x y) (A.mul d e x z)
  pub mul-assoc : (d e f : ℕ) (x y z : V)
      → A.mul (d + e) f (A.mul d e x y) z ≡ A.mul d (e + f) x (A.mul e f y z)
  pub mul-comm : (d e : ℕ) (x y : V) → A.mul d e x y ≡ times A (sign q (d * e)) (A.mul e d y x)
  pub mul-self : (d : ℕ) (x : V) → is_exterior q d ≡ true → A.mul d d x x ≡ A.zero
  pub mul-one : (d : ℕ) (x : V) → In d x → A.mul d 0 x A.one ≡ x
  pub one-mul : (d : ℕ) (x : V) → In d x → A.mul 0 d A.one x ≡ x
  pub in-one : In 0 A.one
  pub in-mul : (d e : ℕ) (x y : V) → In (d + e) (A.mul d e x y)
