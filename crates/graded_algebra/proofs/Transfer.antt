-- A map of vectors to cochains that respects products up to a relation respects the evaluation of
-- polynomials.
use Rattle.std.proofs.Common.{◌≡◌, ℕ, zero, suc, ◌+◌, ◌*◌, List, [], ◌∷◌, arith, subst}
use Rattle.graded_polynomials.specs.Monomials.{degree}
use Rattle.graded_polynomials.specs.Polynomials.{Term, IsOver}
use Rattle.graded_algebra.specs.Algebras.{Algebra, Generator, degrees, powers, evaluate_from, evaluate, value}
use Rattle.graded_algebra.specs.Algebras.{times}

-- Close d u v: u and v, of degree d, differ by a coboundary; k is the cochain of a class
pub record IsComparison (V W : Type 0) (A : Algebra V) (B : Algebra W) (k : ℕ → V → W) (Close : ℕ → W → W
    → Type 0) : Type 0 where
  pub close-refl : (d : ℕ) (u : W) → Close d u u
  pub close-trans : (d : ℕ) (u v w : W) → Close d u v → Close d v w → Close d u w
  pub close-add : (d : ℕ) (u v u' v' : W) → Close d u u' → Close d v v' → Close d (B.add u v) (B.add u' v')
  pub close-mul : (d e : ℕ) (u v : W) (x : V) → Close d u v
      → Close (d + e) (B.mul d e u (k e x)) (B.mul d e v (k e x))
  pub one : Close 0 (k 0 A.one) B.one
  pub zero : (d : ℕ) → k d A.zero ≡ B.zero
  pub add : (d : ℕ) (x y : V) → k d (A.add x y) ≡ B.add (k d x) (k d y)
  pub mul : (d e : ℕ) (x y : V) → Close (d + e) (k (d + e) (A.mul d e x y)) (B.mul d e (k d x) (k e y))

module _ (V W : Type 0) (A : Algebra V) (B : Algebra W) (k : ℕ → V → W) (Close : ℕ → W → W
    → Type 0) (C : IsComparison V W A B k Close) where
  abbrev pub image : Generator V → Generator W
  image g = record { degree = g.degree; class = k g.degree g.class }

  abbrev pub images : List (Generator V) → List (Generator W)
  images [] = []
  images (g ∷ gs) = image g ∷ images gs

  powers-close : (j : ℕ) (a : V) (b : W) (g : Generator V) (e : ℕ) → Close j (k j a) b
      → Close (j + g.degree * e) (k (j + g.degree * e) (powers A j a g e)) (powers B j b (image g) e)
  powers-close j a b g zero h = let x : j ≡ j + g.degree * 0 = omega arith in
      subst (λ d. Close d (k d a) b) x h
  powers-close j a b g (suc e) h =
      let x : (j + g.degree * e) + g.degree ≡ j + g.degree * suc e = omega arith in
      subst (λ d. Close d (k d (A.mul (j + g.degree * e) g.degree (powers A j a g e) g.class))
      (B.mul (j + g.degree * e) g.degree (powers B j b (image g) e) (k g.degree g.class))) x
      (C.close-trans _ _ _ _ (C.mul (j + g.degree * e) g.degree (powers A j a g e) g.class)
      (C.close-mul (j + g.degree * e) g.degree _ _ g.class (powers-close j a b g e h)))

  from-close : (j : ℕ) (a : V) (b : W) (gs : List (Generator V)) (m : List ℕ) → Close j (k j a) b
      → Close (j + degree (degrees gs) m) (k (j + degree (degrees gs) m) (evaluate_from A j a gs m))
      (evaluate_from B j b (images gs) m)
  from-close j a b [] m h = let x : j ≡ j + 0 = omega arith in subst (λ d. Close d (k d a) b) x h
  from-close j a b (g ∷ gs) [] h = let x : j ≡ j + 0 = omega arith in subst (λ d. Close d (k d a) b) x h
  from-close j a b (g ∷ gs) (e ∷ m) h =
      let x : (j + g.degree * e) + degree (degrees gs) m ≡ j + (g.degree * e + degree (degrees gs) m) =
      omega arith in
      subst (λ d. Close d (k d (evaluate_from A (j + g.degree * e) (powers A j a g e) gs m))
      (evaluate_from B (j + g.degree * e) (powers B j b (image g) e) (images gs) m)) x
      (from-close (j + g.degree * e) (powers A j a g e) (powers B j b (image g) e) gs m
      (powers-close j a b g e h))

  pub evaluate-close : (gs : List (Generator V)) (m : List ℕ) (d : ℕ) → degree (degrees gs) m ≡ d
      → Close d (k d (evaluate A gs m)) (evaluate B (images gs) m)
  evaluate-close gs m d e = let x : 0 + degree (degrees gs) m ≡ d = omega (arith, e) in
      subst (λ d. Close d (k d (evaluate A gs m)) (evaluate B (images gs) m)) x
      (from-close 0 A.one B.one gs m C.one)

  times-close : (d n : ℕ) (x : V) (u : W) → Close d (k d x) u → Close d (k d (times A n x)) (times B n u)
  times-close d zero x u h = rw (C.zero d) (C.close-refl d B.zero)
  times-close d (suc n) x u h = rw (C.add d x (times A n x)) (C.close-add d _ _ _ _ h (times-close d n x u h))

  -- the value of a polynomial in cochains differs by a coboundary from the cochain of its value
  pub value-close : (q : ℕ) (gs : List (Generator V)) (d : ℕ) (f : List Term) → IsOver q (degrees gs) d f
      → Close d (k d (value A gs f)) (value B (images gs) f)
  value-close q gs d [] o = rw (C.zero d) (C.close-refl d B.zero)
  value-close q gs d (t ∷ f) o =
      rw (C.add d (times A t.scalar (evaluate A gs t.monomial)) (value A gs f))
      (C.close-add d _ _ _ _ (times-close d t.scalar (evaluate A gs t.monomial)
      (evaluate B (images gs) t.monomial) (evaluate-close gs t.monomial d o.0.degree_is))
      (value-close q gs d f o.1))
