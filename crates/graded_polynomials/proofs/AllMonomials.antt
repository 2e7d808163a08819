-- The list of all monomials has each monomial of the degree, in descending order.
use Rattle.std.proofs.Common.{◌≡◌, ◌≢◌, ℕ, zero, suc, ◌+◌, ◌-◌, ◌*◌, ◌<◌, ◌≤◌, Bool, true, false, not, ◌&&◌}
use Rattle.std.proofs.Common.{◌||◌, cond, leb, List, [], ◌∷◌, map, ◌⊎◌, inl, inr, arith, sym, subst, ◌∙◌}
use Rattle.std.proofs.Common.{refl}
use Rattle.std.specs.List.{AllByRecursion as Each}
use Rattle.std.proofs.Math.Nat.{mul-le-mul_left}
use Rattle.std.proofs.lemmas.Bool.{cases_Bool, false≢true}
use Rattle.std.proofs.lemmas.Bool.Decides.{nat_tests}
use Rattle.std.proofs.lemmas.List.Elements.{All-from_recursion}
use Rattle.graded_polynomials.specs.Monomials.{IsMonomial, IsMonomials, IsGreater, is_exterior, fits, degree}
use Rattle.graded_polynomials.proofs.Terms.{each-append}
use Rattle.graded_polynomials.proofs.Monomials.{only-one}
use Rattle.graded_polynomials.specs.AllMonomials.{with_first, all_monomials}
use Rattle.graded_polynomials.proofs.Ordered.{Ordered, ordered-append, ordered-map, each-mapped, each-true}
use Rattle.graded_polynomials.proofs.Ordered.{pairs-of, greater-after, greater-before, Stands, stands-left}
use Rattle.graded_polynomials.proofs.Ordered.{stands-right, stands-map}

pub leb-of : (x y : ℕ) → x ≤ y → leb x y ≡ true
leb-of x y l = grind (arith, nat_tests)

pub leb-is : (x y : ℕ) → leb x y ≡ true → x ≤ y
leb-is x y l = grind (arith, nat_tests, l)

pub leb-not : (x y : ℕ) → y < x → leb x y ≡ false
leb-not x y l = grind (arith, nat_tests)

and-left : (a b : Bool) → (a && b) ≡ true → a ≡ true
and-left true b e = refl
and-left false b e = e

and-right : (a b : Bool) → (a && b) ≡ true → b ≡ true
and-right true b e = e
and-right false b e = absurd (false≢true e)

-- a first exponent that fits
abbrev Admits : ℕ → ℕ → ℕ → Type 0
Admits q g e = (not (is_exterior q g) || leb e 1) ≡ true

monomial-with : (q g : ℕ) (ds : List ℕ) (d r e : ℕ) (m : List ℕ) → Admits q g e → g * e + r ≡ d
    → (m ≡ [] → e ≢ 0) → IsMonomial q ds r m → IsMonomial q (g ∷ ds) d (e ∷ m)
monomial-with q g ds d r e m a s t M = record {
  within = M.within;
  trimmed = (t, M.trimmed);
  fitting = rw (a, M.fitting) refl;
  degree_is = omega (arith, s, M.degree_is);
}

-- each of the list is a monomial
first-each : (q g : ℕ) (ds : List ℕ) (d : ℕ) → 0 < d
    → ((r : ℕ) → Each (IsMonomial q ds r) (all_monomials q ds r)) → (e : ℕ) → ((x : ℕ) → x ≤ e → Admits q g x)
    → Each (IsMonomial q (g ∷ ds) d) (with_first (λ r. all_monomials q ds r) g d e)
first-each q g ds d p h zero a = each-mapped (IsMonomial q ds d) (IsMonomial q (g ∷ ds) d) (λ m. 0 ∷ m)
    (all_monomials q ds d)
    (λ m M. monomial-with q g ds d d 0 m (a 0 (omega arith)) (omega arith) (λ z. absurd (some m z M)) M) (h d)
  where
    some : (m : List ℕ) → m ≡ [] → IsMonomial q ds d m → ⊥
    some m z M = let e : degree ds [] ≡ d = subst (λ m. degree ds m ≡ d) z M.degree_is in
        omega (arith, e, nil ds)
      where
        nil : (ds : List ℕ) → degree ds [] ≡ 0
        nil [] = refl
        nil (g ∷ ds) = refl
first-each q g ds d p h (suc e) a = go (cases_Bool (leb (suc e * g) d))
    (first-each q g ds d p h e (λ x l. a x (omega arith)))
  where
    go : (leb (suc e * g) d ≡ true) ⊎ (leb (suc e * g) d ≡ false)
        → Each (IsMonomial q (g ∷ ds) d) (with_first (λ r. all_monomials q ds r) g d e)
        → Each (IsMonomial q (g ∷ ds) d) (with_first (λ r. all_monomials q ds r) g d (suc e))
    go (inl t) r = rw t (each-append (IsMonomial q (g ∷ ds) d)
        (map (λ m. suc e ∷ m) (all_monomials q ds (d - suc e * g)))
        (with_first (λ r. all_monomials q ds r) g d e)
        (each-mapped (IsMonomial q ds (d - suc e * g)) (IsMonomial q (g ∷ ds) d) (λ m. suc e ∷ m)
        (all_monomials q ds (d - suc e * g))
        (λ m M. monomial-with q g ds d (d - suc e * g) (suc e) m (a (suc e) (omega arith))
        (let l = leb-is (suc e * g) d t in omega (arith, l)) (λ z k. cc) M) (h (d - suc e * g))) r)
    go (inr t) r = rw t r

admits-one : (q g : ℕ) → is_exterior q g ≡ true → (x : ℕ) → x ≤ 1 → Admits q g x
admits-one q g e x l = rw (e, leb-of x 1 l) refl

admits-all : (q g : ℕ) → is_exterior q g ≡ false → (x : ℕ) → Admits q g x
admits-all q g e x = rw e refl

unit-each : (q : ℕ) (ds : List ℕ) → Each (IsMonomial q ds 0) ([] ∷ [])
unit-each q [] = (record { within = tt; trimmed = tt; fitting = refl; degree_is = refl }, tt)
unit-each q (g ∷ ds) = (record { within = tt; trimmed = tt; fitting = refl; degree_is = refl }, tt)

pub all-each : (q : ℕ) (ds : List ℕ) (d : ℕ) → Each (IsMonomial q ds d) (all_monomials q ds d)
all-each q [] zero = unit-each q []
all-each q [] (suc d) = tt
all-each q (g ∷ ds) zero = unit-each q (g ∷ ds)
all-each q (g ∷ ds) (suc d) = go (cases_Bool (is_exterior q g)) (all-each q ds)
  where
    go : (is_exterior q g ≡ true) ⊎ (is_exterior q g ≡ false)
        → ((r : ℕ) → Each (IsMonomial q ds r) (all_monomials q ds r))
        → Each (IsMonomial q (g ∷ ds) (suc d)) (all_monomials q (g ∷ ds) (suc d))
    go (inl e) h = subst (λ b. Each (IsMonomial q (g ∷ ds) (suc d))
        (with_first (λ r. all_monomials q ds r) g (suc d) (cond b 1 (suc d)))) (sym e)
        (first-each q g ds (suc d) (omega arith) h 1 (admits-one q g e))
    go (inr e) h = subst (λ b. Each (IsMonomial q (g ∷ ds) (suc d))
        (with_first (λ r. all_monomials q ds r) g (suc d) (cond b 1 (suc d)))) (sym e)
        (first-each q g ds (suc d) (omega arith) h (suc d) (λ x l. admits-all q g e x))

-- the list descends
first-ordered : (q g : ℕ) (ds : List ℕ) (d : ℕ) → ((r : ℕ) → Ordered (all_monomials q ds r)) → (e : ℕ)
    → Ordered (with_first (λ r. all_monomials q ds r) g d e)
    × ((x : ℕ) (m : List ℕ) → e < x → Each (λ n. IsGreater (x ∷ m) n)
    (with_first (λ r. all_monomials q ds r) g d e))
first-ordered q g ds d h zero = (
  ordered-map (λ m. 0 ∷ m) (all_monomials q ds d) (λ m n. greater-after 0 m n) (h d),
  (λ x m l. each-true (λ (n : List ℕ). IsGreater (x ∷ m) n) (λ n. 0 ∷ n) (all_monomials q ds d)
      (λ n. greater-before x 0 m n l)),
)
first-ordered q g ds d h (suc e) = go (cases_Bool (leb (suc e * g) d)) (first-ordered q g ds d h e)
  where
    below : List (List ℕ)
    below = with_first (λ r. all_monomials q ds r) g d e

    go : (leb (suc e * g) d ≡ true) ⊎ (leb (suc e * g) d ≡ false) → Ordered below
        × ((x : ℕ) (m : List ℕ) → e < x → Each (λ n. IsGreater (x ∷ m) n) below)
        → Ordered (with_first (λ r. all_monomials q ds r) g d (suc e))
        × ((x : ℕ) (m : List ℕ) → suc e < x
        → Each (λ n. IsGreater (x ∷ m) n) (with_first (λ r. all_monomials q ds r) g d (suc e)))
    go (inl t) r = rw t (
      ordered-append (map (λ m. suc e ∷ m) (all_monomials q ds (d - suc e * g))) below
          (ordered-map (λ m. suc e ∷ m) (all_monomials q ds (d - suc e * g))
          (λ m n. greater-after (suc e) m n) (h (d - suc e * g))) r.0
          (each-true (λ (m : List ℕ). Each (λ n. IsGreater m n) below) (λ m. suc e ∷ m)
          (all_monomials q ds (d - suc e * g)) (λ m. r.1 (suc e) m (omega arith))),
      (λ x m l. each-append (λ (n : List ℕ). IsGreater (x ∷ m) n)
          (map (λ m. suc e ∷ m) (all_monomials q ds (d - suc e * g))) below
          (each-true (λ (n : List ℕ). IsGreater (x ∷ m) n) (λ m. suc e ∷ m)
          (all_monomials q ds (d - suc e * g)) (λ n. greater-before x (suc e) m n l))
          (r.1 x m (omega arith))),
    )
    go (inr t) r = rw t (r.0, (λ x m l. r.1 x m (omega arith)))

pub all-ordered : (q : ℕ) (ds : List ℕ) (d : ℕ) → Ordered (all_monomials q ds d)
all-ordered q [] zero = (tt, tt)
all-ordered q [] (suc d) = tt
all-ordered q (g ∷ ds) zero = (tt, tt)
all-ordered q (g ∷ ds) (suc d) = (first-ordered q g ds (suc d) (all-ordered q ds)
    (cond (is_exterior q g) 1 (suc d))).0

-- each monomial is in the list
first-has : (q g : ℕ) (ds : List ℕ) (d x : ℕ) (m : List ℕ) → x * g ≤ d
    → Stands m (all_monomials q ds (d - x * g)) → (e : ℕ) → x ≤ e
    → Stands (x ∷ m) (with_first (λ r. all_monomials q ds r) g d e)
first-has q g ds d x m l h zero b = let z : x ≡ 0 = omega arith in
    rw z (stands-map (λ m. 0 ∷ m) m (all_monomials q ds d)
    (subst (λ r. Stands m (all_monomials q ds r)) (let k : d - x * g ≡ d = rw z (omega arith) in k) h))
first-has q g ds d x m l h (suc e) b = go (cases_Bool (leb (suc e * g) d)) (first-has q g ds d x m l h e)
    (cases (suc e) x b)
  where
    cases : (n x : ℕ) → x ≤ n → (x ≡ n) ⊎ (x < n)
    cases n x l = grind arith

    go : (leb (suc e * g) d ≡ true) ⊎ (leb (suc e * g) d ≡ false)
        → (x ≤ e → Stands (x ∷ m) (with_first (λ r. all_monomials q ds r) g d e)) → (x ≡ suc e) ⊎ (x < suc e)
        → Stands (x ∷ m) (with_first (λ r. all_monomials q ds r) g d (suc e))
    go (inl t) r (inl z) = rw (t, z) (stands-left (suc e ∷ m) _ _
        (stands-map (λ m. suc e ∷ m) m (all_monomials q ds (d - suc e * g)) (rw z at h)))
    go (inl t) r (inr k) = rw t (stands-right (x ∷ m) _ _ (r (omega arith)))
    go (inr t) r (inl z) = absurd (false≢true (sym t ∙ leb-of (suc e * g) d (rw z at l)))
    go (inr t) r (inr k) = rw t (r (omega arith))

pub all-has : (q : ℕ) (ds : List ℕ) → Each (λ d. 0 < d) ds → (d : ℕ) (m : List ℕ) → IsMonomial q ds d m
    → Stands m (all_monomials q ds d)
all-has q ds p zero m M = rw (only-one q ds m p M) (unit ds)
  where
    unit : (ds : List ℕ) → Stands [] (all_monomials q ds 0)
    unit [] = (0, omega arith, refl)
    unit (g ∷ ds) = (0, omega arith, refl)
all-has q [] p (suc d) m M = absurd (let e = M.degree_is in omega (arith, e))
all-has q (g ∷ ds) p (suc d) [] M = absurd (let e = M.degree_is in omega (arith, e))
all-has q (g ∷ ds) p (suc d) (x ∷ m) M =
    first-has q g ds (suc d) x m small (all-has q ds p.1 (suc d - x * g) m rest)
    (cond (is_exterior q g) 1 (suc d)) (bound (cases_Bool (is_exterior q g)))
  where
    small : x * g ≤ suc d
    small = let e = M.degree_is in omega (arith, e)

    rest : IsMonomial q ds (suc d - x * g) m
    rest = record {
      within = M.within;
      trimmed = M.trimmed.1;
      fitting = and-right (not (is_exterior q g) || leb x 1) (fits q ds m) M.fitting;
      degree_is = let e = M.degree_is in omega (arith, e);
    }

    bound : (is_exterior q g ≡ true) ⊎ (is_exterior q g ≡ false) → x ≤ cond (is_exterior q g) 1 (suc d)
    bound (inl e) = rw e (leb-is x 1 (rw e at
        (and-left (not (is_exterior q g) || leb x 1) (fits q ds m) M.fitting)))
    bound (inr e) = rw e (let k = mul-le-mul_left x p.0 in omega (arith, k, small))

pub all-monomials : (q : ℕ) (ds : List ℕ) → Each (λ d. 0 < d) ds → (d : ℕ)
    → IsMonomials q ds d (all_monomials q ds d)
all-monomials q ds p d = record {
  each = λ i l. All-from_recursion (IsMonomial q ds d) (all_monomials q ds d) (all-each q ds d) i [] l;
  all = λ m M. all-has q ds p d m M;
  descending = λ i j b l. pairs-of (all_monomials q ds d) (all-ordered q ds d) i j [] b l;
}
