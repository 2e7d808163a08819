-- A stored polynomial is determined by its coefficients.
use Rattle.std.proofs.Common.{◌≡◌, ◌≢◌, ℕ, suc, ◌+◌, ◌<◌, ◌≤◌, List, [], ◌∷◌, true, false, cond, ◌⊎◌, inl}
use Rattle.std.proofs.Common.{inr, arith, ap, ap₂, sym, ◌∙◌, refl}
use Rattle.std.specs.Prelude.{AllPairs}
use Rattle.std.specs.List.{AllByRecursion as Each}
use Rattle.std.proofs.lemmas.List.Elements.{recursion_from_All}
use Rattle.linear_algebra.specs.Modular.{IsCongruent}
use Rattle.graded_polynomials.specs.Monomials.{IsGreater, same}
use Rattle.graded_polynomials.specs.Polynomials.{Term, coefficient, IsSame, IsPolynomial}
use Rattle.linear_algebra.proofs.Congruences.{congruent_eq, congruent_trans, congruent_cancel, same_below}
use Rattle.graded_polynomials.proofs.Terms.{cases-same, same-self}
use Rattle.graded_polynomials.proofs.Order.{greater-self, greater-both}

abbrev pub Descending : List Term → Type 0
Descending [] = Unit {0}
Descending (t ∷ f) = Each (λ s. IsGreater t.monomial s.monomial) f × Descending f

pub descending-from : (f : List Term) → AllPairs (λ s t. IsGreater s.monomial t.monomial) f → Descending f
descending-from [] h = tt
descending-from (t ∷ f) h = (
  recursion_from_All (λ (s : Term). IsGreater t.monomial s.monomial) f
      (λ k d l. h 0 (suc k) d (omega arith) (omega arith)),
  descending-from f (λ i j d l b. h (suc i) (suc j) d (omega arith) (omega arith)),
)

-- a monomial above all terms does not occur
above-zero : (m : List ℕ) (f : List Term) → Each (λ s. IsGreater m s.monomial) f → coefficient f m ≡ 0
above-zero m [] h = refl
above-zero m (t ∷ f) h = go (cases-same t.monomial m) (above-zero m f h.1)
  where
    go : ((same t.monomial m ≡ true) × (t.monomial ≡ m)) ⊎ ((same t.monomial m ≡ false) × (t.monomial ≢ m))
        → coefficient f m ≡ 0 → coefficient (t ∷ f) m ≡ 0
    go (inl e) z = absurd (greater-self m (rw e.1 at h.0))
    go (inr e) z = rw e.0 (omega (arith, z))

head-is : (t : Term) (f : List Term) → Each (λ s. IsGreater t.monomial s.monomial) f
    → coefficient (t ∷ f) t.monomial ≡ t.scalar
head-is t f h = rw (same-self t.monomial) (omega (arith, above-zero t.monomial f h))

pub among : (m : List ℕ) (P : List ℕ → Type 0) (f : List Term) → Each (λ s. P s.monomial) f
    → (coefficient f m ≡ 0) ⊎ P m
among m P [] h = inl refl
among m P (t ∷ f) h = go (cases-same t.monomial m) (among m P f h.1)
  where
    go : ((same t.monomial m ≡ true) × (t.monomial ≡ m)) ⊎ ((same t.monomial m ≡ false) × (t.monomial ≢ m))
        → (coefficient f m ≡ 0) ⊎ P m → (coefficient (t ∷ f) m ≡ 0) ⊎ P m
    go (inl e) o = inr (rw (← e.1) h.0)
    go (inr e) (inl z) = inl (rw e.0 (omega (arith, z)))
    go (inr e) (inr p) = inr p

-- the coefficient at m of descending terms is 0, or m is the first or below it
below-head : (t : Term) (f : List Term) → Each (λ s. IsGreater t.monomial s.monomial) f → (m : List ℕ)
    → (coefficient (t ∷ f) m ≡ 0) ⊎ (m ≡ t.monomial) ⊎ IsGreater t.monomial m
below-head t f h m = go (cases-same t.monomial m) (among m (IsGreater t.monomial) f h)
  where
    go : ((same t.monomial m ≡ true) × (t.monomial ≡ m)) ⊎ ((same t.monomial m ≡ false) × (t.monomial ≢ m))
        → (coefficient f m ≡ 0) ⊎ IsGreater t.monomial m
        → (coefficient (t ∷ f) m ≡ 0) ⊎ (m ≡ t.monomial) ⊎ IsGreater t.monomial m
    go (inl e) o = inr (inl (sym e.1))
    go (inr e) (inl z) = inl (rw e.0 (omega (arith, z)))
    go (inr e) (inr p) = inr (inr p)

abbrev pub Proper : ℕ → List Term → Type 0
Proper q f = Each (λ t. (0 < t.scalar) × (t.scalar ≤ q)) f

-- stored polynomials with the same coefficients are equal
canonical-equal : (q : ℕ) (f g : List Term) → Proper q f → Proper q g → Descending f → Descending g
    → IsSame q f g → f ≡ g
canonical-equal q [] [] p r d e h = refl
canonical-equal q [] (t ∷ g) p r d e h =
    absurd (let z : IsCongruent (suc q) 0 t.scalar = congruent_trans (h.at t.monomial)
    (congruent_eq (head-is t g e.0)) in
    let k : 0 ≡ t.scalar = same_below z (omega arith) (omega (arith, r.0.1)) in omega (arith, k, r.0.0))
canonical-equal q (s ∷ f) [] p r d e h =
    absurd (let z : IsCongruent (suc q) s.scalar 0 = congruent_trans (congruent_eq (sym (head-is s f d.0)))
    (h.at s.monomial) in
    let k : s.scalar ≡ 0 = same_below z (omega (arith, p.0.1)) (omega arith) in omega (arith, k, p.0.0))
canonical-equal q (s ∷ f) (t ∷ g) p r d e h =
    go (canonical-equal q f g p.1 r.1 d.1 e.1) (below-head t g e.0 s.monomial) (below-head s f d.0 t.monomial)
  where
    zero-left : coefficient (t ∷ g) s.monomial ≡ 0 → ⊥
    zero-left z = let k : s.scalar ≡ 0 =
        same_below (congruent_trans (congruent_eq (sym (head-is s f d.0)))
        (congruent_trans (h.at s.monomial) (congruent_eq z))) (omega (arith, p.0.1)) (omega arith) in omega
        (arith, k, p.0.0)

    zero-right : coefficient (s ∷ f) t.monomial ≡ 0 → ⊥
    zero-right z = let k : 0 ≡ t.scalar =
        same_below (congruent_trans (congruent_eq (sym z))
        (congruent_trans (h.at t.monomial) (congruent_eq (head-is t g e.0)))) (omega arith)
        (omega (arith, r.0.1)) in omega (arith, k, r.0.0)

    equal : (s.monomial ≡ t.monomial) → (IsSame q f g → f ≡ g) → (s ∷ f) ≡ (t ∷ g)
    equal m ih = ap₂ (λ (u : Term) l. u ∷ l) (ap₂ (λ c n. record { scalar = c; monomial = n }) coefs m)
        (ih record { at = rest })
      where
        coefs : s.scalar ≡ t.scalar
        coefs = same_below (congruent_trans (congruent_eq (sym (head-is s f d.0)))
            (congruent_trans (h.at s.monomial) (congruent_eq (ap (coefficient (t ∷ g)) m ∙ head-is t g e.0))))
            (omega (arith, p.0.1)) (omega (arith, r.0.1))

        rest : (n : List ℕ) → IsCongruent (suc q) (coefficient f n) (coefficient g n)
        rest n = congruent_cancel (cond (same t.monomial n) t.scalar 0)
            (congruent_trans (congruent_eq
            (let x : coefficient f n + cond (same t.monomial n) t.scalar 0 ≡ cond
            (same t.monomial n) t.scalar 0 + coefficient f n = omega arith in x))
            (congruent_trans (congruent_eq
            (ap₂ (λ c k. cond (same k n) c 0 + coefficient f n) (sym coefs) (sym m)))
            (congruent_trans (h.at n) (congruent_eq (omega arith)))))

    go : (IsSame q f g → f ≡ g) → (coefficient (t ∷ g) s.monomial ≡ 0) ⊎ (s.monomial ≡ t.monomial)
        ⊎ IsGreater t.monomial s.monomial → (coefficient (s ∷ f) t.monomial ≡ 0) ⊎ (t.monomial ≡ s.monomial)
        ⊎ IsGreater s.monomial t.monomial
        → (s ∷ f) ≡ (t ∷ g)
    go ih (inl z) o = absurd (zero-left z)
    go ih (inr (inl m)) o = equal m ih
    go ih (inr (inr x)) (inl z) = absurd (zero-right z)
    go ih (inr (inr x)) (inr (inl m)) = equal (sym m) ih
    go ih (inr (inr x)) (inr (inr y)) = absurd (greater-both t.monomial s.monomial x y)

pub polynomial-unique : (q : ℕ) (ds : List ℕ) (d e : ℕ) (f g : List Term) → IsPolynomial q ds d f
    → IsPolynomial q ds e g → IsSame q f g → f ≡ g
polynomial-unique q ds d e f g F G h = canonical-equal q f g F.coefficients G.coefficients
    (descending-from f F.descending) (descending-from g G.descending) h
