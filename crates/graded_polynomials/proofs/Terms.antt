-- Sums of terms by their coefficients.
use Rattle.std.proofs.Common.{◌≡◌, ◌≢◌, ℕ, suc, ◌+◌, ◌*◌, ◌≤◌, List, [], ◌∷◌, ◌++◌, length, true, false, eqb}
use Rattle.std.proofs.Common.{cond, ◌⊎◌, inl, inr, arith, ap, ap₂, sym, ◌∙◌, refl}
use Rattle.std.proofs.lemmas.Bool.{cases_Bool}
use Rattle.std.proofs.lemmas.Bool.Decides.{nat_tests}
use Rattle.std.specs.List.{AllByRecursion as Each}
use Rattle.graded_polynomials.specs.Monomials.{same, IsMonomial}
use Rattle.graded_polynomials.specs.Polynomials.{Term, coefficient, scaled, IsSame, IsOver}
use Rattle.linear_algebra.proofs.Congruences.{congruent_refl, congruent_add, congruent_trans, congruent_eq}
use Rattle.linear_algebra.proofs.Congruences.{congruent_sym, congruent_mul_left}

pub eqb-self : (x : ℕ) → eqb x x ≡ true
eqb-self x = grind (arith, nat_tests)

pub eqb-true : (x y : ℕ) → eqb x y ≡ true → x ≡ y
eqb-true x y h = grind (arith, nat_tests)

pub eqb-false : (x y : ℕ) → x ≢ y → eqb x y ≡ false
eqb-false x y h = grind (arith, nat_tests)

pub false≢true : {A : Type 0} → false ≡ true → A
false≢true e = absurd cc

pub same-self : (m : List ℕ) → same m m ≡ true
same-self [] = refl
same-self (x ∷ m) = rw (eqb-self x) (same-self m)

pub same-equal : (a b : List ℕ) → same a b ≡ true → a ≡ b
same-equal [] [] h = refl
same-equal [] (y ∷ b) h = false≢true h
same-equal (x ∷ a) [] h = false≢true h
same-equal (x ∷ a) (y ∷ b) h = go (cases_Bool (eqb x y)) (same-equal a b)
  where
    go : (eqb x y ≡ true) ⊎ (eqb x y ≡ false) → (same a b ≡ true → a ≡ b) → (x ∷ a) ≡ (y ∷ b)
    go (inl e) ih = ap₂ (λ x a. x ∷ a) (eqb-true x y e) (ih (rw e at h))
    go (inr e) ih = false≢true (rw e at h)

pub cases-same : (a b : List ℕ) → ((same a b ≡ true) × (a ≡ b)) ⊎ ((same a b ≡ false) × (a ≢ b))
cases-same a b = go (cases_Bool (same a b))
  where
    go : (same a b ≡ true) ⊎ (same a b ≡ false) → ((same a b ≡ true) × (a ≡ b))
        ⊎ ((same a b ≡ false) × (a ≢ b))
    go (inl e) = inl (e, same-equal a b e)
    go (inr e) = inr (e, (λ p. false≢true (sym e ∙ rw p (same-self b))))

pub coefficient-append : (f g : List Term) (m : List ℕ)
    → coefficient (f ++ g) m ≡ coefficient f m + coefficient g m
coefficient-append [] g m = omega arith
coefficient-append (t ∷ f) g m = omega (arith, coefficient-append f g m)

pub coefficient-scaled : (c : ℕ) (f : List Term) (m : List ℕ)
    → coefficient (scaled c f) m ≡ c * coefficient f m
coefficient-scaled c [] m = omega arith
coefficient-scaled c (t ∷ f) m = go (cases_Bool (same t.monomial m)) (coefficient-scaled c f m)
  where
    go : (same t.monomial m ≡ true) ⊎ (same t.monomial m ≡ false)
        → coefficient (scaled c f) m ≡ c * coefficient f m
        → cond (same t.monomial m) (c * t.scalar) 0 + coefficient (scaled c f) m ≡ c *
        (cond (same t.monomial m) t.scalar 0 + coefficient f m)
    go (inl e) ih = rw e (omega (arith, ih))
    go (inr e) ih = rw e (omega (arith, ih))

-- f without its terms at m
abbrev pub removed : List ℕ → List Term → List Term
removed m [] = []
removed m (t ∷ f) = cond (same t.monomial m) (removed m f) (t ∷ removed m f)

pub length-removed : (m : List ℕ) (f : List Term) → length (removed m f) ≤ length f
length-removed m [] = omega arith
length-removed m (t ∷ f) = go (cases_Bool (same t.monomial m)) (length-removed m f)
  where
    go : (same t.monomial m ≡ true) ⊎ (same t.monomial m ≡ false) → length (removed m f) ≤ length f
        → length (cond (same t.monomial m) (removed m f) (t ∷ removed m f)) ≤ suc (length f)
    go (inl e) ih = rw e (omega (arith, ih))
    go (inr e) ih = rw e (omega (arith, ih))

pub coefficient-removed : (m : List ℕ) (f : List Term) → coefficient (removed m f) m ≡ 0
coefficient-removed m [] = refl
coefficient-removed m (t ∷ f) = go (cases_Bool (same t.monomial m)) (coefficient-removed m f)
  where
    go : (same t.monomial m ≡ true) ⊎ (same t.monomial m ≡ false) → coefficient (removed m f) m ≡ 0
        → coefficient (cond (same t.monomial m) (removed m f) (t ∷ removed m f)) m ≡ 0
    go (inl e) ih = rw e ih
    go (inr e) ih = rw (e, e) (omega (arith, ih))

pub coefficient-kept : (m : List ℕ) (f : List Term) (n : List ℕ) → n ≢ m
    → coefficient (removed m f) n ≡ coefficient f n
coefficient-kept m [] n d = refl
coefficient-kept m (t ∷ f) n d = go (cases-same t.monomial m) (cases-same t.monomial n)
    (coefficient-kept m f n d)
  where
    go : ((same t.monomial m ≡ true) × (t.monomial ≡ m)) ⊎ ((same t.monomial m ≡ false) × (t.monomial ≢ m))
        → ((same t.monomial n ≡ true) × (t.monomial ≡ n)) ⊎ ((same t.monomial n ≡ false) × (t.monomial ≢ n))
        → coefficient (removed m f) n ≡ coefficient f n
        → coefficient (cond (same t.monomial m) (removed m f) (t ∷ removed m f)) n ≡ cond
        (same t.monomial n) t.scalar 0 + coefficient f n
    go (inl e) (inl k) ih = absurd (d (sym k.1 ∙ e.1))
    go (inl e) (inr k) ih = rw (e.0, k.0) (omega (arith, ih))
    go (inr e) o ih = rw e.0 (ap (λ z. cond (same t.monomial n) t.scalar 0 + z) ih)

pub same-refl : {q : ℕ} (f : List Term) → IsSame q f f
same-refl f = record { at = λ m. congruent_refl (coefficient f m) }

pub same-sym : {q : ℕ} {f g : List Term} → IsSame q f g → IsSame q g f
same-sym h = record { at = λ m. congruent_sym (h.at m) }

pub same-trans : {q : ℕ} {f g h : List Term} → IsSame q f g → IsSame q g h → IsSame q f h
same-trans a b = record { at = λ m. congruent_trans (a.at m) (b.at m) }

pub same-append : {q : ℕ} {f f' g g' : List Term} → IsSame q f f' → IsSame q g g'
    → IsSame q (f ++ g) (f' ++ g')
same-append {q} {f} {f'} {g} {g'} a b = record {
  at = λ m.
      congruent_trans (congruent_eq (coefficient-append f g m))
      (congruent_trans (congruent_add (a.at m) (b.at m)) (congruent_eq (sym (coefficient-append f' g' m))));
}

pub same-scaled : {q : ℕ} (c : ℕ) {f g : List Term} → IsSame q f g → IsSame q (scaled c f) (scaled c g)
same-scaled c {f} {g} a = record {
  at = λ m.
      congruent_trans (congruent_eq (coefficient-scaled c f m))
      (congruent_trans (congruent_mul_left c (a.at m)) (congruent_eq (sym (coefficient-scaled c g m))));
}

-- what holds of the elements of two lists
pub each-append : {X : Type 0} (P : X → Type 0) (xs ys : List X) → Each P xs → Each P ys → Each P (xs ++ ys)
each-append P [] ys a b = b
each-append P (x ∷ xs) ys a b = (a.0, each-append P xs ys a.1 b)

pub each-map : {X : Type 0} (P Q : X → Type 0) (xs : List X) → ((x : X) → P x → Q x) → Each P xs → Each Q xs
each-map P Q [] h a = tt
each-map P Q (x ∷ xs) h a = (h x a.0, each-map P Q xs h a.1)

pub over-scaled : (q : ℕ) (ds : List ℕ) (d c : ℕ) (f : List Term) → IsOver q ds d f
    → IsOver q ds d (scaled c f)
over-scaled q ds d c [] h = tt
over-scaled q ds d c (t ∷ f) h = (h.0, over-scaled q ds d c f h.1)

-- a monomial of another degree does not occur
pub occurs : (q : ℕ) (ds : List ℕ) (d : ℕ) (f : List Term) → IsOver q ds d f → (m : List ℕ)
    → IsMonomial q ds d m ⊎ (coefficient f m ≡ 0)
occurs q ds d [] h m = inr refl
occurs q ds d (t ∷ f) h m = go (cases-same t.monomial m) (occurs q ds d f h.1 m)
  where
    go : ((same t.monomial m ≡ true) × (t.monomial ≡ m)) ⊎ ((same t.monomial m ≡ false) × (t.monomial ≢ m))
        → IsMonomial q ds d m ⊎ (coefficient f m ≡ 0)
        → IsMonomial q ds d m ⊎ (cond (same t.monomial m) t.scalar 0 + coefficient f m ≡ 0)
    go (inl e) o = inl (rw (← e.1) h.0)
    go (inr e) (inl o) = inl o
    go (inr e) (inr o) = inr (rw e.0 (omega (arith, o)))
