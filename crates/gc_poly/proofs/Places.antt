-- A term put into descending terms, changed or taken out.
use Rattle.std.proofs.Common.{◌≡◌, ◌≢◌, ℕ, zero, suc, ◌+◌, ◌%◌, ◌<◌, ◌≤◌, List, [], ◌∷◌, ◌++◌, true, false}
use Rattle.std.proofs.Common.{cond, ◌⊎◌, inl, inr, arith, sym, ◌∙◌, refl}
use Rattle.std.specs.Prelude.{AllPairs}
use Rattle.std.specs.List.{AllByRecursion as Each}
use Rattle.std.proofs.lemmas.List.Elements.{All-from_recursion}
use Rattle.std.proofs.Math.Nat.{mod-lt}
use native.Mathlib.Nat.{zero-lt-suc}
use Rattle.std.proofs.lemmas.Bool.{cases_Bool}
use Rattle.linear_algebra.specs.Modular.{IsCongruent}
use Rattle.graded_polynomials.specs.Monomials.{IsGreater, IsMonomial, same}
use Rattle.graded_polynomials.specs.Polynomials.{Term, coefficient, IsSame, IsPolynomial}
use Rattle.gc_poly.proofs.Edits.{put, change, erase}
use Rattle.linear_algebra.proofs.Congruences.{congruent_eq, congruent_trans, congruent_add, congruent_refl}
use Rattle.linear_algebra.proofs.Congruences.{congruent_cancel, congruent_mod}
use Rattle.graded_polynomials.proofs.Terms.{coefficient-append, each-map}
use Rattle.graded_polynomials.proofs.Exponents.{greater-trans}
use Rattle.graded_polynomials.proofs.Stored.{Descending, descending-from}

pub pairs-from : (f : List Term) → Descending f → AllPairs (λ s t. IsGreater s.monomial t.monomial) f
pairs-from [] h i j d l b = absurd (omega arith)
pairs-from (t ∷ f) h zero zero d l b = absurd (omega arith)
pairs-from (t ∷ f) h zero (suc j) d l b =
    All-from_recursion (λ (s : Term). IsGreater t.monomial s.monomial) f h.0 j d (omega (arith, b))
pairs-from (t ∷ f) h (suc i) zero d l b = absurd (omega arith)
pairs-from (t ∷ f) h (suc i) (suc j) d l b = pairs-from f h.1 i j d (omega (arith, l)) (omega (arith, b))

-- the first i terms are greater than m
abbrev pub Above : ℕ → List ℕ → List Term → Type 0
Above zero m f = Unit {0}
Above (suc i) m [] = ⊥
Above (suc i) m (s ∷ f) = IsGreater s.monomial m × Above i m f

-- P holds of the term at i, where there is one
abbrev pub At : ℕ → (Term → Type 0) → List Term → Type 0
At i P [] = Unit {0}
At zero P (s ∷ f) = P s
At (suc i) P (s ∷ f) = At i P f

each-put : (P : Term → Type 0) (i : ℕ) (t : Term) (f : List Term) → P t → Each P f → Each P (put i t f)
each-put P zero t f p h = (p, h)
each-put P (suc i) t [] p h = (p, tt)
each-put P (suc i) t (s ∷ f) p h = (h.0, each-put P i t f p h.1)

each-change : (P : Term → Type 0) (i c : ℕ) (f : List Term)
    → ((t : Term) → P t → P record { scalar = c; monomial = t.monomial }) → Each P f → Each P (change i c f)
each-change P i c [] p h = tt
each-change P zero c (s ∷ f) p h = (p s h.0, h.1)
each-change P (suc i) c (s ∷ f) p h = (h.0, each-change P i c f p h.1)

each-erase : (P : Term → Type 0) (i : ℕ) (f : List Term) → Each P f → Each P (erase i f)
each-erase P i [] h = tt
each-erase P zero (s ∷ f) h = h.1
each-erase P (suc i) (s ∷ f) h = (h.0, each-erase P i f h.1)

descending-put : (i : ℕ) (t : Term) (f : List Term) → Descending f → Above i t.monomial f
    → At i (λ s. IsGreater t.monomial s.monomial) f → Descending (put i t f)
descending-put zero t [] d a b = (tt, tt)
descending-put zero t (s ∷ f) d a b = (
  (
    b,
    each-map (λ (u : Term). IsGreater s.monomial u.monomial) (λ (u : Term). IsGreater t.monomial u.monomial) f
        (λ u g. greater-trans t.monomial s.monomial u.monomial b g) d.0,
  ),
  d,
)
descending-put (suc i) t [] d a b = absurd a
descending-put (suc i) t (s ∷ f) d a b =
    (each-put (λ (u : Term). IsGreater s.monomial u.monomial) i t f a.0 d.0, descending-put i t f d.1 a.1 b)

descending-change : (i c : ℕ) (f : List Term) → Descending f → Descending (change i c f)
descending-change i c [] d = tt
descending-change zero c (s ∷ f) d = d
descending-change (suc i) c (s ∷ f) d = (
  each-change (λ (u : Term). IsGreater s.monomial u.monomial) i c f
      (λ t g. g) d.0,
  descending-change i c f d.1,
)

descending-erase : (i : ℕ) (f : List Term) → Descending f → Descending (erase i f)
descending-erase i [] d = tt
descending-erase zero (s ∷ f) d = d.1
descending-erase (suc i) (s ∷ f) d = (
  each-erase (λ (u : Term). IsGreater s.monomial u.monomial) i f d.0,
  descending-erase i f d.1,
)

coefficient-put : (i : ℕ) (t : Term) (f : List Term) (n : List ℕ)
    → coefficient (put i t f) n ≡ coefficient (t ∷ f) n
coefficient-put zero t f n = refl
coefficient-put (suc i) t [] n = refl
coefficient-put (suc i) t (s ∷ f) n = omega (arith, coefficient-put i t f n)

-- the term at i is x times m
abbrev pub IsAt : ℕ → ℕ → List ℕ → List Term → Type 0
IsAt i x m [] = ⊥
IsAt zero x m (s ∷ f) = (s.scalar ≡ x) × (s.monomial ≡ m)
IsAt (suc i) x m (s ∷ f) = IsAt i x m f

coefficient-change : (i c x : ℕ) (m : List ℕ) (f : List Term) → IsAt i x m f → (n : List ℕ)
    → coefficient (change i c f) n + cond (same m n) x 0 ≡ coefficient f n + cond (same m n) c 0
coefficient-change i c x m [] h n = absurd h
coefficient-change zero c x m (s ∷ f) h n = rw (h.0, h.1) (omega arith)
coefficient-change (suc i) c x m (s ∷ f) h n = omega (arith, coefficient-change i c x m f h n)

coefficient-erase : (i x : ℕ) (m : List ℕ) (f : List Term) → IsAt i x m f → (n : List ℕ)
    → coefficient (erase i f) n + cond (same m n) x 0 ≡ coefficient f n
coefficient-erase i x m [] h n = absurd h
coefficient-erase zero x m (s ∷ f) h n = rw (h.0, h.1) (omega arith)
coefficient-erase (suc i) x m (s ∷ f) h n = omega (arith, coefficient-erase i x m f h n)

module _ (q : ℕ) (ds : List ℕ) (d : ℕ) (f : List Term) (F : IsPolynomial q ds d f) (c : ℕ) (m : List ℕ)
    (M : IsMonomial q ds d m) where
  abbrev pub Added : List Term → Type 0
  Added g = IsPolynomial q ds d g × IsSame q g (f ++ record { scalar = c; monomial = m } ∷ [])

  sum-at : (n : List ℕ) → coefficient (f ++ record { scalar = c; monomial = m } ∷ []) n
      ≡ coefficient f n + cond (same m n) c 0
  sum-at n = coefficient-append f (record { scalar = c; monomial = m } ∷ []) n ∙ omega arith

  pub added-put : (i : ℕ) → 0 < c → c ≤ q → Above i m f → At i (λ s. IsGreater m s.monomial) f
      → Added (put i (record { scalar = c; monomial = m }) f)
  added-put i l u a b = (
    record {
      over = each-put (λ (t : Term). IsMonomial q ds d t.monomial) i _ f M F.over;
      coefficients = each-put (λ (t : Term). (0 < t.scalar) × (t.scalar ≤ q)) i _ f (l, u) F.coefficients;
      descending = pairs-from _ (descending-put i _ f (descending-from f F.descending) a b);
    },
    record { at = λ n. congruent_eq (coefficient-put i _ f n ∙ omega (arith, sum-at n)) },
  )

  pub added-change : (i x : ℕ) → IsAt i x m f → (x + c) % suc q ≢ 0 → Added (change i ((x + c) % suc q) f)
  added-change i x h z = (
    record {
      over = each-change (λ (t : Term). IsMonomial q ds d t.monomial) i s f (λ t k. k) F.over;
      coefficients = each-change (λ (t : Term). (0 < t.scalar)
          × (t.scalar ≤ q)) i s f (λ t k. (
            omega (arith, z),
            omega (arith, mod-lt (x + c) (zero-lt-suc q)),
          )) F.coefficients;
      descending = pairs-from _ (descending-change i s f (descending-from f F.descending));
    },
    record { at = λ n. same-at n (cases_Bool (same m n)) (coefficient-change i s x m f h n) (sum-at n) },
  )
    where
      s : ℕ
      s = (x + c) % suc q

      same-at : (n : List ℕ) → (same m n ≡ true) ⊎ (same m n ≡ false)
          → coefficient (change i s f) n + cond (same m n) x 0 ≡ coefficient f n + cond (same m n) s 0
          → coefficient (f ++ record { scalar = c; monomial = m } ∷ []) n ≡ coefficient f n + cond
          (same m n) c 0
          → IsCongruent (suc q) (coefficient (change i s f) n)
          (coefficient (f ++ record { scalar = c; monomial = m } ∷ []) n)
      same-at n (inl e) k l =
          let k' : coefficient (change i s f) n + x ≡ coefficient f n + s = rw e at k in
          let l' : coefficient (f ++ record { scalar = c; monomial = m } ∷ []) n ≡ coefficient f n + c =
          rw e at l in
          congruent_cancel x (congruent_trans (congruent_eq k')
          (congruent_trans (congruent_add (congruent_refl (coefficient f n)) (congruent_mod (x + c)))
          (congruent_eq (omega (arith, l')))))
      same-at n (inr e) k l =
          let k' : coefficient (change i s f) n + 0 ≡ coefficient f n + 0 = rw e at k in
          let l' : coefficient (f ++ record { scalar = c; monomial = m } ∷ []) n ≡ coefficient f n + 0 =
          rw e at l in
          congruent_eq (omega (arith, k', l'))

  pub added-erase : (i x : ℕ) → IsAt i x m f → (x + c) % suc q ≡ 0 → Added (erase i f)
  added-erase i x h z = (
    record {
      over = each-erase (λ (t : Term). IsMonomial q ds d t.monomial) i f F.over;
      coefficients = each-erase (λ (t : Term). (0 < t.scalar) × (t.scalar ≤ q)) i f F.coefficients;
      descending = pairs-from _ (descending-erase i f (descending-from f F.descending));
    },
    record { at = λ n. same-at n (cases_Bool (same m n)) (coefficient-erase i x m f h n) (sum-at n) },
  )
    where
      same-at : (n : List ℕ) → (same m n ≡ true) ⊎ (same m n ≡ false)
          → coefficient (erase i f) n + cond (same m n) x 0 ≡ coefficient f n
          → coefficient (f ++ record { scalar = c; monomial = m } ∷ []) n ≡ coefficient f n + cond
          (same m n) c 0
          → IsCongruent (suc q) (coefficient (erase i f) n)
          (coefficient (f ++ record { scalar = c; monomial = m } ∷ []) n)
      same-at n (inl e) k l =
          let k' : coefficient (erase i f) n + x ≡ coefficient f n = rw e at k in
          let l' : coefficient (f ++ record { scalar = c; monomial = m } ∷ []) n ≡ coefficient f n + c =
          rw e at l in
          congruent_trans (congruent_eq (let o : coefficient (erase i f) n ≡ coefficient
          (erase i f) n + 0 = omega arith in o))
          (congruent_trans (congruent_add (congruent_refl (coefficient (erase i f) n))
          (congruent_trans (congruent_eq (sym z)) (congruent_mod (x + c))))
          (congruent_eq (omega (arith, k', l'))))
      same-at n (inr e) k l =
          let k' : coefficient (erase i f) n + 0 ≡ coefficient f n = rw e at k in
          let l' : coefficient (f ++ record { scalar = c; monomial = m } ∷ []) n ≡ coefficient f n + 0 =
          rw e at l in
          congruent_eq (omega (arith, k', l'))
