-- What the edits of `add_term` leave.
use Rattle.std.proofs.Common.{◌≡◌, ◌≢◌, ◌⊎◌, inl, inr, ◌+◌, ◌%◌, ℕ, suc, ◌<◌, ◌≤◌, List, [], ◌∷◌, ◌++◌}
use Rattle.std.proofs.Common.{length, arith, ap, sym, subst, ◌∙◌, refl}
use Rattle.std.specs.Prelude.{slice_index_or, slice_set, insert, remove}
use Rattle.std.proofs.lemmas.Bool.{cases_eq}
use Rattle.graded_polynomials.specs.Monomials.{IsGreater}
use Rattle.graded_polynomials.specs.Polynomials.{Term, Polynomial, IsPolynomial, IsSame}
use Rattle.gc_poly.specs.Generators.{Generators, greatest}
use Rattle.gc_poly.specs.Polynomials.{AreStored, IsOverGenerators, IsMonomialOf, IsSumOf}
use Rattle.gc_poly.proofs.Terms.{added-at, added-before, nothing-added, stored-from}

-- a sum is stored
pub sum-stored : {g : Generators} {d : ℕ} {terms : List Term} (f : Polynomial) → IsSumOf g d terms f
    → AreStored f.terms
sum-stored f h = stored-from f.terms h.over

module _ (g : Generators) (dg : ℕ) (xs : List Term)
    (F : IsOverGenerators g record { degree = dg; terms = xs }) (c : ℕ) (b : c < g.prime) (m : List ℕ)
    (M : IsMonomialOf g dg m) where
  abbrev Sum : List Term → Type 0
  Sum ys = IsSumOf g dg (xs ++ record { scalar = c; monomial = m } ∷ []) record { degree = dg; terms = ys }

  sum-of : (ys : List Term) → IsPolynomial (greatest g) g.degrees dg ys
      × IsSame (greatest g) ys (xs ++ record { scalar = c; monomial = m } ∷ []) → Sum ys
  sum-of ys (p, s) = record { degree_is = refl; over = p; same = s }

  prime-is : suc (greatest g) ≡ g.prime
  prime-is = omega arith

  at-ok : (i : ℕ) → i < length xs → ((d : Term) → (slice_index_or xs i d).monomial ≡ m) → (ys : List Term)
      → ((d : Term) → ((slice_index_or xs i d).scalar + c) % g.prime ≡ 0 → ys ≡ remove xs i)
      → ((d : Term) → ((slice_index_or xs i d).scalar + c) % g.prime ≢ 0
      → ys ≡ slice_set xs i record (slice_index_or xs i d) {
        scalar =
            ((slice_index_or xs i d).scalar + c) % g.prime;
      })
      → Sum ys
  at-ok i l h ys zero other = go (cases_eq ((x.scalar + c) % g.prime) 0)
    where
      default : Term
      default = record { scalar = 0; monomial = [] }

      x : Term
      x = slice_index_or xs i default

      changed : Term
      changed = record x { scalar = (x.scalar + c) % g.prime }

      go : ((x.scalar + c) % g.prime ≡ 0) ⊎ ((x.scalar + c) % g.prime ≡ 0 → ⊥) → Sum ys
      go (inl z) = rw (zero default z) (sum-of (remove xs i)
          ((added-at (greatest g) g.degrees dg xs F c m M i default l (h default) changed).0 (rw prime-is z)))
      go (inr z) = rw (other default z) (sum-of (slice_set xs i changed)
          ((added-at (greatest g) g.degrees dg xs F c m M i default l (h default) changed).1 (rw prime-is z)
          (ap (λ p. (x.scalar + c) % p) (sym prime-is)) refl))

  before-ok : (i : ℕ) → c ≢ 0 → i ≤ length xs
      → ((k : ℕ) (d : Term) → k < i → IsGreater (slice_index_or xs k d).monomial m)
      → ((d : Term) → i < length xs → ((slice_index_or xs i d).monomial ≢ m)
      × (IsGreater (slice_index_or xs i d).monomial m → ⊥))
      → Sum (insert xs i record { scalar = c; monomial = m })
  before-ok i n l above here = sum-of _ (added-before (greatest g) g.degrees dg xs F c m M i
      (omega (arith, n)) (omega arith) l above here)

  nothing-ok : c ≡ 0 → Sum xs
  nothing-ok z = sum-of xs (nothing-added (greatest g) g.degrees dg xs F c m M z)

-- the same where the terms xs and the degree dg are the fields of the polynomial f
module _ (g : Generators) (dg : ℕ) (xs : List Term) (f : Polynomial)
    (e : record { degree = dg; terms = xs } ≡ f) (F : IsOverGenerators g f) (c : ℕ) (b : c < g.prime)
    (m : List ℕ) (M : IsMonomialOf g f.degree m) where
  abbrev pub Added : List Term → Type 0
  Added ys = IsSumOf g f.degree (f.terms ++ record { scalar = c; monomial = m } ∷ []) record {
    degree = dg;
    terms = ys;
  }

  over : IsOverGenerators g record { degree = dg; terms = xs }
  over = subst (IsOverGenerators g) (sym e) F

  monomial : IsMonomialOf g dg m
  monomial = subst (λ (f : Polynomial). IsMonomialOf g f.degree m) (sym e) M

  added : (ys : List Term) → IsSumOf g dg
      (xs ++ record { scalar = c; monomial = m } ∷ []) record { degree = dg; terms = ys } → Added ys
  added ys h = subst (λ (f : Polynomial). IsSumOf g f.degree
      (f.terms ++ record { scalar = c; monomial = m } ∷ []) record { degree = dg; terms = ys }) e h

  pub changed-there : (p i : ℕ) → p ≡ g.prime → (zs : List Term) → zs ≡ xs → i < length zs
      → ((d : Term) → (slice_index_or zs i d).monomial ≡ m) → (ys : List Term)
      → ((d : Term) → ((slice_index_or xs i d).scalar + c) % p ≡ 0 → ys ≡ remove xs i)
      → ((d : Term) → ((slice_index_or xs i d).scalar + c) % p ≢ 0
      → ys ≡ slice_set xs i record (slice_index_or xs i d) {
        scalar =
            ((slice_index_or xs i d).scalar + c) % p;
      })
      → Added ys
  changed-there p i k zs n l h ys zero other =
      added ys (at-ok g dg xs over c b m monomial i (subst (λ zs. i < length zs) n l)
      (λ d. ap (λ zs. (slice_index_or zs i d).monomial) (sym n) ∙ h d) ys
      (λ d z. zero d (ap (λ p. ((slice_index_or xs i d).scalar + c) % p) k ∙ z))
      (λ d z. other d (λ y. z (ap (λ p. ((slice_index_or xs i d).scalar + c) % p) (sym k) ∙ y))
      ∙ ap (λ p. slice_set xs i record
      (slice_index_or xs i d) { scalar = ((slice_index_or xs i d).scalar + c) % p }) k))

  pub put-there : (i : ℕ) → c ≢ 0 → (zs : List Term) → zs ≡ xs → i ≤ length zs
      → ((k : ℕ) (d : Term) → k < i → IsGreater (slice_index_or zs k d).monomial m)
      → ((d : Term) → i < length zs → ((slice_index_or zs i d).monomial ≢ m)
      × (IsGreater (slice_index_or zs i d).monomial m → ⊥))
      → (n : List ℕ) → n ≡ m → (t : Term) → t ≡ record { scalar = c; monomial = n } → (ys : List Term)
      → ys ≡ insert xs i t → Added ys
  put-there i z zs n l above here m' k t v ys w =
      subst Added (sym (w ∙ ap (insert xs i) (v ∙ ap (λ m'. record { scalar = c; monomial = m' }) k)))
      (added _ (before-ok g dg xs over c b m monomial i z (subst (λ zs. i ≤ length zs) n l)
      (subst (λ (zs : List Term). (k : ℕ) (d : Term) → k < i
      → IsGreater (slice_index_or zs k d).monomial m) n above)
      (subst (λ (zs : List Term). (d : Term) → i < length zs → ((slice_index_or zs i d).monomial ≢ m)
      × (IsGreater (slice_index_or zs i d).monomial m → ⊥)) n here)))

  pub left-alone : c ≡ 0 → IsSumOf g f.degree (f.terms ++ record { scalar = c; monomial = m } ∷ []) f
  left-alone z = subst (λ (f : Polynomial). IsSumOf g f.degree
      (f.terms ++ record { scalar = c; monomial = m } ∷ []) f) e (nothing-ok g dg xs over c b m monomial z)
