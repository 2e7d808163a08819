-- The stored list of terms, edited by a call, is the polynomial with a term added.
use Rattle.std.proofs.Common.{◌≡◌, ◌≢◌, ◌⊎◌, inl, inr, true, false, ◌+◌, ◌%◌, ℕ, zero, suc, ◌<◌, ◌≤◌, List}
use Rattle.std.proofs.Common.{[], ◌∷◌, ◌++◌, length, arith, ap, sym, ◌∙◌, refl}
use Rattle.std.specs.Prelude.{slice_index_or, slice_set, insert, remove}
use Rattle.graded_polynomials.specs.Polynomials.{Term, IsPolynomial, IsSame, coefficient}
use Rattle.linear_algebra.specs.Modular.{IsCongruent}
use Rattle.linear_algebra.proofs.Congruences.{congruent_eq}
use Rattle.graded_polynomials.proofs.Terms.{each-map, coefficient-append}
use Rattle.graded_polynomials.proofs.Exponents.{cases-greater}
use Rattle.std.specs.List.{AllByRecursion as Each}
use Rattle.std.proofs.lemmas.Bool.{cases_Bool}
use Rattle.std.proofs.lemmas.List.Elements.{All-from_recursion}
use Rattle.graded_polynomials.specs.Monomials.{IsGreater, IsMonomial, same}
use Rattle.gc_poly.specs.Polynomials.{AreStored}
use Rattle.gc_poly.proofs.Edits.{put, change, erase}
use Rattle.gc_poly.proofs.Places.{Above, At, IsAt, added-put, added-change, added-erase}

remove-is : (xs : List Term) (i : ℕ) → i < length xs → remove xs i ≡ erase i xs
remove-is [] i l = absurd (omega arith)
remove-is (x ∷ xs) zero l = refl
remove-is (x ∷ xs) (suc i) l = ap (λ ts. x ∷ ts) (remove-is xs i (omega arith))

set-is : (xs : List Term) (i : ℕ) (t d : Term) → i < length xs → t.monomial ≡ (slice_index_or xs i d).monomial
    → slice_set xs i t ≡ change i t.scalar xs
set-is [] i t d l e = absurd (omega arith)
set-is (x ∷ xs) zero t d l e = ap (λ m. record { scalar = t.scalar; monomial = m } ∷ xs) e
set-is (x ∷ xs) (suc i) t d l e = ap (λ ts. x ∷ ts) (set-is xs i t d (omega arith) e)

insert-is : (xs : List Term) (i : ℕ) (t : Term) → i ≤ length xs → insert xs i t ≡ put i t xs
insert-is xs zero t l = refl
insert-is [] (suc i) t l = absurd (omega arith)
insert-is (x ∷ xs) (suc i) t l = ap (λ ts. x ∷ ts) (insert-is xs i t (omega arith))

above-from : (xs : List Term) (i : ℕ) (m : List ℕ) → i ≤ length xs
    → ((k : ℕ) (d : Term) → k < i → IsGreater (slice_index_or xs k d).monomial m) → Above i m xs
above-from xs zero m l h = tt
above-from [] (suc i) m l h = absurd (omega arith)
above-from (x ∷ xs) (suc i) m l h = (
  h 0 x (omega arith),
  above-from xs i m (omega arith) (λ k d b. h (suc k) d (omega arith)),
)

at-from : (xs : List Term) (i : ℕ) (P : Term → Type 0)
    → ((d : Term) → i < length xs → P (slice_index_or xs i d)) → At i P xs
at-from [] zero P h = tt
at-from [] (suc i) P h = tt
at-from (x ∷ xs) zero P h = h x (omega arith)
at-from (x ∷ xs) (suc i) P h = at-from xs i P (λ d l. h d (omega arith))

is-at-from : (xs : List Term) (i : ℕ) (d : Term) (m : List ℕ) → i < length xs
    → (slice_index_or xs i d).monomial ≡ m → IsAt i (slice_index_or xs i d).scalar m xs
is-at-from [] i d m l e = absurd (omega arith)
is-at-from (x ∷ xs) zero d m l e = (refl, e)
is-at-from (x ∷ xs) (suc i) d m l e = is-at-from xs i d m (omega arith) e

pub any-default : (xs : List Term) (i : ℕ) (d e : Term) → i < length xs
    → slice_index_or xs i d ≡ slice_index_or xs i e
any-default [] i d e l = absurd (omega arith)
any-default (x ∷ xs) zero d e l = refl
any-default (x ∷ xs) (suc i) d e l = any-default xs i d e (omega arith)

at-each : (P : Term → Type 0) (xs : List Term) (i : ℕ) (d : Term) → i < length xs → Each P xs
    → P (slice_index_or xs i d)
at-each P [] i d l h = absurd (omega arith)
at-each P (x ∷ xs) zero d l h = h.0
at-each P (x ∷ xs) (suc i) d l h = at-each P xs i d (omega arith) h.1

pub stored-from : {q : ℕ} {ds : List ℕ} {d : ℕ} (f : List Term) → IsPolynomial q ds d f → AreStored f
stored-from f F = record {
  nonzero = All-from_recursion (λ (t : Term). 0 < t.scalar) f
      (each-map (λ (t : Term). (0 < t.scalar)
      × (t.scalar ≤ _)) (λ (t : Term). 0 < t.scalar) f (λ t h. h.0) F.coefficients);
  descending = F.descending;
}

module _ (q : ℕ) (ds : List ℕ) (e : ℕ) (xs : List Term) (F : IsPolynomial q ds e xs) (c : ℕ) (m : List ℕ)
    (M : IsMonomial q ds e m) where
  abbrev pub Added : List Term → Type 0
  Added g = IsPolynomial q ds e g × IsSame q g (xs ++ record { scalar = c; monomial = m } ∷ [])

  -- the coefficient at i is at most p - 1
  pub scalar-at : (i : ℕ) (d : Term) → i < length xs → (slice_index_or xs i d).scalar ≤ q
  scalar-at i d l = (at-each (λ (t : Term). (0 < t.scalar) × (t.scalar ≤ q)) xs i d l F.coefficients).1

  -- the term at i is at m, and its coefficient changes
  pub added-at : (i : ℕ) (d : Term) → i < length xs → (slice_index_or xs i d).monomial ≡ m → (t : Term)
      → (((slice_index_or xs i d).scalar + c) % suc q ≡ 0 → Added (remove xs i))
      × (((slice_index_or xs i d).scalar + c) % suc q ≢ 0
      → t.scalar ≡ ((slice_index_or xs i d).scalar + c) % suc q
      → t.monomial ≡ (slice_index_or xs i d).monomial → Added (slice_set xs i t))
  added-at i d l h t = (
    (λ z. rw (remove-is xs i l) (added-erase q ds e xs F c m M i (slice_index_or xs i d).scalar here z)),
    (λ z s n. rw (set-is xs i t d l n, s)
        (added-change q ds e xs F c m M i (slice_index_or xs i d).scalar here z)),
  )
    where
      here : IsAt i (slice_index_or xs i d).scalar m xs
      here = is-at-from xs i d m l h

  -- no term is at m, and one is put in
  pub added-before : (i : ℕ) → 0 < c → c ≤ q → i ≤ length xs
      → ((k : ℕ) (d : Term) → k < i → IsGreater (slice_index_or xs k d).monomial m)
      → ((d : Term) → i < length xs → ((slice_index_or xs i d).monomial ≢ m)
      × (IsGreater (slice_index_or xs i d).monomial m → ⊥))
      → Added (insert xs i record { scalar = c; monomial = m })
  added-before i l u b above below = rw (insert-is xs i record { scalar = c; monomial = m } b)
      (added-put q ds e xs F c m M i l u (above-from xs i m b above)
      (at-from xs i (λ (s : Term). IsGreater m s.monomial)
      (λ d k. less d k (below d k) (cases-greater m (slice_index_or xs i d).monomial M.trimmed
      (at-each (λ (t : Term). IsMonomial q ds e t.monomial) xs i d k F.over).trimmed))))
    where
      less : (d : Term) → i < length xs → ((slice_index_or xs i d).monomial ≢ m)
          × (IsGreater (slice_index_or xs i d).monomial m → ⊥)
          → (m ≡ (slice_index_or xs i d).monomial) ⊎ IsGreater m (slice_index_or xs i d).monomial
          ⊎ IsGreater (slice_index_or xs i d).monomial m → IsGreater m (slice_index_or xs i d).monomial
      less d k h (inl e) = absurd (h.0 (sym e))
      less d k h (inr (inl g)) = g
      less d k h (inr (inr g)) = absurd (h.1 g)

  pub nothing-added : c ≡ 0 → Added xs
  nothing-added z = (F, record { at = λ n. go n (cases_Bool (same m n)) })
    where
      go : (n : List ℕ) → (same m n ≡ true) ⊎ (same m n ≡ false)
          → IsCongruent (suc q) (coefficient xs n)
          (coefficient (xs ++ record { scalar = c; monomial = m } ∷ []) n)
      go n (inl o) = congruent_eq (sym (coefficient-append xs _ n ∙ rw (o, z) (omega arith)))
      go n (inr o) = congruent_eq (sym (coefficient-append xs _ n ∙ rw o (omega arith)))
