-- Rows over a list of monomials and the sums of terms that they stand for have the same coefficients.
use Rattle.std.proofs.Common.{◌≡◌, ◌≢◌, ℕ, zero, suc, ◌+◌, ◌%◌, ◌<◌, ◌≤◌, List, [], ◌∷◌, length, true, false}
use Rattle.std.proofs.Common.{cond, ◌⊎◌, inl, inr, arith, sym, ◌∙◌, refl}
use Rattle.std.specs.Prelude.{slice_index_or, AllPairs}
use Rattle.std.specs.List.{AllByRecursion as Each}
use Rattle.std.proofs.lemmas.List.{length-map, get_or-map, get_or_past}
use Rattle.std.proofs.lemmas.List.Elements.{All-from_recursion}
use Rattle.std.proofs.lemmas.List.Kept.{AllPairs-cons}
use Rattle.std.proofs.Math.Nat.{mod-lt}
use native.Mathlib.Nat.{zero-lt-suc}
use Rattle.linear_algebra.specs.Modular.{IsCongruent}
use Rattle.linear_algebra.specs.Rows.{entry, IsRow}
use Rattle.linear_algebra.proofs.Congruences.{congruent_eq, congruent_trans, congruent_sym, congruent_mod}
use Rattle.graded_polynomials.specs.Monomials.{IsMonomial, IsMonomials, IsGreater, same}
use Rattle.graded_polynomials.specs.Polynomials.{Term, coefficient, IsOver, IsPolynomial, IsSame}
use Rattle.graded_polynomials.proofs.Order.{greater-self}
use Rattle.graded_polynomials.proofs.Stored.{among}
use Rattle.graded_polynomials.proofs.Terms.{cases-same, same-self, occurs}
use Rattle.presentation_rows.specs.RowPolynomials.{polynomial_of, row_of}

-- no monomial stands at two places
abbrev pub AreApart : List (List ℕ) → Type 0
AreApart ms = (j k : ℕ) → j < k → k < length ms → slice_index_or ms j [] ≢ slice_index_or ms k []

-- each monomial is greater than those behind it
abbrev pub Descends : List (List ℕ) → Type 0
Descends ms = (i j : ℕ) → i < j → j < length ms → IsGreater (slice_index_or ms i []) (slice_index_or ms j [])

pub descending-apart : (ms : List (List ℕ)) → Descends ms → AreApart ms
descending-apart ms D j k b l e = greater-self (slice_index_or ms k []) (rw e at (D j k b l))

pub monomials-apart : {q d : ℕ} {ds : List ℕ} {ms : List (List ℕ)} → IsMonomials q ds d ms → AreApart ms
monomials-apart {ms = ms} M = descending-apart ms M.descending

-- what holds of the terms of the places that are not 0
pub each-term : (P : Term → Type 0) (ms : List (List ℕ)) (u : List ℕ)
    → ((k c : ℕ) → k < length ms → entry u k ≡ suc c
    → P (record { scalar = suc c; monomial = slice_index_or ms k [] })) → Each P (polynomial_of ms u)
each-term P [] u h = tt
each-term P (m ∷ ms) [] h = tt
each-term P (m ∷ ms) (zero ∷ u) h = each-term P ms u (λ k c l e. h (suc k) c (omega arith) e)
each-term P (m ∷ ms) (suc c ∷ u) h = (
  h 0 c (omega arith) refl,
  each-term P ms u (λ k c l e. h (suc k) c (omega arith) e),
)

coefficient-absent : (ms : List (List ℕ)) (u : List ℕ) (m : List ℕ)
    → ((k : ℕ) → k < length ms → slice_index_or ms k [] ≢ m)
    → coefficient (polynomial_of ms u) m ≡ 0
coefficient-absent [] u m h = refl
coefficient-absent (n ∷ ms) [] m h = refl
coefficient-absent (n ∷ ms) (zero ∷ u) m h = coefficient-absent ms u m (λ k l. h (suc k) (omega arith))
coefficient-absent (n ∷ ms) (suc c ∷ u) m h =
    go (cases-same n m) (coefficient-absent ms u m (λ k l. h (suc k) (omega arith)))
  where
    go : ((same n m ≡ true) × (n ≡ m)) ⊎ ((same n m ≡ false) × (n ≢ m))
        → coefficient (polynomial_of ms u) m ≡ 0
        → cond (same n m) (suc c) 0 + coefficient (polynomial_of ms u) m ≡ 0
    go (inl e) z = absurd (h 0 (omega arith) e.1)
    go (inr e) z = rw e.0 (omega (arith, z))

pub coefficient-at : (ms : List (List ℕ)) (u : List ℕ) → AreApart ms → (k : ℕ) → k < length ms
    → coefficient (polynomial_of ms u) (slice_index_or ms k []) ≡ entry u k
coefficient-at [] u a k l = absurd (omega arith)
coefficient-at (n ∷ ms) [] a k l = refl
coefficient-at (n ∷ ms) (zero ∷ u) a zero l =
    coefficient-absent ms u n (λ k b e. a 0 (suc k) (omega arith) (omega arith) (sym e))
coefficient-at (n ∷ ms) (zero ∷ u) a (suc k) l =
    coefficient-at ms u (λ i j b c. a (suc i) (suc j) (omega arith) (omega arith)) k (omega arith)
coefficient-at (n ∷ ms) (suc c ∷ u) a zero l =
    rw (same-self n) (omega (
      arith,
      coefficient-absent ms u n
          (λ k b e. a 0 (suc k) (omega arith) (omega arith) (sym e)),
    ))
coefficient-at (n ∷ ms) (suc c ∷ u) a (suc k) l =
    go (cases-same n (slice_index_or ms k []))
    (coefficient-at ms u (λ i j b c. a (suc i) (suc j) (omega arith) (omega arith)) k (omega arith))
  where
    go : ((same n (slice_index_or ms k []) ≡ true) × (n ≡ slice_index_or ms k []))
        ⊎ ((same n (slice_index_or ms k []) ≡ false) × (n ≢ slice_index_or ms k []))
        → coefficient (polynomial_of ms u) (slice_index_or ms k []) ≡ entry u k
        → cond (same n (slice_index_or ms k [])) (suc c) 0 + coefficient (polynomial_of ms u)
        (slice_index_or ms k []) ≡ entry u k
    go (inl e) ih = absurd (a 0 (suc k) (omega arith) l e.1)
    go (inr e) ih = rw e.0 (omega (arith, ih))

-- the terms descend as the monomials do
descending-terms : (ms : List (List ℕ)) (u : List ℕ) → Descends ms
    → AllPairs (λ (s t : Term). IsGreater s.monomial t.monomial) (polynomial_of ms u)
descending-terms [] u h = λ i j d b l. absurd (omega (arith, l))
descending-terms (m ∷ ms) [] h = λ i j d b l. absurd (omega (arith, l))
descending-terms (m ∷ ms) (zero ∷ u) h =
    descending-terms ms u (λ i j b l. h (suc i) (suc j) (omega arith) (omega arith))
descending-terms (m ∷ ms) (suc c ∷ u) h =
    AllPairs-cons (λ (s t : Term). IsGreater s.monomial t.monomial) (record { scalar = suc c; monomial = m })
    (polynomial_of ms u)
    (All-from_recursion (λ (t : Term). IsGreater m t.monomial) (polynomial_of ms u)
    (each-term (λ t. IsGreater m t.monomial) ms u (λ k c l e. h 0 (suc k) (omega arith) (omega arith))))
    (descending-terms ms u (λ i j b l. h (suc i) (suc j) (omega arith) (omega arith)))

module _ (q d : ℕ) (ds : List ℕ) (ms : List (List ℕ))
    (each : (k : ℕ) → k < length ms → IsMonomial q ds d (slice_index_or ms k [])) where
  pub over-places : (u : List ℕ) → IsOver q ds d (polynomial_of ms u)
  over-places u = each-term (λ t. IsMonomial q ds d t.monomial) ms u (λ k c l e. each k l)

  pub polynomial-of-places : Descends ms → (u : List ℕ) → IsRow (suc q) (length ms) u
      → IsPolynomial q ds d (polynomial_of ms u)
  polynomial-of-places D u r = record {
    over = over-places u;
    coefficients = each-term (λ t. (0 < t.scalar) × (t.scalar ≤ q)) ms u
        (λ k c l e. (omega arith, let b = r.below k l in omega (arith, b, e)));
    descending = descending-terms ms u D;
  }

-- what stands at no place does not occur
pub placed-or-zero : (ms : List (List ℕ)) (u m : List ℕ) → (coefficient (polynomial_of ms u) m ≡ 0)
    ⊎ ((i : ℕ) × (i < length ms) × (slice_index_or ms i [] ≡ m))
placed-or-zero ms u m = among m Placed (polynomial_of ms u)
    (each-term (λ t. Placed t.monomial) ms u (λ k c l e. (k, l, refl)))
  where
    Placed : List ℕ → Type 0
    Placed n = (i : ℕ) × (i < length ms) × (slice_index_or ms i [] ≡ n)

-- the entries of the row of a polynomial
pub entry-row-of : (q : ℕ) (ms : List (List ℕ)) (f : List Term) (k : ℕ) → k < length ms
    → entry (row_of q ms f) k ≡ coefficient f (slice_index_or ms k []) % suc q
entry-row-of q ms f k l = get_or-map (λ m. coefficient f m % suc q) ms k [] 0 l

pub entry-row-past : (q : ℕ) (ms : List (List ℕ)) (f : List Term) (k : ℕ) → length ms ≤ k
    → entry (row_of q ms f) k ≡ 0
entry-row-past q ms f k l = get_or_past (row_of q ms f) k 0 (rw length-map l)

pub row-of-is-row : (q : ℕ) (ms : List (List ℕ)) (f : List Term) → IsRow (suc q) (length ms) (row_of q ms f)
row-of-is-row q ms f = record {
  length_is = length-map ms (λ m. coefficient f m % suc q);
  below = λ j l. rw (entry-row-of q ms f j l)
      (mod-lt (coefficient f (slice_index_or ms j [])) (zero-lt-suc q));
}

module _ {q d : ℕ} {ds : List ℕ} {ms : List (List ℕ)} (M : IsMonomials q ds d ms) where
  -- two sums of terms of the degree are the same where their coefficients at the places are
  pub same-at-places : (f g : List Term) → IsOver q ds d f → IsOver q ds d g
      → ((k : ℕ) → k < length ms → IsCongruent (suc q) (coefficient f (slice_index_or ms k []))
      (coefficient g (slice_index_or ms k [])))
      → IsSame q f g
  same-at-places f g o p h = record { at = λ m. go m (occurs q ds d f o m) (occurs q ds d g p m) }
    where
      at-monomial : (m : List ℕ) → IsMonomial q ds d m
          → IsCongruent (suc q) (coefficient f m) (coefficient g m)
      at-monomial m x = let i = M.all m x in rw (← i.2) (h i.0 i.1)

      go : (m : List ℕ) → IsMonomial q ds d m ⊎ (coefficient f m ≡ 0) → IsMonomial q ds d m
          ⊎ (coefficient g m ≡ 0)
          → IsCongruent (suc q) (coefficient f m) (coefficient g m)
      go m (inl x) o = at-monomial m x
      go m (inr e) (inl x) = at-monomial m x
      go m (inr e) (inr z) = congruent_eq (e ∙ sym z)

  pub over-row : (u : List ℕ) → IsOver q ds d (polynomial_of ms u)
  over-row = over-places q d ds ms M.each

  pub polynomial-of-row : (u : List ℕ) → IsRow (suc q) (length ms) u
      → IsPolynomial q ds d (polynomial_of ms u)
  polynomial-of-row = polynomial-of-places q d ds ms M.each M.descending

  pub same-as-row : (f : List Term) → IsOver q ds d f → IsSame q f (polynomial_of ms (row_of q ms f))
  same-as-row f o = same-at-places f (polynomial_of ms (row_of q ms f)) o (over-row (row_of q ms f))
      (λ k l. congruent_trans (congruent_sym (congruent_mod (coefficient f (slice_index_or ms k []))))
      (congruent_eq (sym (entry-row-of q ms f k l)
      ∙ sym (coefficient-at ms (row_of q ms f) (monomials-apart M) k l))))
