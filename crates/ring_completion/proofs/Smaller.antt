-- The normal form of a monomial that is not standard has smaller monomials only.
use Rattle.std.proofs.Common.{◌≡◌, ◌≢◌, ℕ, suc, ◌+◌, ◌*◌, ◌%◌, ◌<◌, ◌≤◌, List, [], ◌∷◌, ◌++◌, length, true}
use Rattle.std.proofs.Common.{false, ◌⊎◌, inl, inr, arith, ap, ap₂, sym, ◌∙◌, refl}
use Rattle.std.specs.Prelude.{slice_index_or}
use Rattle.std.proofs.Math.Nat.{mod-eq_of_lt, zero-mod}
use Rattle.std.specs.List.{AllByRecursion as Each}
use Rattle.linear_algebra.specs.Modular.{IsCongruent}
use Rattle.linear_algebra.proofs.Congruences.{congruent_eq, congruent_trans}
use Rattle.graded_polynomials.specs.Monomials.{IsMonomial, IsMonomials, IsGreater, joined, same}
use Rattle.graded_polynomials.specs.Polynomials.{Term, coefficient, scaled, IsOver}
use Rattle.graded_polynomials.proofs.Exponents.{cases-greater, exponent-joined}
use Rattle.graded_polynomials.proofs.Order.{greater-self}
use Rattle.graded_polynomials.proofs.Stored.{among, Descending, descending-from}
use Rattle.graded_polynomials.proofs.Terms.{each-append, over-scaled, coefficient-append, coefficient-scaled}
use Rattle.graded_polynomials.proofs.Terms.{cases-same, same-self}
use Rattle.graded_algebra.specs.Algebras.{Algebra, Generator, degrees, evaluate, times, IsSpace}
use Rattle.graded_algebra.specs.Presentations.{IsRelation, IsStandard, IsNormalForm}
use Rattle.graded_algebra.proofs.Leading.{LeadsAt, vanishes-below}
use Rattle.graded_algebra.proofs.Places.{coefficient_at, leading-at, stands-before}
use Rattle.graded_algebra.proofs.Values.{linear-append, linear-scaled}
use Rattle.graded_algebra.proofs.Vectors.{times-times, add-minus}
use Rattle.ring_completion.specs.Completions.{alone}
use Rattle.ring_completion.proofs.LinearForms.{linear-alone}

-- products keep the order
pub greater-joined : (a m n : List ℕ) → IsGreater m n → IsGreater (joined a m) (joined a n)
greater-joined a m n g = record {
  at = g.at;
  more = let x = g.more in let y = exponent-joined a m g.at in let z = exponent-joined a n g.at in
      omega (arith, x, y, z);
  before = λ i l. let x = g.before i l in let y = exponent-joined a m i in let z = exponent-joined a n i in
      omega (arith, x, y, z);
}

-- a monomial above all terms does not occur
above-zero : (m : List ℕ) (f : List Term) → Each (λ s. IsGreater m s.monomial) f → coefficient f m ≡ 0
above-zero m [] h = refl
above-zero m (t ∷ f) h = go (cases-same t.monomial m) (above-zero m f h.1)
  where
    go : ((same t.monomial m ≡ true) × (t.monomial ≡ m)) ⊎ ((same t.monomial m ≡ false) × (t.monomial ≢ m))
        → coefficient f m ≡ 0 → coefficient (t ∷ f) m ≡ 0
    go (inl e) z = absurd (greater-self m (rw e.1 at h.0))
    go (inr e) z = rw e.0 (omega (arith, z))

-- each term of descending terms has its coefficient
own-scalars : (f : List Term) → Descending f → Each (λ t. coefficient f t.monomial ≡ t.scalar) f
own-scalars [] h = tt
own-scalars (t ∷ f) h =
    (rw (same-self t.monomial) (omega (arith, above-zero t.monomial f h.0)), later f h.0 (own-scalars f h.1))
  where
    later : (g : List Term) → Each (λ s. IsGreater t.monomial s.monomial) g
        → Each (λ s. coefficient f s.monomial ≡ s.scalar) g
        → Each (λ s. coefficient (t ∷ f) s.monomial ≡ s.scalar) g
    later [] a b = tt
    later (x ∷ g) a b = (go (cases-same t.monomial x.monomial), later g a.1 b.1)
      where
        go : ((same t.monomial x.monomial ≡ true) × (t.monomial ≡ x.monomial))
            ⊎ ((same t.monomial x.monomial ≡ false) × (t.monomial ≢ x.monomial))
            → coefficient (t ∷ f) x.monomial ≡ x.scalar
        go (inl e) = absurd (greater-self x.monomial (let g = a.0 in rw e.1 at g))
        go (inr e) = let z = b.0 in rw e.0 (omega (arith, z))

module _ (q : ℕ) (V : Type 0) (A : Algebra V) (S : IsSpace q V A) (gs : List (Generator V)) (e : ℕ)
    (ns : List (List ℕ)) (M : IsMonomials q (degrees gs) e ns) where
  module _ (c : ℕ) (k : List ℕ) (K : IsMonomial q (degrees gs) e k) (f : List Term)
      (F : IsNormalForm q A gs e (times A c (evaluate A gs k)) f)
      (not-standard : IsStandard q A gs e k → ⊥) where
    both : List Term
    both = f ++ scaled (q * c) (alone k)

    relation : IsRelation q A gs e both
    unfolding both
    relation = record {
      over = each-append (λ (t : Term). IsMonomial q (degrees gs) e t.monomial) f (scaled (q * c) (alone k))
          F.polynomial.over (over-scaled q (degrees gs) e (q * c) (alone k) (K, tt));
      vanishes = linear-append q V A S (evaluate A gs) f (scaled (q * c) (alone k))
          ∙ ap₂ A.add F.value_is
          (linear-scaled q V A S (evaluate A gs) (q * c) (alone k)
          ∙ ap (times A (q * c)) (linear-alone q V A S (evaluate A gs) k)
          ∙ sym (times-times q V A S q c _)) ∙ add-minus q V A S _;
    }

    at-both : (m : List ℕ) → coefficient both m ≡ coefficient f m + (q * c) * coefficient (alone k) m
    unfolding both
    at-both m = coefficient-append f (scaled (q * c) (alone k)) m
        ∙ ap (λ z. coefficient f m + z) (coefficient-scaled (q * c) (alone k) m)

    elsewhere : (m : List ℕ) → k ≢ m → coefficient both m ≡ coefficient f m
    elsewhere m ne = go (cases-same k m)
      where
        go : ((same k m ≡ true) × (k ≡ m)) ⊎ ((same k m ≡ false) × (k ≢ m))
            → coefficient both m ≡ coefficient f m
        go (inl x) = absurd (ne x.1)
        go (inr x) = at-both m ∙ (let z : coefficient (alone k) m ≡ 0 = rw x.0 refl in rw z (omega arith))

    place : (i : ℕ) × (i < length ns) × (slice_index_or ns i [] ≡ k)
    place = M.all k K

    -- nothing of f stands before k
    zeros : (j : ℕ) → j < place.0 → IsCongruent (suc q) (coefficient_at ns both j) 0
    zeros = vanishes-below q (length ns) (List Term) (coefficient_at ns) (IsRelation q A gs e) both
        relation place.0
        (λ j l. go j l (among (slice_index_or ns j []) (IsStandard q A gs e) f F.standard))
      where
        apart : (j : ℕ) → j < place.0 → k ≢ slice_index_or ns j []
        apart j l x = absurd (let g : IsGreater (slice_index_or ns j []) (slice_index_or ns place.0 []) =
            M.descending j place.0 l place.1 in
            let h : IsGreater k k = rw (← x, place.2) at g in let z = h.more in omega (arith, z))

        go : (j : ℕ) → j < place.0 → (coefficient f (slice_index_or ns j []) ≡ 0)
            ⊎ IsStandard q A gs e (slice_index_or ns j [])
            → IsCongruent (suc q) (coefficient_at ns both j) 0
            ⊎ (LeadsAt q (length ns) (List Term) (coefficient_at ns) (IsRelation q A gs e) j → ⊥)
        go j l (inl z) = inl (congruent_eq (elsewhere (slice_index_or ns j []) (apart j l) ∙ z))
        go j l (inr s) = inr
            (λ a. s (leading-at q (degrees gs) e ns M A (IsRelation q A gs e) (λ f r. r.over) j
            (let b = place.1 in omega (arith, l, b)) a))

    pub smaller-at : (m : List ℕ) → IsMonomial q (degrees gs) e m → IsStandard q A gs e m
        → coefficient f m % suc q ≢ 0 → IsGreater k m
    smaller-at m N s nz = go (cases-greater k m K.trimmed N.trimmed)
      where
        go : (k ≡ m) ⊎ IsGreater k m ⊎ IsGreater m k → IsGreater k m
        go (inl x) = absurd (not-standard (rw x s))
        go (inr (inl g)) = g
        go (inr (inr g)) = absurd (nz (z.same_remainder ∙ zero-mod (suc q)))
          where
            i : (i : ℕ) × (i < length ns) × (slice_index_or ns i [] ≡ m)
            i = M.all m N

            before : i.0 < place.0
            before = stands-before q (degrees gs) e ns M i.0 place.0 i.1 place.1 (rw (i.2, place.2) g)

            other : k ≢ m
            other x = absurd (not-standard (rw x s))

            z : IsCongruent (suc q) (coefficient f m) 0
            z = congruent_trans (congruent_eq (sym (elsewhere m other)))
                (let y = zeros i.0 before in rw i.2 at y)

    pub smaller-terms : Each (λ t. IsGreater k t.monomial) f
    smaller-terms = go f F.polynomial.over F.standard F.polynomial.coefficients
        (own-scalars f (descending-from f F.polynomial.descending))
      where
        go : (g : List Term) → IsOver q (degrees gs) e g → Each (λ t. IsStandard q A gs e t.monomial) g
            → Each (λ t. (0 < t.scalar) × (t.scalar ≤ q)) g
            → Each (λ t. coefficient f t.monomial ≡ t.scalar) g → Each (λ t. IsGreater k t.monomial) g
        go [] o s c w = tt
        go (t ∷ g) o s c w = (
          smaller-at t.monomial o.0 s.0
              (λ z. let a : t.scalar % suc q ≡ t.scalar = mod-eq_of_lt (let b = c.0.1 in omega (arith, b)) in
              let b = c.0.0 in let d = w.0 in
              absurd (let x : t.scalar % suc q ≡ 0 = rw d at z in omega (arith, a, b, x))),
          go g o.1 s.1 c.1 w.1,
        )
