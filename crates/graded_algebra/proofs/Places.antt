-- Polynomials as members of a space read at the places of the descending list.
use Rattle.std.proofs.Common.{◌≡◌, ℕ, suc, ◌<◌, List, [], length, ◌⊎◌, inl, inr}
use Rattle.std.specs.Prelude.{slice_index_or}
use Rattle.std.proofs.lemmas.Bool.{cases_order}
use Rattle.linear_algebra.specs.Modular.{IsCongruent}
use Rattle.graded_polynomials.specs.Monomials.{IsGreater, IsMonomial, IsMonomials}
use Rattle.graded_polynomials.specs.Polynomials.{Term, coefficient, IsOver}
use Rattle.graded_algebra.specs.Algebras.{Algebra}
use Rattle.graded_algebra.specs.Presentations.{IsLeading}
use Rattle.linear_algebra.proofs.Congruences.{congruent_eq}
use Rattle.graded_algebra.proofs.Leading.{LeadsAt}
use Rattle.graded_polynomials.proofs.Order.{greater-self, greater-both}
use Rattle.graded_polynomials.proofs.Terms.{occurs}

-- the coefficient at place k of a list of monomials
abbrev pub coefficient_at : List (List ℕ) → List Term → ℕ → ℕ
coefficient_at ms f k = coefficient f (slice_index_or ms k [])

module _ (q : ℕ) (ds : List ℕ) (d : ℕ) (ms : List (List ℕ)) (M : IsMonomials q ds d ms) where
  -- a coefficient is 0, or stands at a place
  pub place-of : (f : List Term) → IsOver q ds d f → (m : List ℕ)
      → ((i : ℕ) × (i < length ms) × (slice_index_or ms i [] ≡ m)) ⊎ (coefficient f m ≡ 0)
  place-of f o m = go (occurs q ds d f o m)
    where
      go : IsMonomial q ds d m ⊎ (coefficient f m ≡ 0)
          → ((i : ℕ) × (i < length ms) × (slice_index_or ms i [] ≡ m)) ⊎ (coefficient f m ≡ 0)
      go (inl h) = inl (M.all m h)
      go (inr e) = inr e

  pub zero-everywhere : (f : List Term) → IsOver q ds d f
      → ((k : ℕ) → k < length ms → IsCongruent (suc q) (coefficient_at ms f k) 0)
      → (m : List ℕ) → IsCongruent (suc q) (coefficient f m) 0
  zero-everywhere f o h m = go (place-of f o m)
    where
      go : ((i : ℕ) × (i < length ms) × (slice_index_or ms i [] ≡ m)) ⊎ (coefficient f m ≡ 0)
          → IsCongruent (suc q) (coefficient f m) 0
      go (inl (i, l, e)) = rw (← e) (h i l)
      go (inr e) = congruent_eq e

  -- a greater monomial stands before
  pub stands-before : (i k : ℕ) → i < length ms → k < length ms
      → IsGreater (slice_index_or ms i []) (slice_index_or ms k []) → i < k
  stands-before i k l r g = go (cases_order i k)
    where
      go : (i ≡ k) ⊎ ((i < k) ⊎ (k < i)) → i < k
      go (inl e) = absurd (greater-self (slice_index_or ms k [])
          (let h : IsGreater (slice_index_or ms k []) (slice_index_or ms k []) = rw (← e)
          (rw (← e) at g) in h))
      go (inr (inl b)) = b
      go (inr (inr b)) = absurd (greater-both _ _ g (M.descending k i b l))

  module _ {V : Type 0} (A : Algebra V) (S : List Term → Type 0) (S-over : (f : List Term) → S f
      → IsOver q ds d f) where
    pub leading-at : (k : ℕ) → k < length ms → LeadsAt q (length ms) (List Term) (coefficient_at ms) S k
        → IsLeading q A S (slice_index_or ms k [])
    leading-at k l h = record {
      member = h.member;
      is_member = h.is_member;
      here = h.here;
      above = λ n g. go n g (place-of h.member (S-over h.member h.is_member) n);
    }
      where
        go : (n : List ℕ) → IsGreater n (slice_index_or ms k [])
            → ((i : ℕ) × (i < length ms) × (slice_index_or ms i [] ≡ n)) ⊎ (coefficient h.member n ≡ 0)
            → IsCongruent (suc q) (coefficient h.member n) 0
        go n g (inl (i, b, e)) = rw (← e) (h.before i (stands-before i k b l (rw (← e) at g)))
        go n g (inr e) = congruent_eq e

    pub at-leading : (k : ℕ) → k < length ms → IsLeading q A S (slice_index_or ms k [])
        → LeadsAt q (length ms) (List Term) (coefficient_at ms) S k
    at-leading k l h = record {
      member = h.member;
      is_member = h.is_member;
      here = h.here;
      before = λ j b. h.above (slice_index_or ms j []) (M.descending j k b l);
    }
