-- The rows of sums of polynomials.
use Rattle.std.proofs.Common.{◌≡◌, ℕ, suc, ◌+◌, ◌*◌, ◌<◌, ◌≤◌, List, [], ◌∷◌, ◌++◌, length, ◌⊎◌, inl, inr}
use Rattle.std.proofs.Common.{arith, ap, ap₂, refl, ◌∙◌}
use Rattle.std.specs.Prelude.{slice_index_or}
use Rattle.std.proofs.lemmas.Bool.{cases_lt}
use Rattle.linear_algebra.specs.Modular.{IsCongruent}
use Rattle.linear_algebra.specs.Rows.{entry}
use Rattle.linear_algebra.proofs.Congruences.{congruent_add, congruent_eq, congruent_trans, congruent_sym}
use Rattle.linear_algebra.proofs.Congruences.{congruent_mod, congruent_mul_left}
use Rattle.graded_polynomials.specs.Polynomials.{Term, coefficient, scaled, IsSame}
use Rattle.graded_polynomials.proofs.Terms.{coefficient-append, coefficient-scaled}
use Rattle.presentation_rows.specs.RowPolynomials.{row_of}
use Rattle.presentation_rows.proofs.RowTerms.{entry-row-of, entry-row-past}

-- polynomials that are the same have the same row
pub row-of-same : (q : ℕ) (ms : List (List ℕ)) {f g : List Term} → IsSame q f g
    → row_of q ms f ≡ row_of q ms g
row-of-same q [] h = refl
row-of-same q (m ∷ ms) h = ap₂ (λ (x : ℕ) xs. x ∷ xs) (h.at m).same_remainder (row-of-same q ms h)

module _ (q : ℕ) (ms : List (List ℕ)) where
  pub entry-congruent : (f : List Term) (k : ℕ) → k < length ms
      → IsCongruent (suc q) (entry (row_of q ms f) k) (coefficient f (slice_index_or ms k []))
  entry-congruent f k l = congruent_trans (congruent_eq (entry-row-of q ms f k l))
      (congruent_mod (coefficient f (slice_index_or ms k [])))

  -- what holds of the coefficients at each monomial holds of the entries
  row-from : (f g h : List Term) (c : ℕ)
      → ((m : List ℕ) → coefficient f m ≡ coefficient g m + c * coefficient h m) → (j : ℕ)
      → IsCongruent (suc q) (entry (row_of q ms f) j) (entry (row_of q ms g) j + c * entry (row_of q ms h) j)
  row-from f g h c e j = go (cases_lt j (length ms))
    where
      go : (j < length ms) ⊎ (length ms ≤ j)
          → IsCongruent (suc q) (entry (row_of q ms f) j)
          (entry (row_of q ms g) j + c * entry (row_of q ms h) j)
      go (inl l) = congruent_trans (entry-congruent f j l)
          (congruent_trans (congruent_eq (e (slice_index_or ms j [])))
          (congruent_sym (congruent_add (entry-congruent g j l)
          (congruent_mul_left c (entry-congruent h j l)))))
      go (inr l) = congruent_eq (rw (
        entry-row-past q ms f j l,
        entry-row-past q ms g j l,
        entry-row-past q ms h j l,
      ) (omega arith))

  pub row-plus : (f g : List Term) (c j : ℕ)
      → IsCongruent (suc q) (entry (row_of q ms (f ++ scaled c g)) j)
      (entry (row_of q ms f) j + c * entry (row_of q ms g) j)
  row-plus f g c j = row-from (f ++ scaled c g) f g c
      (λ m. coefficient-append f (scaled c g) m ∙ ap (λ z. coefficient f m + z) (coefficient-scaled c g m)) j

  pub row-append : (f g : List Term) (j : ℕ)
      → IsCongruent (suc q) (entry (row_of q ms (f ++ g)) j)
      (entry (row_of q ms f) j + 1 * entry (row_of q ms g) j)
  row-append f g j = row-from (f ++ g) f g 1 (λ m. let e = coefficient-append f g m in omega (arith, e)) j

  pub row-empty : (j : ℕ) → IsCongruent (suc q) (entry (row_of q ms []) j) 0
  row-empty j = go (cases_lt j (length ms))
    where
      go : (j < length ms) ⊎ (length ms ≤ j) → IsCongruent (suc q) (entry (row_of q ms []) j) 0
      go (inl l) = entry-congruent [] j l
      go (inr l) = congruent_eq (entry-row-past q ms [] j l)

  pub row-times : (f g : List Term) (c : ℕ) → ((m : List ℕ) → coefficient f m ≡ c * coefficient g m) → (j : ℕ)
      → IsCongruent (suc q) (0 + c * entry (row_of q ms g) j) (entry (row_of q ms f) j)
  row-times f g c e j = congruent_sym (congruent_trans
      (row-from f [] g c (λ m. let z = e m in omega (arith, z)) j)
      (congruent_add (row-empty j) (congruent_eq refl)))
