-- A vector is in the span of an echelon list where it is the combination that agrees with it at the pivots.
use Rattle.std.proofs.Common.{◌≡◌, ℕ, ◌+◌, ◌*◌, ◌%◌, ◌<◌, ◌≤◌, ◌⊎◌, List, length, inl, inr, arith, sym}
use Rattle.std.proofs.Common.{add-one}
use Rattle.std.proofs.lemmas.Bool.{cases_lt}
use Rattle.std.proofs.lemmas.List.{get_or_past}
use Rattle.linear_algebra.specs.Modular.{IsCongruent, sum_below}
use Rattle.linear_algebra.specs.Rows.{entry, row, pivot, combination, IsRow, IsMatrix, IsEchelon, IsInSpan}
use Rattle.linear_algebra.proofs.Congruences.{congruent_refl, congruent_add, congruent_trans, congruent_eq}
use Rattle.linear_algebra.proofs.Congruences.{congruent_sym, congruent_mul_right, congruent_mod}
use Rattle.linear_algebra.proofs.Sums.{sum_below-vanishes, sum_below-congruent}
use Rattle.linear_algebra.proofs.Pivots.{coefficient_at_pivot}
use Rattle.linear_algebra.proofs.EchelonLists.{HasPivots-from_echelon, Combines-from_combination}

pub member_by_places : {p width : ℕ} {E : List (List ℕ)} (v : List ℕ) → IsMatrix p width E → IsRow p width v →
    ((j : ℕ) → j < width → IsCongruent p (entry v j) (combination (λ i. entry v (pivot (row E i))) E j))
    → IsInSpan p E (entry v)
member_by_places {p} {width} {E} v M r h = (
  (λ i. entry v (pivot (row E i))),
  record { each = λ j. go j (cases_lt j width) },
)
  where
    go : (j : ℕ) → (j < width) ⊎ (width ≤ j)
        → IsCongruent p (combination (λ i. entry v (pivot (row E i))) E j) (entry v j)
    go j (inl l) = congruent_sym (h j l)
    go j (inr l) = congruent_trans (sum_below-vanishes p (length E)
        (λ i. entry v (pivot (row E i)) * entry (row E i) j)
        (λ i b. congruent_eq (rw (get_or_past (row E i) j 0 (omega (arith, (M i b).length_is)))
        (omega arith))))
        (congruent_eq (sym (get_or_past v j 0 (omega (arith, r.length_is)))))

pub member_at : {p : ℕ} {E : List (List ℕ)} (v : List ℕ) → IsEchelon E → IsInSpan p E (entry v) → (j : ℕ)
    → IsCongruent p (combination (λ i. entry v (pivot (row E i))) E j) (entry v j)
member_at {p} {E} v e s j = congruent_trans
    (sum_below-congruent p (length E) (λ i. entry v (pivot (row E i)) * entry (row E i) j)
    (λ i. s.0 i * entry (row E i) j)
    (λ i l. congruent_mul_right (entry (row E i) j)
    (congruent_sym (coefficient_at_pivot p (length E) s.0 (λ i j. entry (row E i) j)
    (λ i. pivot (row E i)) (entry v)
    (HasPivots-from_echelon e) (Combines-from_combination s.1) i l)))) (s.1.each j)

-- one more term of the sum
pub term_added : {p s f : ℕ} (a : ℕ) → IsCongruent p s f → IsCongruent p ((s + a) % p) (f + a)
term_added {p} {s} a h = congruent_trans (congruent_mod (s + a)) (congruent_add h (congruent_refl a))

pub next_term : {p s : ℕ} (n a : ℕ) (f : ℕ → ℕ) → a ≡ f n → IsCongruent p s (sum_below n f)
    → IsCongruent p ((s + a) % p) (sum_below (n + 1) f)
next_term n a f e h = rw (add-one n, e) (term_added (f n) h)
