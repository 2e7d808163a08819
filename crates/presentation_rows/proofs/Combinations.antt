-- Combinations of vectors are combinations of rows, and spans of lists that are put together.
use Rattle.std.proofs.Common.{ℕ, zero, suc, ◌+◌, ◌-◌, ◌*◌, ◌%◌, ◌<◌, ◌≤◌, ◌↔◌, List, [], ◌∷◌, ◌++◌, length}
use Rattle.std.proofs.Common.{map, ◌⊎◌, inl, inr, arith, ap, sym, ◌∙◌, refl, length-append}
use Rattle.std.proofs.Math.Path.{fun_ext}
use Rattle.std.proofs.lemmas.Bool.{cases_lt}
use Rattle.std.proofs.lemmas.List.{get_or_append_left, get_or-append_right, get_or-append-add}
use Rattle.linear_algebra.specs.Rows.{entry, row, combination, IsInSpan, AreInSpan}
use Rattle.linear_algebra.proofs.Congruences.{congruent_refl, congruent_add, congruent_eq, congruent_trans}
use Rattle.linear_algebra.proofs.Congruences.{congruent_sym, congruent_mod}
use Rattle.linear_algebra.proofs.Spans.{in_span_row, in_span_congruent, are_in_span_trans}
use Rattle.graded_algebra.specs.Presentations.{IsCombination}
use Rattle.graded_algebra.specs.Vectors.{Below, Vector, residue, vectors}
use Rattle.graded_algebra.proofs.VectorLemmas.{below-path, plus-residue}
use Rattle.presentation_rows.specs.Values.{vector}
use Rattle.presentation_rows.proofs.RowValues.{sum_below-first, times-residue}

abbrev prepend : ℕ → (ℕ → ℕ) → ℕ → ℕ
prepend c u zero = c
prepend c u (suc i) = u i

module _ (q : ℕ) (mul : ℕ → ℕ → Vector q → Vector q → Vector q) where
  combination-from-rows : (R : List (List ℕ)) (u : ℕ → ℕ)
      → IsCombination (vectors q mul) (map (vector q) R) (λ j. residue q (combination u R j))
  combination-from-rows [] u = refl
  combination-from-rows (r ∷ R) u = (
    u 0,
    (λ j. residue q (combination (λ i. u (suc i)) R j)),
    combination-from-rows R (λ i. u (suc i)),
    fun_ext (λ j. sym (ap (λ (x : Below (suc q)). residue q
        (x.0 + (residue q (combination (λ i. u (suc i)) R j)).0))
        (times-residue q mul (u 0) (vector q r) j (entry r j) refl)
        ∙ plus-residue q (u 0 * entry r j) (combination (λ i. u (suc i)) R j)
        ∙ ap (residue q) (sym (sum_below-first (length R) (λ i. u i * entry (row (r ∷ R) i) j))))),
  )

  rows-from-combination : (R : List (List ℕ)) (v : Vector q)
      → IsCombination (vectors q mul) (map (vector q) R) v
      → IsInSpan (suc q) R (λ j. (v j).0)
  rows-from-combination [] v h = (
    (λ i. 0),
    record {
      each = λ j. congruent_sym (congruent_trans (congruent_eq (ap (λ (v : Vector q). (v j).0) h))
          (congruent_mod 0));
    },
  )
  rows-from-combination (r ∷ R) v h = let s = rows-from-combination R h.1 h.2 in (
    prepend h.0 s.0,
    record {
      each = λ j.
          congruent_trans (congruent_eq (sum_below-first (length R)
          (λ i. prepend h.0 s.0 i * entry (row (r ∷ R) i) j)))
          (congruent_trans (congruent_add (congruent_refl (h.0 * entry r j)) (s.1.each j))
          (congruent_sym (congruent_trans (congruent_eq (ap (λ (v : Vector q). (v j).0) h.3
          ∙ ap (λ (x : Below (suc q)). (x.0 + (h.1 j).0) % suc q)
          (times-residue q mul h.0 (vector q r) j (entry r j) refl)))
          (congruent_trans (congruent_mod (h.0 * entry r j % suc q + (h.1 j).0))
          (congruent_add (congruent_mod (h.0 * entry r j)) (congruent_refl (h.1 j).0))))));
    },
  )

  -- a vector is a combination of vectors exactly where its row is in the span of their rows
  pub combination-span : (R : List (List ℕ)) (w : List ℕ)
      → IsCombination (vectors q mul) (map (vector q) R) (vector q w) ↔ IsInSpan (suc q) R (entry w)
  combination-span R w = (
    (λ h. in_span_congruent (λ j. congruent_mod (entry w j)) (rows-from-combination R (vector q w) h)),
    (λ s. rw (fun_ext (λ j. below-path (residue q (combination s.0 R j)) (residue q (entry w j))
        (s.1.each j).same_remainder)) at
        (combination-from-rows R s.0)),
  )

pub span-left : {p : ℕ} (A B : List (List ℕ)) → AreInSpan p (A ++ B) A
span-left {p} A B i l = let h : IsInSpan p (A ++ B) (entry (row (A ++ B) i)) =
    in_span_row (A ++ B) i (omega (arith, length-append A B, l)) in
    rw (get_or_append_left A B [] i l) at h

pub span-right : {p : ℕ} (A B : List (List ℕ)) → AreInSpan p (A ++ B) B
span-right {p} A B i l =
    let h : IsInSpan p (A ++ B) (entry (row (A ++ B) (length A + i))) =
    in_span_row (A ++ B) (length A + i) (omega (arith, length-append A B, l)) in
    rw (get_or-append-add A B i []) at h

pub span-both : {p : ℕ} (rows A B : List (List ℕ)) → AreInSpan p rows A → AreInSpan p rows B
    → AreInSpan p rows (A ++ B)
span-both {p} rows A B a b i l = go (cases_lt i (length A))
  where
    go : (i < length A) ⊎ (length A ≤ i) → IsInSpan p rows (entry (row (A ++ B) i))
    go (inl c) = rw (get_or_append_left A B [] i c) (a i c)
    go (inr c) = rw (get_or-append_right A B (length A) i [] refl c)
        (b (i - length A) (omega (arith, length-append A B, l, c)))

-- rows in the span of others stay in it where the same rows are added to both
pub span-with : {p : ℕ} (A B C : List (List ℕ)) → AreInSpan p A B → AreInSpan p (A ++ C) (B ++ C)
span-with A B C h = span-both (A ++ C) B C (are_in_span_trans B (span-left A C) h) (span-right A C)
