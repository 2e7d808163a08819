-- The greedy positions give the new generators.
use Rattle.std.proofs.Common.{◌≡◌, ℕ, zero, suc, ◌+◌, ◌<◌, ◌≤◌, ◌↔◌, List, [], ◌∷◌, ◌++◌, length, map, inl}
use Rattle.std.proofs.Common.{inr, arith, ap, ap₂, sym, ◌∙◌, refl}
use Rattle.std.specs.Prelude.{slice_index_or}
use Rattle.std.proofs.lemmas.List.{map-append}
use Rattle.linear_algebra.specs.Rows.{entry, row, IsEchelonOf, IsInSpan}
use Rattle.linear_algebra.specs.Choices.{rows_at, IsGreedyBelow, IsGreedy}
use Rattle.linear_algebra.proofs.Spans.{in_span_trans}
use Rattle.graded_algebra.specs.Algebras.{Generator, evaluate}
use Rattle.graded_algebra.specs.Presentations.{IsCombination, IsChosen}
use Rattle.graded_algebra.specs.Vectors.{Vector, vectors, unit, units}
use Rattle.presentation_rows.specs.Values.{vector, AreValues, AreUnitRows}
use Rattle.presentation_rows.proofs.Combinations.{combination-span, span-with}
use Rattle.presentation_rows.proofs.UnitRows.{unit-vector}

map-values : {q : ℕ} (ev : List ℕ → Vector q) (ms values : List (List ℕ)) → length values ≡ length ms
    → ((i : ℕ) → i < length ms → vector q (row values i) ≡ ev (slice_index_or ms i []))
    → map ev ms ≡ map (vector q) values
map-values ev [] [] c h = refl
map-values ev [] (v ∷ vs) c h = absurd (omega (arith, c))
map-values ev (m ∷ ms) [] c h = absurd (omega (arith, c))
map-values {q} ev (m ∷ ms) (v ∷ vs) c h = ap₂ (λ (x : Vector q) xs. x ∷ xs) (sym (h 0 (omega arith)))
    (map-values ev ms vs (omega (arith, c)) (λ i l. h (suc i) (omega arith)))

module _ (q n : ℕ) (mul : ℕ → ℕ → Vector q → Vector q
    → Vector q) (gs : List (Generator (Vector q))) (ms values span basis : List (List ℕ))
    (V : AreValues q (vectors q mul) gs ms values) (E : IsEchelonOf (suc q) n values span)
    (U : AreUnitRows n basis) where
  abbrev us : List (Vector q)
  us = map (evaluate (vectors q mul) gs) ms

  unit-at : (k : ℕ) → k < n → vector q (row basis k) ≡ unit q k
  unit-at k l = ap (vector q) (U.each k l) ∙ unit-vector q n k l

  taken-units : (k : ℕ) (positions : List ℕ) → k ≤ n → IsGreedyBelow (suc q) basis span k positions
      → map (vector q) (rows_at basis positions) ≡ map (unit q) positions
  taken-units zero positions l g = rw g refl
  taken-units (suc k) positions l (inl g) = taken-units k positions (omega arith) g.0
  taken-units (suc k) positions l (inr g) = rw g.3
      (ap (map (vector q)) (map-append (row basis) g.0 (k ∷ []))
      ∙ map-append (vector q) (rows_at basis g.0) (row basis k ∷ [])
      ∙ ap₂ (λ (xs : List (Vector q)) (x : Vector q). xs ++ x ∷ []) (taken-units k g.0 (omega arith) g.1)
      (unit-at k (omega arith))
      ∙ sym (map-append (unit q) g.0 (k ∷ [])))

  all-rows : (k : ℕ) (positions : List ℕ) → k ≤ n → IsGreedyBelow (suc q) basis span k positions
      → us ++ map (unit q) positions ≡ map (vector q) (values ++ rows_at basis positions)
  all-rows k positions l g =
      ap₂ (λ (xs ys : List (Vector q)). xs ++ ys)
      (map-values (evaluate (vectors q mul) gs) ms values V.count V.each)
      (sym (taken-units k positions l g))
      ∙ sym (map-append (vector q) values (rows_at basis positions))

  combination-in-span : (k : ℕ) (positions : List ℕ) → k < n → IsGreedyBelow (suc q) basis span k positions
      → IsCombination (vectors q mul) (us ++ map (unit q) positions) (unit q k) ↔ IsInSpan (suc q)
      (span ++ rows_at basis positions)
      (entry (row basis k))
  combination-in-span k positions l g = (
    (λ h. in_span_trans (span-with span values (rows_at basis positions) E.spans)
        ((combination-span q mul (values ++ rows_at basis positions) (row basis k)).0
        (rw (all-rows k positions (omega arith) g, ← unit-at k l) at h))),
    (λ s. rw (all-rows k positions (omega arith) g, ← unit-at k l)
        ((combination-span q mul (values ++ rows_at basis positions) (row basis k)).1
        (in_span_trans (span-with values span (rows_at basis positions) E.spanned) s))),
  )

  chosen-from : (k m : ℕ) (positions : List ℕ) (chosen : List (Vector q)) → k + m ≡ n
      → IsGreedyBelow (suc q) basis span k positions
      → IsChosen q (vectors q mul) us (units q k m) (map (unit q) positions) chosen
      → IsChosen q (vectors q mul) us (units q 0 n) [] chosen
  chosen-from zero m positions chosen e g h = let z : m ≡ n = omega (arith, e) in rw (← z) (rw g at h)
  chosen-from (suc k) m positions chosen e (inl g) h =
      chosen-from k (suc m) positions chosen (omega (arith, e)) g.0
      (inl ((combination-in-span k positions (omega (arith, e)) g.0).1 g.1, h))
  chosen-from (suc k) m positions chosen e (inr g) h =
      chosen-from k (suc m) g.0 chosen (omega (arith, e)) g.1
      (inr (
        (λ x. g.2 ((combination-in-span k g.0 (omega (arith, e)) g.1).0 x)),
        (rw (g.3, map-append (unit q) g.0 (k ∷ [])) at h),
      ))

  pub chosen-units : (positions : List ℕ) → IsGreedy (suc q) basis span positions
      → IsChosen q (vectors q mul) us (units q 0 n) [] (map (unit q) positions)
  chosen-units positions g = chosen-from n 0 positions (map (unit q) positions) (omega arith)
      (rw U.count at g) refl
