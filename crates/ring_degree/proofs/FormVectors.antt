-- Rows of combinations as vectors.
use Rattle.std.proofs.Common.{◌≡◌, ℕ, zero, suc, ◌+◌, ◌*◌, ◌%◌, ◌<◌, ◌≤◌, List, [], ◌∷◌, length, map, ◌⊎◌}
use Rattle.std.proofs.Common.{inl, inr, arith, ap, sym, ◌∙◌, refl}
use Rattle.std.proofs.Math.Path.{fun_ext}
use Rattle.std.proofs.lemmas.Bool.{cases_lt}
use Rattle.std.proofs.lemmas.List.{get_or_past, length-replicate}
use Rattle.fp_rows.proofs.SolvingLemmas.{entry_zeros}
use Rattle.linear_algebra.specs.Rows.{entry, add_multiple, combination_row}
use Rattle.linear_algebra.proofs.Congruences.{congruent_mod}
use Rattle.linear_algebra.proofs.RowLemmas.{length-add_multiple, entry-add_multiple}
use Rattle.graded_algebra.specs.Algebras.{linear, times}
use Rattle.graded_algebra.specs.Vectors.{Below, Vector, residue, vectors}
use Rattle.graded_algebra.proofs.VectorLemmas.{below-path, plus-residue, vector-comm, vector-space}
use Rattle.presentation_rows.specs.RowPolynomials.{polynomial_of}
use Rattle.presentation_rows.specs.Values.{vector}
use Rattle.presentation_rows.proofs.RowValues.{times-residue}

module _ (q : ℕ) (mul : ℕ → ℕ → Vector q → Vector q → Vector q) where
  -- a sum of rows
  pub vector-sum : (c : ℕ) (xs ys : List ℕ) → length ys ≡ length xs
      → vector q (add_multiple (suc q) c xs ys)
      ≡ (vectors q mul).add (vector q xs) (times (vectors q mul) c (vector q ys))
  vector-sum c xs ys e = fun_ext (λ j. at j (cases_lt j (length xs)))
    where
      sum : (j : ℕ) → (vectors q mul).add (vector q xs) (times (vectors q mul) c (vector q ys)) j
          ≡ residue q (entry xs j + c * entry ys j)
      sum j = ap (λ (b : Below (suc q)). residue q ((residue q (entry xs j)).0 + b.0))
          (times-residue q mul c (vector q ys) j (entry ys j) refl)
          ∙ plus-residue q (entry xs j) (c * entry ys j)

      at : (j : ℕ) → (j < length xs) ⊎ (length xs ≤ j) → vector q (add_multiple (suc q) c xs ys) j
          ≡ (vectors q mul).add (vector q xs) (times (vectors q mul) c (vector q ys)) j
      at j (inl l) = ap (residue q) (entry-add_multiple (suc q) c xs ys j e l)
          ∙ below-path (residue q ((entry xs j + c * entry ys j) % suc q))
          (residue q (entry xs j + c * entry ys j))
          (congruent_mod {p = suc q} (entry xs j + c * entry ys j)).same_remainder
          ∙ sym (sum j)
      at j (inr l) = ap (residue q) (get_or_past (add_multiple (suc q) c xs ys) j 0
          (omega (arith, l, length-add_multiple (suc q) c xs ys))
          ∙ (let a : entry xs j ≡ 0 = get_or_past xs j 0 l in
          let b : entry ys j ≡ 0 = get_or_past ys j 0 (omega (arith, l, e)) in
          let z : 0 ≡ entry xs j + c * entry ys j = rw (a, b) (omega arith) in z))
          ∙ sym (sum j)

  pub length-combination : (w : ℕ) (u : ℕ → ℕ) (rows : List (List ℕ))
      → length (combination_row (suc q) w u rows) ≡ w
  length-combination w u [] = length-replicate {A = ℕ} w 0
  length-combination w u (r ∷ rows) =
      length-add_multiple (suc q) (u 0) (combination_row (suc q) w (λ i. u (suc i)) rows) r
      ∙ length-combination w (λ i. u (suc i)) rows

  -- the combination of the rows of a list is the linear extension
  pub vector-combination : (w : ℕ) (f : List ℕ → List ℕ) → ((s : List ℕ) → length (f s) ≡ w)
      → (ss : List (List ℕ)) (u : List ℕ) → length u ≡ length ss
      → vector q (combination_row (suc q) w (entry u) (map f ss))
      ≡ linear (vectors q mul) (λ s. vector q (f s)) (polynomial_of ss u)
  vector-combination w f h [] u e = fun_ext (λ j. ap (residue q) (entry_zeros w j))
  vector-combination w f h (s ∷ ss) [] e = absurd (omega (arith, e))
  vector-combination w f h (s ∷ ss) (zero ∷ u) e =
      vector-sum 0 (combination_row (suc q) w (entry u) (map f ss)) (f s)
      (h s ∙ sym (length-combination w (entry u) (map f ss)))
      ∙ (vector-space q mul).add-zero (vector q (combination_row (suc q) w (entry u) (map f ss)))
      ∙ vector-combination w f h ss u (omega (arith, e))
  vector-combination w f h (s ∷ ss) (suc c ∷ u) e =
      vector-sum (suc c) (combination_row (suc q) w (entry u) (map f ss)) (f s)
      (h s ∙ sym (length-combination w (entry u) (map f ss)))
      ∙ vector-comm q mul (vector q (combination_row (suc q) w (entry u) (map f ss)))
      (times (vectors q mul) (suc c) (vector q (f s)))
      ∙ ap ((vectors q mul).add (times (vectors q mul) (suc c) (vector q (f s))))
      (vector-combination w f h ss u (omega (arith, e)))
