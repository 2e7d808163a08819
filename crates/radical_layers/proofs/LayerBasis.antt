-- The joined greedy lists of a descending chain of subspaces that ends at 0 are a basis of the first.
use Rattle.std.proofs.Common.{◌≡◌, ℕ, zero, suc, ◌+◌, ◌*◌, ◌-◌, ◌<◌, ◌≤◌, ◌⊎◌, List, [], ◌++◌, length, get_or}
use Rattle.std.proofs.Common.{inl, inr, arith, ap, sym}
use Rattle.std.proofs.lemmas.Bool.{cases_lt}
use Rattle.std.proofs.lemmas.List.{length-append, length-map, get_or_append_left, get_or-append-add}
use mathlib.Core.Path.{subst}
use Rattle.linear_algebra.specs.Modular.{IsCongruent, IsFieldModulo}
use Rattle.linear_algebra.specs.Rows.{entry, row, combination, IsInSpan, AreInSpan}
use Rattle.linear_algebra.specs.Choices.{rows_at, IsGreedy}
use Rattle.linear_algebra.proofs.Sums.{sum_below-vanishes}
use Rattle.linear_algebra.proofs.Spans.{in_span_congruent, in_span_zero, in_span_row, in_span_add}
use Rattle.linear_algebra.proofs.Spans.{in_span_trans}
use Rattle.linear_algebra.proofs.Congruences.{congruent_refl, congruent_add, congruent_trans, congruent_eq}
use Rattle.linear_algebra.proofs.Congruences.{congruent_sym, congruent_mul_right, congruent_minus}
use Rattle.linear_algebra.proofs.Independence.{Independent}
use Rattle.radical_layers.specs.LayerBasis.{joined, after}
use Rattle.linear_algebra.proofs.GreedyChoice.{greedy-spans, greedy-independent, greedy-below, in-left}
use Rattle.linear_algebra.proofs.GreedyChoice.{in-right, in-combination}
use Rattle.radical_layers.proofs.Basis.{combination-append}

are-in-append : (p : ℕ) (X xs ys : List (List ℕ)) → AreInSpan p X xs → AreInSpan p X ys
    → AreInSpan p X (xs ++ ys)
are-in-append p X xs ys h k i l = go (cases_lt i (length xs))
  where
    go : (i < length xs) ⊎ (length xs ≤ i) → IsInSpan p X (entry (row (xs ++ ys) i))
    go (inl m) = rw (get_or_append_left xs ys [] i m) (h i m)
    go (inr m) = let e : i ≡ length xs + (i - length xs) = omega (arith, m) in
        rw (e, get_or-append-add xs ys (i - length xs) [])
        (k (i - length xs) (let f : length
        (xs ++ ys) ≡ length xs + length ys = length-append xs ys in omega (arith, f, l, m)))

module _ (p : ℕ) (F : IsFieldModulo p) (E : ℕ → List (List ℕ)) (pos : ℕ → List ℕ) (greedy : (i : ℕ)
    → IsGreedy p (E i) (E (suc i)) (pos i))
    (smaller : (i : ℕ) → AreInSpan p (E i) (E (suc i))) where
  R : ℕ → List (List ℕ)
  R i = rows_at (E i) (pos i)

  -- the members of layer i are rows of the list of that power
  layer-in : (i : ℕ) → AreInSpan p (E i) (R i)
  unfolding R
  layer-in i k l = subst (λ r. IsInSpan p (E i) (entry r)) (sym (g.0))
      (in_span_row (E i) (get_or (pos i) k 0) g.1)
    where
      g : (row (rows_at (E i) (pos i)) k ≡ row (E i) (get_or (pos i) k 0))
          × (get_or (pos i) k 0 < length (E i))
      g = greedy-below p (E i) (E (suc i)) (length (E i)) (pos i) (greedy i) k
          (subst (λ x. k < x) (length-map (pos i) (row (E i))) l)

  pub joined-in : (c i : ℕ) → AreInSpan p (E i) (joined E pos i c)
  unfolding R
  joined-in zero i k l = absurd (omega (arith, l))
  joined-in (suc c) i k l = are-in-append p (E i) (R i) (joined E pos (suc i) c) (layer-in i)
      (λ a b. in_span_trans (smaller i) (joined-in c (suc i) a b)) k l

  pub joined-spans : (c i : ℕ) → E (after i c) ≡ [] → AreInSpan p (joined E pos i c) (E i)
  unfolding R
  joined-spans zero i e k l = absurd (let z : length (E i) ≡ 0 = ap length e in omega (arith, z, l))
  joined-spans (suc c) i e k l = in_span_trans
      (are-in-append p (R i ++ joined E pos (suc i) c) (E (suc i)) (R i)
      (λ a b. in-right p (R i) (joined E pos (suc i) c) (entry (row (E (suc i)) a))
      (joined-spans c (suc i) e a b))
      (λ a b. in-left p (R i) (joined E pos (suc i) c) (entry (row (R i) a)) (in_span_row (R i) a b)))
      (greedy-spans p (E i) (E (suc i)) (length (E i)) (pos i) (greedy i) k l)

  pub joined-independent : (c i : ℕ) → Independent p (length (joined E pos i c))
      (λ k j. entry (row (joined E pos i c) k) j)
  unfolding R
  joined-independent zero i = record { only_zero = λ u h k l. absurd (omega (arith, l)) }
  joined-independent (suc c) i = record {
    only_zero = λ u h k l. go u h (joined-independent c (suc i)) k l
        (cases_lt k (length (R i)));
  }
    where
      J : List (List ℕ)
      J = joined E pos (suc i) c

      v : (ℕ → ℕ) → ℕ → ℕ
      v u k = u (length (R i) + k)

      apart : (u : ℕ → ℕ) → ((j : ℕ) → IsCongruent p (combination u (R i ++ J) j) 0) → (j : ℕ)
          → IsCongruent p (combination u (R i) j + combination (v u) J j) 0
      apart u h j = congruent_trans (congruent_eq (sym (combination-append u (R i) J j))) (h j)

      -- the part over the layer is in the span of the next list
      inside : (u : ℕ → ℕ) → ((j : ℕ) → IsCongruent p (combination u (R i ++ J) j) 0)
          → IsInSpan p (E (suc i)) (combination u (R i))
      inside u h = in_span_congruent (λ j. cancel (combination u (R i) j) (combination (v u) J j)
          (apart u h j))
          (in_span_add {f = λ j. 0} {g = combination (v u) J} (p - 1) in_span_zero
          (in_span_trans (joined-in c (suc i)) (in-combination p (v u) J)))
        where
          cancel : (a b : ℕ) → IsCongruent p (a + b) 0 → IsCongruent p (0 + (p - 1) * b) a
          cancel a b e = congruent_sym (congruent_trans
              (congruent_trans (congruent_eq (omega arith))
              (congruent_sym (congruent_add (congruent_refl a) (congruent_minus b F.above_one))))
              (congruent_trans (congruent_eq
              (let z : a + (b + (p - 1) * b) ≡ a + b + (p - 1) * b = omega arith in z))
              (congruent_add e (congruent_refl ((p - 1) * b)))))

      first-zero : (u : ℕ → ℕ) → ((j : ℕ) → IsCongruent p (combination u (R i ++ J) j) 0) → (k : ℕ)
          → k < length (R i) → IsCongruent p (u k) 0
      first-zero u h k l = greedy-independent p F (E i) (E (suc i)) (length (E i)) (pos i) (greedy i) u
          (inside u h) k (subst (λ x. k < x) (length-map (pos i) (row (E i))) l)

      go : (u : ℕ → ℕ) → ((j : ℕ) → IsCongruent p (combination u (R i ++ J) j) 0)
          → Independent p (length J) (λ k j. entry (row J k) j)
          → (k : ℕ) → k < length (R i ++ J) → (k < length (R i)) ⊎ (length (R i) ≤ k) → IsCongruent p (u k) 0
      go u h I k l (inl d) = first-zero u h k d
      go u h I k l (inr d) = subst (λ x. IsCongruent p (u x) 0)
          (let e : length (R i) + (k - length (R i)) ≡ k = omega (arith, d) in e)
          (I.only_zero (v u) (λ j. congruent_trans
          (congruent_sym (congruent_trans
          (congruent_add (vanishes j) (congruent_refl (combination (v u) J j)))
          (congruent_eq (omega arith)))) (apart u h j))
          (k - length (R i)) (let s : length (R i ++ J) ≡ length (R i) + length J = length-append
          (R i) J in omega (arith, s, l, d)))
        where
          vanishes : (j : ℕ) → IsCongruent p (combination u (R i) j) 0
          vanishes j = sum_below-vanishes p (length (R i)) (λ k. u k * entry (row (R i) k) j)
              (λ k d. congruent_trans (congruent_mul_right (entry (row (R i) k) j) (first-zero u h k d))
              (congruent_eq (let z : 0 * entry (row (R i) k) j ≡ 0 = omega arith in z)))
