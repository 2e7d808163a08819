-- The rows of a greedy choice are a basis modulo the span of all (g - 1) v.
use Rattle.std.proofs.Common.{◌≡◌, ℕ, zero, suc, ◌+◌, ◌*◌, ◌-◌, ◌<◌, ◌≤◌, ◌⊎◌, List, [], ◌++◌, length, get_or}
use Rattle.std.proofs.Common.{inl, inr, arith, ap, ap₂, sym, ◌∙◌, refl}
use Rattle.std.proofs.lemmas.Bool.{cases_lt}
use Rattle.std.proofs.lemmas.List.{get_or_append_left, get_or-append-add, length-append, length-map}
use Rattle.std.proofs.Math.Nat.{mod-eq_of_lt}
use mathlib.Core.Path.{subst}
use Rattle.group_modules.specs.Module.{Module, sub, times}
use Rattle.group_modules.specs.Field.{Below, residue}
use Rattle.linear_algebra.proofs.Residues.{below-path}
use Rattle.group_modules.specs.Tables.{Group, monoid}
use Rattle.augmentation_ideal.specs.Radical.{Moved}
use Rattle.augmentation_ideal.specs.Generators.{combine, IsBasisModuloMoved}
use Rattle.linear_algebra.specs.Modular.{IsCongruent, IsFieldModulo, sum_below}
use Rattle.linear_algebra.specs.Rows.{entry, row, combination, IsRow, IsMatrix, IsInSpan}
use Rattle.linear_algebra.specs.Choices.{rows_at, IsGreedy}
use Rattle.linear_algebra.proofs.Sums.{sum_below-same}
use Rattle.linear_algebra.proofs.Spans.{in_span_congruent, in_span_trans}
use Rattle.linear_algebra.proofs.Congruences.{congruent_refl, congruent_add, congruent_trans, congruent_eq}
use Rattle.linear_algebra.proofs.Congruences.{congruent_sym, congruent_mod, congruent_mul_left}
use Rattle.linear_algebra.proofs.Congruences.{congruent_mul_right, congruent_minus}
use Rattle.radical_layers.specs.Coordinates.{RowForm}
use Rattle.radical_layers.specs.Moves.{moves}
use Rattle.linear_algebra.proofs.GreedyChoice.{greedy-spans, greedy-independent, greedy-below}
use Rattle.radical_layers.proofs.Bridge.{at, at-times, at-sub, at-total, moved-from-span, span-from-moved}

pub sum_below-parts : (k l : ℕ) (f : ℕ → ℕ)
    → sum_below (k + l) f ≡ sum_below k f + sum_below l (λ i. f (k + i))
sum_below-parts k zero f = rw (let e : k + 0 ≡ k = omega arith in e) (omega arith)
sum_below-parts k (suc l) f = rw (let e : k + suc l ≡ suc (k + l) = omega arith in e)
    (omega (arith, sum_below-parts k l f))

pub combination-append : (u : ℕ → ℕ) (t r : List (List ℕ)) (j : ℕ)
    → combination u (t ++ r) j ≡ combination u t j + combination (λ i. u (length t + i)) r j
combination-append u t r j =
    ap (λ n. sum_below n (λ i. u i * entry (row (t ++ r) i) j)) (length-append t r)
    ∙ sum_below-parts (length t) (length r) (λ i. u i * entry (row (t ++ r) i) j)
    ∙ ap₂ ◌+◌
    (sum_below-same (length t) (λ i. u i * entry (row (t ++ r) i) j) (λ i. u i * entry (row t i) j)
    (λ i l. ap (λ x. u i * entry x j) (get_or_append_left t r [] i l)))
    (sum_below-same (length r) (λ i. u (length t + i) * entry (row (t ++ r) (length t + i)) j)
    (λ i. u (length t + i) * entry (row r i) j)
    (λ i l. ap (λ x. u (length t + i) * entry x j) (get_or-append-add t r i [])))

-- a member of the span of t and r, less a combination of r, is in the span of t
pub in-span-append : (q : ℕ) (t r : List (List ℕ)) (f : ℕ → ℕ) → 1 < suc q → IsInSpan (suc q) (t ++ r) f
    → (c : ℕ → ℕ) × IsInSpan (suc q) t (λ j. f j + q * combination c r j)
in-span-append q t r f h s = (
  (λ i. s.0 (length t + i)),
  (
    s.0,
    record {
      each = λ j. less (f j) (combination s.0 t j) (combination (λ i. s.0 (length t + i)) r j)
          (congruent_trans (congruent_eq (sym (combination-append s.0 t r j))) (s.1.each j));
    },
  ),
)
  where
    less : (x a c : ℕ) → IsCongruent (suc q) (a + c) x → IsCongruent (suc q) a (x + q * c)
    less x a c k = congruent_sym (congruent_trans (congruent_add (congruent_sym k) (congruent_refl (q * c)))
        (congruent_trans (congruent_eq (let e : a + c + q * c ≡ a + (c + (suc q - 1) * c) =
        (let y : a + c + q * c ≡ a + (c + q * c) = omega arith in y)
        ∙ ap (λ m. a + (c + m * c)) (let z : q ≡ suc q - 1 = omega arith in z) in e))
        (congruent_trans (congruent_add (congruent_refl a) (congruent_minus c h))
        (congruent_eq (omega arith)))))

module _ {n : ℕ} (q : ℕ) (F : IsFieldModulo (suc q)) (Γ : Group n) (D : ℕ) (T : Module (suc q) (monoid Γ))
    (K : RowForm D T) (L : T.of → Type 0)
    (E : List (List ℕ)) (matrix : IsMatrix (suc q) D E)
    (members : (i : ℕ) → i < length E → L (K.table (row E i))) (spans : (v : T.of) → L v
    → IsInSpan (suc q) E (at q Γ D T K v))
    (xs : List ℕ) (greedy : IsGreedy (suc q) E (moves Γ T K E) xs) (m : ℕ) (count : m ≡ length xs) where
  abbrev R : List (List ℕ)
  R = rows_at E xs

  -- the table of row i of those taken
  abbrev taken : Below m → T.of
  taken i = K.table (row R i.0)

  inside : (i : Below m) → i.0 < length xs
  inside i = subst (λ k. i.0 < k) count i.1

  place : (i : Below m) → (row R i.0 ≡ row E (get_or xs i.0 0)) × (get_or xs i.0 0 < length E)
  place i = greedy-below (suc q) E (moves Γ T K E) (length E) xs greedy i.0 (inside i)

  at-combine : (c : Below m → Below (suc q)) (u : ℕ → ℕ)
      → ((i : Below m) → IsCongruent (suc q) (c i).0 (u i.0)) → (j : ℕ)
      → IsCongruent (suc q) (at q Γ D T K (combine T m taken c) j) (combination u R j)
  at-combine c u e j = congruent_trans
      (at-total q Γ D T K m (λ i. times T.add T.zero (c i).0 (taken i)) (λ i. u i * entry (row R i) j) j
      (λ i. congruent_trans (at-times q Γ D T K (c i).0 (taken i) j)
      (congruent_trans (congruent_mul_right (at q Γ D T K (taken i) j) (e i))
      (congruent_eq (ap (λ r. u i.0 * entry r j)
      (K.row-table (row R i.0) (subst (IsRow (suc q) D) (sym (place i).0)
      (matrix (get_or xs i.0 0) (place i).1))))))))
      (congruent_eq (ap (λ k. sum_below k (λ i. u i * entry (row R i) j)) (count
      ∙ sym (length-map xs (row E)))))

  -- the coefficients as a sequence
  chosen : (Below m → Below (suc q)) → (i : ℕ) → (i < m) ⊎ (m ≤ i) → ℕ
  chosen c i (inl l) = (c (i, l)).0
  chosen c i (inr l) = 0

  sequence : (Below m → Below (suc q)) → ℕ → ℕ
  sequence c i = chosen c i (cases_lt i m)

  sequence-at : (c : Below m → Below (suc q)) (i : Below m) → (c i).0 ≡ sequence c i.0
  unfolding sequence chosen
  sequence-at c i = go (cases_lt i.0 m)
    where
      go : (s : (i.0 < m) ⊎ (m ≤ i.0)) → (c i).0 ≡ chosen c i.0 s
      go (inl l) = ap (λ (k : Below m). (c k).0) (below-path i (i.0, l) refl)
      go (inr l) = absurd (let k : i.0 < m = i.1 in omega (arith, k, l))

  pub basis : IsBasisModuloMoved T L m taken
  basis = record {
    members = λ i. subst L (ap K.table (sym (place i).0)) (members (get_or xs i.0 0) (place i).1);
    spanning = λ v k. spanning v (in-span-append q (moves Γ T K E) R (at q Γ D T K v) F.above_one
        (in_span_trans (λ i l. greedy-spans (suc q) E (moves Γ T K E) (length E) xs greedy i l) (spans v k)));
    independent = λ c h i. zero-of (c i) (congruent_trans (congruent_eq (sequence-at c i))
        (greedy-independent (suc q) F E (moves Γ T K E) (length E) xs greedy (sequence c)
        (in_span_congruent (at-combine c (sequence c) (λ i. congruent_eq (sequence-at c i)))
        (span-from-moved q Γ D T K L E matrix members spans (combine T m taken c) h))
        i.0 (inside i)));
  }
    where
      spanning : (v : T.of) → (c : ℕ → ℕ)
          × IsInSpan (suc q) (moves Γ T K E) (λ j. at q Γ D T K v j + q * combination c R j)
          → (c : Below m → Below (suc q)) × Moved T L (sub T v (combine T m taken c))
      spanning v s = (
        (λ i. residue q (s.0 i.0)),
        moved-from-span q Γ D T K L E matrix members spans
            (sub T v (combine T m taken (λ i. residue q (s.0 i.0))))
            (in_span_congruent (λ j. congruent_sym
            (congruent_trans (at-sub q Γ D T K v (combine T m taken (λ i. residue q (s.0 i.0))) j)
            (congruent_add (congruent_refl (at q Γ D T K v j))
            (congruent_mul_left q (at-combine (λ i. residue q (s.0 i.0)) s.0
            (λ i. congruent_mod (s.0 i.0)) j))))) s.1),
      )

      zero-of : (a : Below (suc q)) → IsCongruent (suc q) a.0 0 → a ≡ residue q 0
      zero-of a h = below-path a (residue q 0) (sym (mod-eq_of_lt a.1) ∙ h.same_remainder)
