-- Combinations of rows as rows, and the loop that makes them.
use Rattle.std.proofs.Common.{◌≡◌, ℕ, zero, suc, ◌+◌, ◌*◌, ◌<◌, ◌≤◌, ◌⊎◌, List, [], ◌∷◌, length, replicate}
use Rattle.std.proofs.Common.{inl, inr, arith, sym, ◌∙◌}
use Rattle.std.proofs.lemmas.Bool.{cases_lt}
use Rattle.std.proofs.lemmas.List.{length-replicate, get_or-replicate, get_or_past, ext_get_or}
use mathlib.Core.Path.{subst}
use Rattle.linear_algebra.specs.Modular.{IsCongruent, sum_below}
use Rattle.linear_algebra.specs.Rows.{entry, row, add_multiple, combination, combination_row, IsRow, IsMatrix}
use Rattle.linear_algebra.proofs.Congruences.{congruent_refl, congruent_add, congruent_trans, congruent_eq}
use Rattle.linear_algebra.proofs.Congruences.{congruent_sym, same_below}
use Rattle.linear_algebra.proofs.Reducing.{add_multiple_is_row, entry_congruent}

-- acc is the combination of the first k rows, in a loop that makes the whole one
pub record IsPartialCombination (p width : ℕ) (u : ℕ
    → ℕ) (rows : List (List ℕ)) (k : ℕ) (acc : List ℕ) : Type 0 where
  pub is_row : IsRow p width acc
  pub each : (j : ℕ) → IsCongruent p (entry acc j) (sum_below k (λ i. u i * entry (row rows i) j))

sum_below-first : (n : ℕ) (f : ℕ → ℕ) → sum_below (suc n) f ≡ sum_below n (λ i. f (suc i)) + f 0
sum_below-first zero f = omega arith
sum_below-first (suc n) f = omega (arith, sum_below-first n f)

zeros-are : (p width : ℕ) → 0 < p → IsRow p width (replicate width 0)
zeros-are p width l = record {
  length_is = length-replicate width 0;
  below = λ j m. subst (λ x. x < p) (sym (get_or-replicate width j 0 0 m)) l;
}

zero-entry : (width j : ℕ) → entry (replicate width 0) j ≡ 0
zero-entry width j = go (cases_lt j width)
  where
    go : (j < width) ⊎ (width ≤ j) → entry (replicate width 0) j ≡ 0
    go (inl l) = get_or-replicate width j 0 0 l
    go (inr l) = get_or_past (replicate width 0) j 0
        (let z : length {A = ℕ} (replicate width 0) ≡ width = length-replicate width 0 in omega (arith, z, l))

later : {p width : ℕ} (r : List ℕ) (rows : List (List ℕ)) → IsMatrix p width (r ∷ rows)
    → IsMatrix p width rows
later r rows M i l = M (suc i) (let z : suc i < suc (length rows) = omega (arith, l) in z)

pub combination_row-is_row : (p width : ℕ) → 0 < p → (u : ℕ → ℕ) (rows : List (List ℕ))
    → IsMatrix p width rows → IsRow p width (combination_row p width u rows)
combination_row-is_row p width l u [] M = zeros-are p width l
combination_row-is_row p width l u (r ∷ rows) M =
    add_multiple_is_row (u 0) (combination_row p width (λ i. u (suc i)) rows) r l
    (combination_row-is_row p width l (λ i. u (suc i)) rows (later r rows M))
    (M 0 (let z : 0 < suc (length rows) = omega arith in z))

pub combination_row-each : (p width : ℕ) → 0 < p → (u : ℕ → ℕ) (rows : List (List ℕ)) → IsMatrix p width rows
    → (j : ℕ) → IsCongruent p (entry (combination_row p width u rows) j) (combination u rows j)
combination_row-each p width l u [] M j = congruent_eq (zero-entry width j)
combination_row-each p width l u (r ∷ rows) M j = congruent_trans
    (entry_congruent (u 0) (combination_row p width (λ i. u (suc i)) rows) r
    (combination_row-is_row p width l (λ i. u (suc i)) rows (later r rows M))
    (M 0 (let z : 0 < suc (length rows) = omega arith in z)) j)
    (congruent_trans (congruent_add (combination_row-each p width l (λ i. u (suc i)) rows (later r rows M) j)
    (congruent_refl (u 0 * entry r j)))
    (congruent_eq (sym (sum_below-first (length rows) (λ i. u i * entry (row (r ∷ rows) i) j)))))

-- rows that agree modulo p are equal
pub same-row : {p width : ℕ} (x y : List ℕ) → IsRow p width x → IsRow p width y
    → ((j : ℕ) → IsCongruent p (entry x j) (entry y j)) → x ≡ y
same-row {p} {width} x y r s h = ext_get_or 0 x y (r.length_is ∙ sym s.length_is)
    (λ j l. let m : j < width = (let e : length x ≡ width = r.length_is in omega (arith, e, l)) in same_below
    (h j) (r.below j m) (s.below j m))

-- a row that agrees with the sum at each place is the sum: what the code's loop leaves
pub combination_row-is : {p width : ℕ} → 0 < p → (u : ℕ → ℕ) (rows : List (List ℕ)) → IsMatrix p width rows
    → (x : List ℕ) → IsRow p width x
    → ((j : ℕ) → j < width → IsCongruent p (entry x j) (combination u rows j))
    → x ≡ combination_row p width u rows
combination_row-is {p} {width} l u rows M x r h =
    ext_get_or 0 x (combination_row p width u rows) (r.length_is ∙ sym s.length_is)
    (λ j k. let m : j < width = (let e : length x ≡ width = r.length_is in omega (arith, e, k)) in
    same_below (congruent_trans (h j m) (congruent_sym (combination_row-each p width l u rows M j)))
    (r.below j m) (s.below j m))
  where
    s : IsRow p width (combination_row p width u rows)
    s = combination_row-is_row p width l u rows M

-- the loop: its start, a turn and its end
pub partial-start : {p width : ℕ} (u : ℕ → ℕ) (rows : List (List ℕ)) → 0 < p
    → IsPartialCombination p width u rows 0 (replicate width 0)
partial-start {p} {width} u rows l = record {
  is_row = zeros-are p width l;
  each = λ j. congruent_eq (zero-entry width j);
}

pub partial-step : {p width : ℕ} (u : ℕ → ℕ) (rows : List (List ℕ)) (k : ℕ) (acc : List ℕ) → 0 < p
    → IsMatrix p width rows → k < length rows → IsPartialCombination p width u rows k acc
    → IsPartialCombination p width u rows (k + 1) (add_multiple p (u k) acc (row rows k))
partial-step {p} {width} u rows k acc l M b h =
    subst (λ m. IsPartialCombination p width u rows m (add_multiple p (u k) acc (row rows k)))
    (let z : suc k ≡ k + 1 = omega arith in z) turn
  where
    turn : IsPartialCombination p width u rows (suc k) (add_multiple p (u k) acc (row rows k))
    turn = record {
      is_row = add_multiple_is_row (u k) acc (row rows k) l h.is_row (M k b);
      each = λ j. congruent_trans (entry_congruent (u k) acc (row rows k) h.is_row (M k b) j)
          (congruent_add (h.each j) (congruent_refl (u k * entry (row rows k) j)));
    }

pub partial-end : {p width : ℕ} (u : ℕ → ℕ) (rows : List (List ℕ)) (acc : List ℕ) → 0 < p
    → IsMatrix p width rows → IsPartialCombination p width u rows (length rows) acc
    → acc ≡ combination_row p width u rows
partial-end u rows acc l M h = combination_row-is l u rows M acc h.is_row (λ j m. h.each j)
