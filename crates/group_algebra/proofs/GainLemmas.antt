-- Rows that gain multiples of rows, one at a time.
use Rattle.std.proofs.Common.{◌≡◌, ◌≢◌, ℕ, ◌+◌, ◌*◌, ◌%◌, ◌<◌, ◌≤◌, ◌⊎◌, List, length, slice_set, inl, inr}
use Rattle.std.proofs.Common.{arith, ap, sym, ◌∙◌, add-one, get_or-set_same, get_or-set_other, below_more}
use Rattle.std.proofs.Common.{refl}
use Rattle.std.proofs.lemmas.Bool.{cases_eq}
use Rattle.std.proofs.lemmas.List.{length-set}
use mathlib.Core.Path.{subst}
use Rattle.linear_algebra.specs.Modular.{IsCongruent, sum_below}
use Rattle.linear_algebra.specs.Rows.{entry, IsRow}
use Rattle.linear_algebra.proofs.Congruences.{congruent_trans, congruent_eq, congruent_add}
use Rattle.linear_algebra.proofs.Congruences.{congruent_mul_right, congruent_mod}
use Rattle.radical_layers.specs.Placing.{place_of, size_of}
use Rattle.group_algebra.specs.Gains.{BlockGains}
use Rattle.group_algebra.proofs.PlaceLemmas.{place-inside-of, place-differs-of}

pub set-row : {p w : ℕ} (out : List ℕ) (i x : ℕ) → IsRow p w out → i < w → x < p
    → IsRow p w (slice_set out i x)
set-row {p} {w} out i x r l m = record {
  length_is = length-set out i x
      ∙ r.length_is;
  below = λ j k. at j k (cases_eq j i);
}
  where
    at : (j : ℕ) → j < w → (j ≡ i) ⊎ (j ≢ i) → entry (slice_set out i x) j < p
    at j k (inl e) = subst (λ y. y < p) (sym (ap (entry (slice_set out i x)) e
        ∙ get_or-set_same out i x 0 (let z = r.length_is in omega (arith, z, l)))) m
    at j k (inr d) = subst (λ y. y < p) (sym (get_or-set_other out i j x 0 d)) (r.below j k)

-- one more member of a block
module _ {p : ℕ} (sizes : List ℕ) (rank block j : ℕ) (old out : List ℕ) (g : ℕ
    → ℕ) (x : ℕ) (inside : block < rank) (member : j < size_of sizes)
    (len : length out ≡ size_of sizes * rank)
    (value : IsCongruent p x (entry out (place_of sizes rank block j) + g j)) where
  abbrev written : List ℕ
  written = slice_set out (place_of sizes rank block j) x

  other : (i k : ℕ) → i < rank → k < size_of sizes → (i ≡ block → k ≡ j → ⊥)
      → entry written (place_of sizes rank i k) ≡ entry out (place_of sizes rank i k)
  other i k l m d = get_or-set_other out (place_of sizes rank block j) (place_of sizes rank i k) x 0
      (λ e. let s : (i ≡ block) × (k ≡ j) = place-differs-of sizes rank i k block j l m inside member e in
      d s.0 s.1)

  pub block-gained : ((k : ℕ) → k < j → IsCongruent p (entry out (place_of sizes rank block k))
      (entry old (place_of sizes rank block k) + g k))
      → entry out (place_of sizes rank block j) ≡ entry old (place_of sizes rank block j)
      → (k : ℕ) → k < j + 1 → IsCongruent p (entry written (place_of sizes rank block k))
      (entry old (place_of sizes rank block k) + g k)
  block-gained h same = below_more _ j
      (λ k l. congruent_trans (congruent_eq
      (other block k inside (omega (arith, l, member)) (λ e f. let z : k ≡ j = f in omega (arith, z, l))))
      (h k l))
      (congruent_trans (congruent_eq (get_or-set_same out (place_of sizes rank block j) x 0
      (let z : place_of sizes rank block j < size_of sizes * rank = place-inside-of sizes rank block j inside
      member in omega (arith, z, len))))
      (congruent_trans value (congruent_eq (ap (λ y. y + g j) same))))

  pub block-later : ((k : ℕ) → j ≤ k → k < size_of sizes
      → entry out (place_of sizes rank block k) ≡ entry old (place_of sizes rank block k))
      → (k : ℕ) → j + 1 ≤ k → k < size_of sizes
      → entry written (place_of sizes rank block k) ≡ entry old (place_of sizes rank block k)
  block-later h k l m = other block k inside m (λ e f. let z : k ≡ j = f in omega (arith, z, l))
      ∙ h k (omega (arith, l)) m

  pub block-others : ((i k : ℕ) → i < rank → i ≢ block → k < size_of sizes
      → entry out (place_of sizes rank i k) ≡ entry old (place_of sizes rank i k))
      → (i k : ℕ) → i < rank → i ≢ block → k < size_of sizes
      → entry written (place_of sizes rank i k) ≡ entry old (place_of sizes rank i k)
  block-others h i k l d m = other i k l m (λ e f. d e) ∙ h i k l d m

-- the image of a block, one member at a time
module _ (p : ℕ) (sizes : List ℕ) (rank block c : ℕ) (f : ℕ → ℕ → ℕ) (old : List ℕ) where
  abbrev Gained : ℕ → List ℕ → Type 0
  Gained k new = BlockGains p sizes rank block (λ j. c * sum_below k (λ i. f i j)) old new

  pub gains-start : IsRow p (size_of sizes * rank) old → Gained 0 old
  gains-start r = record {
    is_row = r;
    gained = λ j l. congruent_eq (let z : entry old (place_of sizes rank block j) ≡ entry old
        (place_of sizes rank block j) + c * 0 = omega arith in z);
    kept = λ m j l d k. refl;
  }

  pub gains-next : (mid new r : List ℕ) (k x F : ℕ) → Gained k mid
      → BlockGains p sizes rank block (λ j. F * entry r j) mid new → F ≡ (c * x) % p
      → ((j : ℕ) → x * entry r j ≡ f k j) → Gained (k + 1) new
  gains-next mid new r k x F A B e h = record {
    is_row = B.is_row;
    gained = λ j l. congruent_trans (B.gained j l)
        (congruent_trans (congruent_add (A.gained j l)
        (congruent_trans (congruent_eq (ap (λ y. y * entry r j) e))
        (congruent_trans (congruent_mul_right (entry r j) (congruent_mod (c * x)))
        (congruent_eq ((let z : c * x * entry r j ≡ c * (x * entry r j) = omega arith in z)
        ∙ ap (λ y. c * y) (h j))))))
        (congruent_eq (rw add-one (let d : c * (sum_below k (λ i. f i j) + f k j) ≡ c * sum_below k
        (λ i. f i j) + c * f k j = omega arith in omega (arith, d)))));
    kept = λ m j l d o. B.kept m j l d o ∙ A.kept m j l d o;
  }
