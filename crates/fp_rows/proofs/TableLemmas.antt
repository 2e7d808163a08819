-- Sums of chosen rows, and the table of all of them: place i of the table of n rows is the sum of the rows
-- that the bits of i name.
use Rattle.std.proofs.Common.{◌≡◌, ℕ, zero, suc, ◌+◌, ◌-◌, ◌*◌, ◌^◌, ◌<◌, ◌≤◌, List, length, replicate, arith}
use Rattle.std.proofs.Common.{ap, sym, ◌∙◌}
use Rattle.std.proofs.lemmas.List.{ext_get_or}
use Rattle.std.proofs.lemmas.Nat.Bits.{bit_at_above, bit_at_cat_low, bit_at_cat_high}
use Rattle.std.specs.Int.{bit_at}
use Rattle.linear_algebra.specs.Modular.{IsCongruent, sum_below}
use Rattle.linear_algebra.specs.Rows.{entry, row, add_multiple, IsRow, IsMatrix}
use Rattle.linear_algebra.proofs.Congruences.{congruent_refl, congruent_add, congruent_trans, congruent_eq}
use Rattle.linear_algebra.proofs.Congruences.{congruent_sym, same_below}
use Rattle.linear_algebra.proofs.Reducing.{add_multiple_is_row, entry_congruent}
use Rattle.fp_rows.proofs.SolvingLemmas.{zeros_row, entry_zeros}

-- v and the first n rows that the bits of i name, added one after another
abbrev pub add_named : (n : ℕ) → List (List ℕ) → ℕ → List ℕ → List ℕ
add_named zero rows i v = v
add_named (suc n) rows i v = add_multiple 2 (bit_at i n) (add_named n rows i v) (row rows n)

-- the sum of the first n rows that the bits of i name
abbrev pub named_sum : ℕ → ℕ → List (List ℕ) → ℕ → List ℕ
named_sum width n rows i = add_named n rows i (replicate width 0)

pub named_is_row : {width : ℕ} (n : ℕ) (rows : List (List ℕ)) (i : ℕ) (v : List ℕ) → n ≤ length rows
    → IsMatrix 2 width rows → IsRow 2 width v → IsRow 2 width (add_named n rows i v)
named_is_row zero rows i v l M r = r
named_is_row (suc n) rows i v l M r = add_multiple_is_row (bit_at i n) (add_named n rows i v) (row rows n)
    (omega arith) (named_is_row n rows i v (omega arith) M r) (M n (omega arith))

-- place by place: v and the combination with the bits of i
pub named_entry : {width : ℕ} (n : ℕ) (rows : List (List ℕ)) (i : ℕ) (v : List ℕ) → n ≤ length rows
    → IsMatrix 2 width rows → IsRow 2 width v → (j : ℕ) →
    IsCongruent 2 (entry (add_named n rows i v) j)
    (entry v j + sum_below n (λ k. bit_at i k * entry (row rows k) j))
named_entry zero rows i v l M r j = congruent_eq (omega arith)
named_entry (suc n) rows i v l M r j = congruent_trans
    (entry_congruent (bit_at i n) (add_named n rows i v) (row rows n)
    (named_is_row n rows i v (omega arith) M r) (M n (omega arith)) j)
    (congruent_trans (congruent_add (named_entry n rows i v (omega arith) M r j)
    (congruent_refl (bit_at i n * entry (row rows n) j))) (congruent_eq (omega arith)))

-- adding place i of the table is adding the rows that the bits of i name
pub table_adds : {width : ℕ} (n : ℕ) (rows : List (List ℕ)) (i : ℕ) (v : List ℕ) → n ≤ length rows
    → IsMatrix 2 width rows → IsRow 2 width v →
    add_multiple 2 1 v (named_sum width n rows i) ≡ add_named n rows i v
table_adds {width} n rows i v l M r = same_rows
    (add_multiple_is_row 1 v (named_sum width n rows i) (omega arith) r s) (named_is_row n rows i v l M r)
    (λ j. congruent_trans (entry_congruent 1 v (named_sum width n rows i) r s j)
    (congruent_trans (congruent_add (congruent_refl (entry v j))
    (congruent_trans (congruent_eq (omega arith)) (named_entry n rows i (replicate width 0) l M zeros j)))
    (congruent_trans (congruent_eq (let z : entry
    (replicate width 0) j ≡ 0 = entry_zeros width j in omega arith))
    (congruent_sym (named_entry n rows i v l M r j)))))
  where
    zeros : IsRow 2 width (replicate width 0)
    zeros = zeros_row 2 width (omega arith)

    s : IsRow 2 width (named_sum width n rows i)
    s = named_is_row n rows i (replicate width 0) l M zeros

    same_rows : {a b : List ℕ} → IsRow 2 width a → IsRow 2 width b
        → ((j : ℕ) → IsCongruent 2 (entry a j) (entry b j)) → a ≡ b
    same_rows {a} {b} ra rb h = ext_get_or 0 a b (ra.length_is
        ∙ sym rb.length_is) (λ j l. same_below (h j) (ra.below j (omega (arith, l, ra.length_is)))
        (rb.below j (omega (arith, l, ra.length_is))))

-- the table of one more row: the table, and then the table with the row added to each place
pub table_grows_low : (width n : ℕ) (rows : List (List ℕ)) (i v : ℕ) → i < 2 ^ n → bit_at i n ≡ 0
table_grows_low width n rows i v l = bit_at_above i n n l (omega arith)

pub table_grows_high : (n i k : ℕ) → i < 2 ^ n → k < n → bit_at (2 ^ n + i) k ≡ bit_at i k
table_grows_high n i k l m = ap (λ x. bit_at x k) (let e : 2 ^ n + i ≡ 1 * 2 ^ n + i = omega arith in e)
    ∙ bit_at_cat_low 1 n i k m

pub table_grows_top : (n i : ℕ) → i < 2 ^ n → bit_at (2 ^ n + i) n ≡ 1
table_grows_top n i l = ap (λ x. bit_at x n) (let e : 2 ^ n + i ≡ 1 * 2 ^ n + i = omega arith in e)
    ∙ bit_at_cat_high 1 n i n l (omega arith) ∙ (let z : n - n ≡ 0 = omega arith in ap (bit_at 1) z)
