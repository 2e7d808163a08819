-- The zeros of short rows.
use Rattle.std.proofs.Common.{◌≡◌, ◌≢◌, ℕ, ◌+◌, ◌-◌, ◌*◌, ◌/◌, ◌%◌, ◌++◌, ◌<◌, ◌≤◌, ◌⊎◌, inl, inr, List}
use Rattle.std.proofs.Common.{length, replicate, take, drop, arith, ap, sym, ◌∙◌}
use Rattle.std.proofs.lemmas.Bool.{cases_eq}
use Rattle.std.proofs.lemmas.List.{take-replicate, length-replicate, get_or-replicate, get_or-take}
use Rattle.std.proofs.lemmas.List.{get_or_append_left}
use mathlib.Core.Path.{subst}
use Rattle.std.specs.Int.{bit_at}
use Rattle.linear_algebra.specs.Rows.{entry, add_multiple, IsRow}
use Rattle.linear_algebra.proofs.RowLemmas.{is_add_multiple}
use Rattle.fp_rows.specs.Places.{place, places}
use Rattle.fp_rows.specs.Short.{short_cells_of, IsShort}
use Rattle.fp_rows.specs.declared.short_row.ShortCells.TheVariants.{Bytes, Bits}
use Rattle.fp_rows.proofs.PlaceLemmas.{place_below, length-places}
use Rattle.fp_rows.proofs.BitLemmas.{cleared_bits, entry_bits}

pub zeros_are_row : (p len : ℕ) → 0 < p → IsRow p len (replicate len 0)
zeros_are_row p len l = record {
  length_is = length-replicate {A = ℕ} len 0;
  below = λ j m. subst (λ x. x < p) (sym (get_or-replicate len j 0 0 m)) l;
}

pub zero_bytes : (len : ℕ) → len ≤ 256 → short_cells_of (Bytes (replicate 256 0)) len ≡ replicate len 0
zero_bytes len l = let e : len - 0 ≡ len = omega arith in
    ap (λ k. take k (replicate {A = ℕ} 256 0)) e ∙ take-replicate {X = ℕ} len 256 0 l

pub short_zero_bytes : (p len : ℕ) → 1 < p → len ≤ 256 → (p ≡ 2 → ⊥) → IsShort p len (Bytes (replicate 256 0))
short_zero_bytes p len o l n = record {
  few = l;
  row = rw (zero_bytes len l) (zeros_are_row p len (omega arith));
  room = (omega (arith, length-replicate {A = ℕ} 256 0), n);
}

pub short_zero_bits : (p len : ℕ) → 1 < p → len ≤ 256 → p ≡ 2 → IsShort p len (Bits (replicate 4 0))
short_zero_bits p len o l e = record {
  few = l;
  row = rw (cleared_bits 4 len) (zeros_are_row p len (omega arith));
  room = (omega (arith, length-replicate {A = ℕ} 4 0), e);
}

-- the first i numbers of s are added, and the other places are as before
pub record AreBytesAdded (new old s : List ℕ) (i : ℕ) : Type 0 where
  pub done : (j : ℕ) → j < i → place new j ≡ (place old j + entry s j) % 2
  pub rest : (j : ℕ) → i ≤ j → place new j ≡ place old j

pub byte_one : (new ws old s : List ℕ) (i : ℕ) → AreBytesAdded ws old s i → entry s i ≡ 1
    → place new i ≡ 1 - place ws i → ((j : ℕ) → j ≢ i → place new j ≡ place ws j)
    → AreBytesAdded new old s (i + 1)
byte_one new ws old s i A e here others = record {
  done = λ j l. go j l (cases_eq j i);
  rest = λ j l. others j (λ e. omega arith) ∙ A.rest j (omega arith);
}
  where
    go : (j : ℕ) → j < i + 1 → (j ≡ i) ⊎ (j ≡ i → ⊥) → place new j ≡ (place old j + entry s j) % 2
    go j l (inl q) = rw q (here ∙ omega (arith, e, A.rest i (omega arith), place_below old i))
    go j l (inr n) = others j n ∙ A.done j (omega arith)

pub byte_zero : (ws old s : List ℕ) (i : ℕ) → AreBytesAdded ws old s i → entry s i < 2 → entry s i ≢ 1
    → AreBytesAdded ws old s (i + 1)
byte_zero ws old s i A b n = record {
  done = λ j l. go j l (cases_eq j i);
  rest = λ j l. A.rest j (omega arith);
}
  where
    go : (j : ℕ) → j < i + 1 → (j ≡ i) ⊎ (j ≡ i → ⊥) → place ws j ≡ (place old j + entry s j) % 2
    go j l (inl q) = rw q (omega (arith, b, n, A.rest i (omega arith), place_below old i))
    go j l (inr m) = A.done j (omega arith)

-- ---- words and a rest after them
pub place_front : (xs ys : List ℕ) (j : ℕ) → j / 64 < length xs → place (xs ++ ys) j ≡ place xs j
unfolding place
place_front xs ys j l = ap (λ w. bit_at w (j % 64)) (get_or_append_left xs ys 0 (j / 64) l)

pub place_taken : (ws : List ℕ) (n j : ℕ) → j / 64 < n → place (take n ws) j ≡ place ws j
unfolding place
place_taken ws n j l = ap (λ w. bit_at w (j % 64)) (get_or-take n ws (j / 64) 0 l)

-- the first places of words of which the first n are changed
pub added_in_front : (new old ys : List ℕ) (n len : ℕ) → length new ≡ n → n ≡ (len + 63) / 64
    → length ys ≡ len
    → ((j : ℕ) → j < len → place new j ≡ (place (take n old) j + entry ys j) % 2)
    → places (new ++ drop n old) 0 len ≡ add_multiple 2 1 (places old 0 len) ys
added_in_front new old ys n len e m f h = is_add_multiple 2 1 (places old 0 len) ys
    (places (new ++ drop n old) 0 len)
    (f ∙ sym (length-places old 0 len))
    (length-places (new ++ drop n old) 0 len ∙ sym (length-places old 0 len))
    (λ j l. let k : j < len = omega (arith, l, length-places old 0 len) in
    let q : j / 64 < n = omega (arith, k, m) in
    entry_bits (new ++ drop n old) len j k ∙ place_front new (drop n old) j (omega (arith, q, e)) ∙ h j k
    ∙ (rw (entry_bits old len j k, place_taken old n j q)
    (let z : (place old j + entry ys j) % 2 ≡ (place old j + 1 * entry ys j) % 2 = omega arith in z)))
