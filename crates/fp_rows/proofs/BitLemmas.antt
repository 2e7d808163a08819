-- Packed lists of numbers below 2 as lists.
use Rattle.std.proofs.Common.{◌≡◌, ◌≢◌, ℕ, ◌+◌, ◌-◌, ◌*◌, ◌/◌, ◌%◌, ◌^◌, ◌<◌, ◌≤◌, ◌⊎◌, inl, inr, List}
use Rattle.std.proofs.Common.{length, set, replicate, take, drop, arith, ap, sym, ◌∙◌, refl}
use Rattle.std.proofs.lemmas.Bool.{cases_eq, cases_lt}
use Rattle.std.proofs.lemmas.List.{get_or_past, get_or-set_same, get_or-set_other, length-set}
use Rattle.std.proofs.lemmas.List.{get_or-replicate, length-replicate, get_or-drop, get_or-take, length-drop}
use Rattle.std.proofs.lemmas.List.{length-take}
use Rattle.std.proofs.Math.Nat.{mod-eq_of_lt}
use Rattle.linear_algebra.specs.Rows.{entry, add_multiple, pivot}
use Rattle.linear_algebra.proofs.RowLemmas.{is_add_multiple}
use Rattle.linear_algebra.proofs.PivotLemmas.{pivot_is, pivot_none}
use Rattle.fp_rows.specs.Places.{place, places}
use Rattle.fp_rows.specs.Packed.{IsPacked}
use Rattle.fp_rows.proofs.PlaceLemmas.{place_below, place_of_zeros, length-places, entry-places, is_places}

pub entry_bits : (ws : List ℕ) (len j : ℕ) → j < len → entry (places ws 0 len) j ≡ place ws j
entry_bits ws len j l = entry-places ws 0 len j l ∙ ap (place ws) (let e : 0 + j ≡ j = omega arith in e)

pub is_bits : (ws zs : List ℕ) (len : ℕ) → length zs ≡ len → ((j : ℕ) → j < len → entry zs j ≡ place ws j)
    → places ws 0 len ≡ zs
is_bits ws zs len n h = sym (is_places ws zs 0 len n (λ j l. h j l
    ∙ ap (place ws) (let e : j ≡ 0 + j = omega arith in e)))

pub places_below : (ws : List ℕ) (from len j : ℕ) → j < length (places ws from len)
    → entry (places ws from len) j < 2
places_below ws from len j l = let n : j < len = omega (arith, l, length-places ws from len) in
    let b : place ws (from + j) < 2 = place_below ws (from + j) in rw (entry-places ws from len j n) b

pub zero_bits : (len : ℕ) → places (replicate ((len + 63) / 64) 0) 0 len ≡ replicate len 0
zero_bits len = is_bits (replicate ((len + 63) / 64) 0) (replicate len 0) len (length-replicate {A = ℕ} len 0)
    (λ j l. get_or-replicate len j 0 0 l ∙ sym (place_of_zeros ((len + 63) / 64) j))

pub zero_packed : (len : ℕ) → len < 2 ^ 64 → IsPacked (replicate ((len + 63) / 64) 0) len
zero_packed len b = record {
  small = b;
  count = length-replicate {A = ℕ} ((len + 63) / 64) 0;
  zero = λ j l. place_of_zeros ((len + 63) / 64) j;
}

pub cleared_bits : (n len : ℕ) → places (replicate n 0) 0 len ≡ replicate len 0
cleared_bits n len = is_bits (replicate n 0) (replicate len 0) len (length-replicate {A = ℕ} len 0)
    (λ j l. get_or-replicate len j 0 0 l ∙ sym (place_of_zeros n j))

pub copied_bits : (ws vs : List ℕ) (from len : ℕ) → ((j : ℕ) → j < len → place vs j ≡ place ws (from + j))
    → places vs 0 len ≡ places ws from len
copied_bits ws vs from len h = is_bits vs (places ws from len) len (length-places ws from len)
    (λ j l. entry-places ws from len j l ∙ sym (h j l))

pub set_bits : (ws vs : List ℕ) (len i v : ℕ) → i < len → place vs i ≡ v
    → ((j : ℕ) → j ≢ i → place vs j ≡ place ws j) → places vs 0 len ≡ set (places ws 0 len) i v
set_bits ws vs len i v l here others = is_bits vs (set (places ws 0 len) i v) len
    (length-set (places ws 0 len) i v ∙ length-places ws 0 len) (λ j m. go j m (cases_eq j i))
  where
    go : (j : ℕ) → j < len → (j ≡ i) ⊎ (j ≡ i → ⊥) → entry (set (places ws 0 len) i v) j ≡ place vs j
    go j m (inl e) = rw e (get_or-set_same (places ws 0 len) i v 0 (omega (arith, l, length-places ws 0 len))
        ∙ sym here)
    go j m (inr n) = get_or-set_other (places ws 0 len) i j v 0 n ∙ entry_bits ws len j m ∙ sym (others j n)

pub sum_bits : (vs ws src : List ℕ) (from len : ℕ)
    → ((j : ℕ) → j < len → place vs j ≡ (place ws j + place src (from + j)) % 2) →
    places vs 0 len ≡ add_multiple 2 1 (places ws 0 len) (places src from len)
sum_bits vs ws src from len h = is_add_multiple 2 1 (places ws 0 len) (places src from len) (places vs 0 len)
    (length-places src from len ∙ sym (length-places ws 0 len)) (length-places vs 0 len
    ∙ sym (length-places ws 0 len))
    (λ j l. let m : j < len = omega (arith, l, length-places ws 0 len) in
    entry_bits vs len j m ∙ h j m ∙ (rw (
      entry_bits ws len j m,
      entry-places src from len j m,
    ) (let e : (place ws j + place src (from + j)) % 2 ≡
    (place ws j + 1 * place src (from + j)) % 2 = omega arith in e)))

pub part_bits : (ws : List ℕ) (from len start count : ℕ) → start + count ≤ len
    → places ws (from + start) count ≡ take (start + count - start) (drop start (places ws from len))
part_bits ws from len start count l = sym
    (is_places ws (take (start + count - start) (drop start (places ws from len))) (from + start) count
    (let n : length (places ws from len) ≡ len = length-places ws from len in
    omega (
      arith,
      n,
      length-take (start + count - start) (drop start (places ws from len)),
      length-drop start (places ws from len),
    ))
    (λ j m. get_or-take (start + count - start) (drop start (places ws from len)) j 0 (omega arith)
    ∙ get_or-drop start (places ws from len) j 0 ∙ entry-places ws from len (start + j) (omega arith)
    ∙ ap (place ws) (let e : from + (start + j) ≡ from + start + j = omega arith in e)))

pub first_bit : (ws : List ℕ) (len t : ℕ) → t < len → ((j : ℕ) → j < t → place ws j ≡ 0) → place ws t ≡ 1
    → pivot (places ws 0 len) ≡ t
first_bit ws len t l before here = pivot_is (places ws 0 len) t (λ j m. entry_bits ws len j (omega arith)
    ∙ before j m) (λ z. let e : place ws t ≡ 0 = sym (entry_bits ws len t l) ∙ z in omega arith)

pub no_bit : (ws : List ℕ) (len : ℕ) → ((j : ℕ) → j < len → place ws j ≡ 0) → pivot (places ws 0 len) ≡ len
no_bit ws len h = pivot_none (places ws 0 len)
    (λ j l. let m : j < len = omega (arith, l, length-places ws 0 len) in entry_bits ws len j m ∙ h j m)
    ∙ length-places ws 0 len

pub nothing_added : (p : ℕ) (xs ys : List ℕ) → length ys ≡ length xs
    → ((j : ℕ) → j < length xs → entry xs j < p) → xs ≡ add_multiple p 0 xs ys
nothing_added p xs ys e h = is_add_multiple p 0 xs ys xs e refl
    (λ j l. sym (ap (λ x. x % p) (let z : entry xs j + 0 * entry ys j ≡ entry xs j = omega arith in z)
    ∙ mod-eq_of_lt (h j l)))

pub added_to_zeros : (p : ℕ) (xs : List ℕ) → ((j : ℕ) → j < length xs → entry xs j < p)
    → add_multiple p 1 (replicate (length xs) 0) xs ≡ xs
added_to_zeros p xs h = sym (is_add_multiple p 1 (replicate (length xs) 0) xs xs
    (sym (length-replicate {A = ℕ} (length xs) 0)) (sym (length-replicate {A = ℕ} (length xs) 0))
    (λ j l. let m : j < length xs = (let n : length
    (replicate {A = ℕ} (length xs) 0) ≡ length xs = length-replicate {A = ℕ} (length xs) 0 in
    omega (arith, l, n)) in
    sym (ap (λ z. (z + 1 * entry xs j) % p) (get_or-replicate (length xs) j 0 0 m)
    ∙ ap (λ x. x % p) (let z : 0 + 1 * entry xs j ≡ entry xs j = omega arith in z)
    ∙ mod-eq_of_lt (h j m))))

pub same_bit : (vs ws : List ℕ) (len j : ℕ) → place vs j ≡ place ws j
    → entry (places vs 0 len) j ≡ entry (places ws 0 len) j
same_bit vs ws len j h = go (cases_lt j len)
  where
    go : (j < len) ⊎ (len ≤ j) → entry (places vs 0 len) j ≡ entry (places ws 0 len) j
    go (inl l) = entry_bits vs len j l ∙ h ∙ sym (entry_bits ws len j l)
    go (inr l) = get_or_past (places vs 0 len) j 0 (omega (arith, l, length-places vs 0 len))
        ∙ sym (get_or_past (places ws 0 len) j 0 (omega (arith, l, length-places ws 0 len)))
