-- Places of words.
use Rattle.std.proofs.Common.{◌≡◌, ◌≢◌, ℕ, ◌+◌, ◌-◌, ◌*◌, ◌/◌, ◌%◌, ◌^◌, ◌<◌, ◌≤◌, ◌⊎◌, inl, inr, max, List}
use Rattle.std.proofs.Common.{length, set, get_or, replicate, bit_and, bit_or, bit_xor, arith, ap, sym, ◌∙◌}
use Rattle.std.proofs.Common.{refl, take}
use Rattle.std.proofs.lemmas.Bool.{cases_eq, cases_lt}
use Rattle.std.proofs.lemmas.List.{get_or_past, get_or-set_same, get_or-set_other, ext_get_or}
use Rattle.std.proofs.lemmas.List.{get_or-replicate, length-replicate, get_or-take, length-take}
use Rattle.std.proofs.lemmas.List.FromFn.{length-map-range_with_len, get_or-map-range_with_len}
use Rattle.std.proofs.lemmas.Nat.{shr-shr, shr_split, and_mask, pow_pos, one_shl, mod_below}
use Rattle.std.proofs.lemmas.Nat.Bits.{bit_at-zero, bit_at-lt, bit_at_above, bit_at_cat_low, bit_at_cat_high}
use Rattle.std.proofs.lemmas.Nat.Bits.{bit_at_or, bit_at_xor, bit_at-pow_same, bit_at-pow_other}
use Rattle.std.specs.Int.{bit_at}
use Rattle.linear_algebra.specs.Rows.{entry}
use Rattle.fp_rows.specs.Places.{place, places}

pub place_below : (ws : List ℕ) (i : ℕ) → place ws i < 2
unfolding place
place_below ws i = bit_at-lt (get_or ws (i / 64) 0) (i % 64)

-- place i of the words, from the word in which it lies
pub place_in : (ws : List ℕ) (i k b : ℕ) → i ≡ k * 64 + b → b < 64 → place ws i ≡ bit_at (get_or ws k 0) b
unfolding place
place_in ws i k b e l = let q : i / 64 ≡ k = omega arith in let r : i % 64 ≡ b = omega arith in
    rw (q, r) refl

pub place_past : (ws : List ℕ) (i : ℕ) → length ws ≤ i / 64 → place ws i ≡ 0
unfolding place
place_past ws i l = rw (get_or_past ws (i / 64) 0 l) (bit_at-zero (i % 64))

pub place_set_same : (ws : List ℕ) (k w i : ℕ) → k < length ws → i / 64 ≡ k
    → place (set ws k w) i ≡ bit_at w (i % 64)
unfolding place
place_set_same ws k w i l e = rw (e, get_or-set_same ws k w 0 l) refl

pub place_set_other : (ws : List ℕ) (k w i : ℕ) → i / 64 ≢ k → place (set ws k w) i ≡ place ws i
unfolding place
place_set_other ws k w i n = rw (get_or-set_other ws k (i / 64) w 0 n) refl

pub length-places : (ws : List ℕ) (from len : ℕ) → length (places ws from len) ≡ len
unfolding places
length-places ws from len = length-map-range_with_len (place ws) from len

pub entry-places : (ws : List ℕ) (from len j : ℕ) → j < len
    → entry (places ws from len) j ≡ place ws (from + j)
unfolding places
entry-places ws from len j l = get_or-map-range_with_len (place ws) from len j (from + j) 0 l refl

pub is_places : (ws zs : List ℕ) (from len : ℕ) → length zs ≡ len
    → ((j : ℕ) → j < len → entry zs j ≡ place ws (from + j)) → zs ≡ places ws from len
is_places ws zs from len n h = ext_get_or 0 zs (places ws from len) (n ∙ sym (length-places ws from len))
    (λ j l. h j (omega arith) ∙ sym (entry-places ws from len j (omega arith)))

-- ---- bits of shifted words
pub bit_at-shr : (n k i : ℕ) → bit_at (n / 2 ^ k) i ≡ bit_at n (k + i)
bit_at-shr n k i = ap (λ x. x % 2) (shr-shr n k i)

pub bit_at-mod : (n w i : ℕ) → i < w → bit_at (n % 2 ^ w) i ≡ bit_at n i
bit_at-mod n w i l = sym (bit_at_cat_low (n / 2 ^ w) w (n % 2 ^ w) i l) ∙ ap (λ x. bit_at x i) (shr_split n w)

pub bit_at-shl_low : (n k i : ℕ) → i < k → bit_at (n * 2 ^ k) i ≡ 0
bit_at-shl_low n k i l = ap (λ x. bit_at x i) (let e : n * 2 ^ k ≡ n * 2 ^ k + 0 = omega arith in e)
    ∙ bit_at_cat_low n k 0 i l ∙ bit_at-zero i

pub bit_at-shl_high : (n k i : ℕ) → k ≤ i → bit_at (n * 2 ^ k) i ≡ bit_at n (i - k)
bit_at-shl_high n k i l = ap (λ x. bit_at x i) (let e : n * 2 ^ k ≡ n * 2 ^ k + 0 = omega arith in e)
    ∙ bit_at_cat_high n k 0 i (pow_pos k) l

-- the word that `a >> s | b << (64 - s)` computes
pub bit_at_joined_low : (a b s i : ℕ) → s < 64 → s + i < 64
    → bit_at (bit_or (a / 2 ^ s) (b * 2 ^ (64 - s) % 2 ^ 64)) i ≡ bit_at a (s + i)
bit_at_joined_low a b s i l m =
    let x : bit_at (b * 2 ^ (64 - s) % 2 ^ 64) i ≡ 0 = bit_at-mod (b * 2 ^ (64 - s)) 64 i (omega arith)
    ∙ bit_at-shl_low b (64 - s) i (omega arith) in
    bit_at_or (a / 2 ^ s) (b * 2 ^ (64 - s) % 2 ^ 64) i ∙ ap (max (bit_at (a / 2 ^ s) i)) x
    ∙ (let e : max (bit_at (a / 2 ^ s) i) 0 ≡ bit_at (a / 2 ^ s) i = omega arith in e) ∙ bit_at-shr a s i

pub bit_at_joined_high : (a b s i : ℕ) → 0 < s → s < 64 → a < 2 ^ 64 → 64 ≤ s + i → i < 64
    → bit_at (bit_or (a / 2 ^ s) (b * 2 ^ (64 - s) % 2 ^ 64)) i ≡ bit_at b (s + i - 64)
bit_at_joined_high a b s i z l f m n =
    let x : bit_at (a / 2 ^ s) i ≡ 0 = bit_at-shr a s i ∙ bit_at_above a 64 (s + i) f m in
    let d : i - (64 - s) ≡ s + i - 64 = omega arith in
    let y : bit_at (b * 2 ^ (64 - s) % 2 ^ 64) i ≡ bit_at b (s + i - 64) =
    bit_at-mod (b * 2 ^ (64 - s)) 64 i n ∙ bit_at-shl_high b (64 - s) i (omega arith) ∙ ap (bit_at b) d in
    bit_at_or (a / 2 ^ s) (b * 2 ^ (64 - s) % 2 ^ 64) i
    ∙ ap (λ x. max x (bit_at (b * 2 ^ (64 - s) % 2 ^ 64) i)) x
    ∙ (let e : max 0 (bit_at (b * 2 ^ (64 - s) % 2 ^ 64) i) ≡ bit_at
    (b * 2 ^ (64 - s) % 2 ^ 64) i = omega arith in e) ∙ y

-- the low bits of a word
pub bit_at_low : (n k i : ℕ) → k < 64 → i < k → bit_at (bit_and n (1 * 2 ^ k % 2 ^ 64 - 1)) i ≡ bit_at n i
bit_at_low n k i l m = ap (λ x. bit_at (bit_and n (x - 1)) i) (one_shl k 64 l)
    ∙ ap (λ x. bit_at x i) (and_mask n k) ∙ bit_at-mod n k i m

pub bit_at_low_zero : (n k i : ℕ) → k < 64 → k ≤ i → bit_at (bit_and n (1 * 2 ^ k % 2 ^ 64 - 1)) i ≡ 0
bit_at_low_zero n k i l m = ap (λ x. bit_at (bit_and n (x - 1)) i) (one_shl k 64 l)
    ∙ ap (λ x. bit_at x i) (and_mask n k) ∙ bit_at_above (n % 2 ^ k) k i (mod_below n (2 ^ k) (pow_pos k)) m

-- ---- one place changed
pub place_flipped : (ws : List ℕ) (i : ℕ) → i / 64 < length ws
    → place (set ws (i / 64) (bit_xor (get_or ws (i / 64) 0) (1 * 2 ^ (i % 64) % 2 ^ 64))) i ≡ 1 - place ws i
place_flipped ws i l =
    let b : i % 64 < 64 = omega arith in
    let w : ℕ = get_or ws (i / 64) 0 in
    let one : bit_at (1 * 2 ^ (i % 64) % 2 ^ 64) (i % 64) ≡ 1 =
    ap (λ x. bit_at x (i % 64)) (one_shl (i % 64) 64 b) ∙ bit_at-pow_same (i % 64) in
    let here : place ws i ≡ bit_at w (i % 64) = place_in ws i (i / 64) (i % 64) (omega arith) b in
    place_set_same ws (i / 64) (bit_xor w (1 * 2 ^ (i % 64) % 2 ^ 64)) i l refl
    ∙ bit_at_xor w (1 * 2 ^ (i % 64) % 2 ^ 64) (i % 64) ∙ omega (arith, one, here, bit_at-lt w (i % 64))

pub place_not_flipped : (ws : List ℕ) (i j : ℕ) → i / 64 < length ws → j ≢ i
    → place (set ws (i / 64) (bit_xor (get_or ws (i / 64) 0) (1 * 2 ^ (i % 64) % 2 ^ 64))) j ≡ place ws j
place_not_flipped ws i j l n = go (cases_eq (j / 64) (i / 64))
  where
    go : (j / 64 ≡ i / 64) ⊎ (j / 64 ≡ i / 64 → ⊥)
        → place (set ws (i / 64) (bit_xor (get_or ws (i / 64) 0) (1 * 2 ^ (i % 64) % 2 ^ 64))) j ≡ place ws j
    go (inl e) =
        let b : i % 64 < 64 = omega arith in
        let w : ℕ = get_or ws (i / 64) 0 in
        let apart : j % 64 ≢ i % 64 = λ r. n (omega arith) in
        let zero : bit_at (1 * 2 ^ (i % 64) % 2 ^ 64) (j % 64) ≡ 0 =
        ap (λ x. bit_at x (j % 64)) (one_shl (i % 64) 64 b) ∙ bit_at-pow_other (i % 64) (j % 64) apart in
        let here : place ws j ≡ bit_at w (j % 64) =
        place_in ws j (i / 64) (j % 64) (omega arith) (omega arith) in
        place_set_same ws (i / 64) (bit_xor w (1 * 2 ^ (i % 64) % 2 ^ 64)) j l e
        ∙ bit_at_xor w (1 * 2 ^ (i % 64) % 2 ^ 64) (j % 64)
        ∙ omega (arith, zero, here, bit_at-lt w (j % 64))
    go (inr m) = place_set_other ws (i / 64) (bit_xor (get_or ws (i / 64) 0) (1 * 2 ^ (i % 64) % 2 ^ 64)) j m

-- ---- sums
-- place by place the sum modulo 2, where each word is the exclusive or of two
pub place_of_sum : (zs xs ys : List ℕ) → ((k : ℕ) → get_or zs k 0 ≡ bit_xor (get_or xs k 0) (get_or ys k 0))
    → (j : ℕ) → place zs j ≡ (place xs j + place ys j) % 2
unfolding place
place_of_sum zs xs ys h j = ap (λ w. bit_at w (j % 64)) (h (j / 64))
    ∙ bit_at_xor (get_or xs (j / 64) 0) (get_or ys (j / 64) 0) (j % 64)

-- the first k words of the first len places are the sums, and the other places are as before
pub record AreAddedUpTo (dst old : List ℕ) (src : ℕ → ℕ) (len k : ℕ) : Type 0 where
  pub done : (j : ℕ) → j < k * 64 → j < len → place dst j ≡ (place old j + src j) % 2
  pub rest : (j : ℕ) → k * 64 ≤ j → place dst j ≡ place old j
  pub past : (j : ℕ) → len ≤ j → place dst j ≡ place old j

pub added_start : (old : List ℕ) (src : ℕ → ℕ) (len : ℕ) → AreAddedUpTo old old src len 0
added_start old src len = record {
  done = λ j l m. absurd (omega arith);
  rest = λ j l. refl;
  past = λ j l. refl;
}

pub added_more : (dst old : List ℕ) (src : ℕ → ℕ) (len k w : ℕ) → k < length dst
    → AreAddedUpTo dst old src len k →
    ((b : ℕ) → b < 64 → k * 64 + b < len → bit_at w b ≡ src (k * 64 + b))
    → ((b : ℕ) → b < 64 → len ≤ k * 64 + b → bit_at w b ≡ 0) →
    AreAddedUpTo (set dst k (bit_xor (get_or dst k 0) w)) old src len (k + 1)
added_more dst old src len k w l h kept zero = record {
  done = λ j a b. more j a b (cases_eq (j / 64) k);
  rest = λ j a. place_set_other dst k (bit_xor (get_or dst k 0) w) j (λ e. omega arith)
      ∙ h.rest j (omega arith);
  past = λ j a. after j a (cases_eq (j / 64) k);
}
  where
    here : (j : ℕ) → j / 64 ≡ k → place (set dst k (bit_xor (get_or dst k 0) w)) j ≡
        (place dst j + bit_at w (j % 64)) % 2
    here j e = place_set_same dst k (bit_xor (get_or dst k 0) w) j l e
        ∙ bit_at_xor (get_or dst k 0) w (j % 64)
        ∙ ap (λ x. (x + bit_at w (j % 64)) % 2) (sym (place_in dst j k (j % 64) (omega arith) (omega arith)))

    more : (j : ℕ) → j < (k + 1) * 64 → j < len → (j / 64 ≡ k) ⊎ (j / 64 ≡ k → ⊥)
        → place (set dst k (bit_xor (get_or dst k 0) w)) j ≡ (place old j + src j) % 2
    more j a b (inl e) = let s : k * 64 + j % 64 ≡ j = omega arith in
        here j e ∙ ap (λ x. (x + bit_at w (j % 64)) % 2) (h.rest j (omega arith))
        ∙ ap (λ x. (place old j + x) % 2) (kept (j % 64) (omega arith) (omega arith) ∙ ap src s)
    more j a b (inr n) = place_set_other dst k (bit_xor (get_or dst k 0) w) j n ∙ h.done j (omega arith) b

    after : (j : ℕ) → len ≤ j → (j / 64 ≡ k) ⊎ (j / 64 ≡ k → ⊥)
        → place (set dst k (bit_xor (get_or dst k 0) w)) j ≡ place old j
    after j a (inl e) = here j e ∙ omega (
      arith,
      zero (j % 64) (omega arith) (omega arith),
      h.past j a,
      place_below dst j,
    )
    after j a (inr n) = place_set_other dst k (bit_xor (get_or dst k 0) w) j n ∙ h.past j a

pub place_of_zeros : (n j : ℕ) → place (replicate n 0) j ≡ 0
unfolding place
place_of_zeros n j = go (cases_lt (j / 64) n)
  where
    go : (j / 64 < n) ⊎ (n ≤ j / 64) → bit_at (get_or (replicate n 0) (j / 64) 0) (j % 64) ≡ 0
    go (inl l) = ap (λ x. bit_at x (j % 64)) (get_or-replicate n (j / 64) 0 0 l) ∙ bit_at-zero (j % 64)
    go (inr l) = ap (λ x. bit_at x (j % 64))
        (get_or_past (replicate n 0) (j / 64) 0
        (let e : length (replicate n 0) ≡ n = length-replicate {A = ℕ} n 0 in omega (arith, e)))
        ∙ bit_at-zero (j % 64)

-- ---- the first place
pub zero_before : (ws : List ℕ) (k t : ℕ) → ((i : ℕ) → i < k → get_or ws i 0 ≡ 0)
    → ((b : ℕ) → b < t → bit_at (get_or ws k 0) b ≡ 0) → t ≤ 64 → (j : ℕ) → j < 64 * k + t → place ws j ≡ 0
zero_before ws k t h z m j l = go (cases_lt (j / 64) k)
  where
    go : (j / 64 < k) ⊎ (k ≤ j / 64) → place ws j ≡ 0
    go (inl a) = place_in ws j (j / 64) (j % 64) (omega arith) (omega arith)
        ∙ ap (λ x. bit_at x (j % 64)) (h (j / 64) a) ∙ bit_at-zero (j % 64)
    go (inr a) = place_in ws j k (j % 64) (omega arith) (omega arith) ∙ z (j % 64) (omega arith)

-- ---- a word added inside words
pub bit_at-shifted_in : (x s i : ℕ) → i < 64 → s ≤ i → bit_at (x * 2 ^ s % 2 ^ 64) i ≡ bit_at x (i - s)
bit_at-shifted_in x s i l m = bit_at-mod (x * 2 ^ s) 64 i l ∙ bit_at-shl_high x s i m

pub bit_at-shifted_below : (x s i : ℕ) → i < 64 → i < s → bit_at (x * 2 ^ s % 2 ^ 64) i ≡ 0
bit_at-shifted_below x s i l m = bit_at-mod (x * 2 ^ s) 64 i l ∙ bit_at-shl_low x s i m

-- past its bits a word adds nothing
pub nothing_past : (ws : List ℕ) (x len j d : ℕ) → x < 2 ^ len → len ≤ d
    → place ws j ≡ (place ws j + bit_at x d) % 2
nothing_past ws x len j d l m = omega (arith, bit_at_above x len d l m, place_below ws j)

pub low_small : (n k : ℕ) → k < 64 → bit_and n (1 * 2 ^ k % 2 ^ 64 - 1) < 2 ^ k
low_small n k l = let e : bit_and n (1 * 2 ^ k % 2 ^ 64 - 1) ≡ n % 2 ^ k =
    ap (λ x. bit_and n (x - 1)) (one_shl k 64 l) ∙ and_mask n k in
    let b : n % 2 ^ k < 2 ^ k = mod_below n (2 ^ k) (pow_pos k) in rw e b

pub whole_small : (n k : ℕ) → n < 2 ^ 64 → 64 ≤ k → k ≤ 64 → n < 2 ^ k
whole_small n k l a b = let e : k ≡ 64 = omega arith in rw e l

-- ---- the first words
pub place_in_front : (ws : List ℕ) (n j : ℕ) → j / 64 < n → place (take n ws) j ≡ place ws j
unfolding place
place_in_front ws n j l = ap (λ x. bit_at x (j % 64)) (get_or-take n ws (j / 64) 0 l)

pub place_after_front : (ws : List ℕ) (n j : ℕ) → n ≤ j / 64 → place (take n ws) j ≡ 0
place_after_front ws n j l = place_past (take n ws) j
    (omega (arith, l, length-take n ws))

-- a number added that is 0
pub nothing_added_at : (ws : List ℕ) (j x : ℕ) → x ≡ 0 → place ws j ≡ (place ws j + x) % 2
nothing_added_at ws j x e = omega (arith, e, place_below ws j)
