-- Parts of rows that gain multiples of rows.
use Rattle.std.proofs.Common.{◌≡◌, ℕ, ◌+◌, ◌-◌, ◌*◌, ◌%◌, ◌^◌, ◌<◌, ◌≤◌, ◌⊎◌, ◌++◌, inl, inr, List, length}
use Rattle.std.proofs.Common.{take, drop, w64, arith, ap, sym, ◌∙◌, refl}
use Rattle.std.proofs.lemmas.Bool.{cases_eq, cases_lt}
use Rattle.std.proofs.lemmas.Nat.Bits.{bit_at-zero, bit_at-trailing_zeros}
use Rattle.std.proofs.lemmas.List.{get_or-append-add, get_or_append_left, get_or-take, get_or-drop}
use Rattle.std.proofs.lemmas.List.{length-append, length-take, length-drop}
use Rattle.std.proofs.lemmas.Slice.{drop-put_mid}
use Rattle.std.proofs.Math.Nat.{mod-eq_of_lt, mod-lt}
use borrow.Rule.Slice.PartMut.{put_mid}
use Rattle.std.specs.Int.{bit_at, trailing_zeros}
use Rattle.linear_algebra.specs.Rows.{entry, add_multiple, IsRow}
use Rattle.linear_algebra.proofs.RowLemmas.{entry-add_multiple, length-add_multiple}
use Rattle.fp_rows.specs.Parts.{GainsPart, IsNextPlace}

-- the first `done` numbers of the part are added
pub record AreAddedAt (start done : ℕ) (part old new : List ℕ) : Type 0 where
  pub within : done ≤ length part
  pub same_length : length new ≡ length old
  pub inside : (j : ℕ) → j < done → entry new (start + j) ≡ (entry old (start + j) + 1 * entry part j) % 2
  pub before : (j : ℕ) → j < start → entry new j ≡ entry old j
  pub after : (j : ℕ) → start + done ≤ j → entry new j ≡ entry old j

pub none_added : (start : ℕ) (part old : List ℕ) → AreAddedAt start 0 part old old
none_added start part old = record {
  within = omega arith;
  same_length = refl;
  inside = λ j l. absurd (omega arith);
  before = λ j l. refl;
  after = λ j l. refl;
}

pub more_added : (start done count x : ℕ) (part old mid new : List ℕ) → AreAddedAt start done part old mid
    → done + count ≤ length part → ((b : ℕ) → b < count → bit_at x b ≡ entry part (done + b))
    → length new ≡ length mid
    → ((j : ℕ) → start + done ≤ j → j < start + done + count
    → entry new j ≡ (entry mid j + bit_at x (j - (start + done))) % 2)
    → ((j : ℕ) → j < start + done → entry new j ≡ entry mid j)
    → ((j : ℕ) → start + done + count ≤ j → entry new j ≡ entry mid j)
    → AreAddedAt start (done + count) part old new
more_added start done count x part old mid new A w bits len inside before after = record {
  within = w;
  same_length = len ∙ A.same_length;
  inside = λ j l. go j l (cases_lt j done);
  before = λ j l. before j (omega arith) ∙ A.before j l;
  after = λ j l. after j (omega arith) ∙ A.after j (omega arith);
}
  where
    go : (j : ℕ) → j < done + count → (j < done) ⊎ (done ≤ j)
        → entry new (start + j) ≡ (entry old (start + j) + 1 * entry part j) % 2
    go j l (inl m) = before (start + j) (omega arith) ∙ A.inside j m
    go j l (inr m) =
        let e : start + j - (start + done) ≡ j - done = omega arith in
        let f : done + (j - done) ≡ j = omega arith in
        let b : bit_at x (start + j - (start + done)) ≡ entry part j = ap (bit_at x) e
        ∙ bits (j - done) (omega arith)
        ∙ ap (entry part) f in
        inside (start + j) (omega arith) (omega arith)
        ∙ ap (λ z. (entry mid (start + j) + z) % 2) b
        ∙ ap (λ z. (z + entry part j) % 2) (A.after (start + j) (omega arith))
        ∙ (let z : (entry old (start + j) + entry part j) % 2 ≡ (entry old
        (start + j) + 1 * entry part j) % 2 =
        omega arith in z)

-- a word of zeros need not be added
pub none_added_more : (start done count x : ℕ) (part old new : List ℕ) → AreAddedAt start done part old new
    → done + count ≤ length part → ((b : ℕ) → b < count → bit_at x b ≡ entry part (done + b)) → x ≡ 0
    → ((j : ℕ) → j < length old → entry old j < 2) → start + length part ≤ length old
    → AreAddedAt start (done + count) part old new
none_added_more start done count x part old new A w bits e below fits = record {
  within = w;
  same_length = A.same_length;
  inside = λ j l. go j l (cases_lt j done);
  before = A.before;
  after = λ j l. A.after j (omega (arith, l));
}
  where
    go : (j : ℕ) → j < done + count → (j < done) ⊎ (done ≤ j)
        → entry new (start + j) ≡ (entry old (start + j) + 1 * entry part j) % 2
    go j l (inl m) = A.inside j m
    go j l (inr m) =
        let f : done + (j - done) ≡ j = omega (arith, m) in
        let z : entry part j ≡ 0 = ap (entry part) (sym f) ∙ sym (bits (j - done) (omega (arith, l, m)))
        ∙ ap (λ y. bit_at y (j - done)) e ∙ bit_at-zero (j - done) in
        A.after (start + j) (omega (arith, m))
        ∙ sym (ap (λ y. (entry old (start + j) + 1 * y) % 2) z
        ∙ ap (λ y. y % 2) (let y : entry old (start + j) + 1 * 0 ≡ entry old (start + j) = omega arith in y)
        ∙ mod-eq_of_lt (below (start + j) (omega (arith, l, w, fits))))

pub all_added : (start done : ℕ) (part old new : List ℕ) → AreAddedAt start done part old new
    → length part ≤ done
    → GainsPart 2 start 1 part old new
all_added start done part old new A l = record {
  same_length = A.same_length;
  inside = λ j m. A.inside j (omega arith);
  before = A.before;
  after = λ j m. A.after j (let w = A.within in omega (arith, w, l, m));
}

-- nothing is added
pub no_part : (p start : ℕ) (part old : List ℕ) → ((j : ℕ) → j < length old → entry old j < p)
    → start + length part ≤ length old → GainsPart p start 0 part old old
no_part p start part old h w = record {
  same_length = refl;
  inside = λ j l. sym (ap (λ x. x % p) (let z : entry old (start + j) + 0 * entry part j ≡ entry old
      (start + j) =
      omega arith in z) ∙ mod-eq_of_lt (h (start + j) (omega arith)));
  before = λ j l. refl;
  after = λ j l. refl;
}

-- the sums are below p
pub part_is_row : {p w : ℕ} (start c : ℕ) (part old new : List ℕ) → 0 < p → IsRow p w old
    → GainsPart p start c part old new → IsRow p w new
part_is_row {p} {w} start c part old new o r G = record {
  length_is = G.same_length ∙ r.length_is;
  below = λ j l. go j l (cases_lt j start) (cases_lt j (start + length part));
}
  where
    go : (j : ℕ) → j < w → (j < start) ⊎ (start ≤ j)
        → (j < start + length part) ⊎ (start + length part ≤ j) → entry new j < p
    go j l (inl a) _ = rw (G.before j a) (r.below j l)
    go j l (inr a) (inr b) = rw (G.after j b) (r.below j l)
    go j l (inr a) (inl b) =
        let e : start + (j - start) ≡ j = omega arith in
        let s : entry new j ≡ (entry old (start + (j - start)) + c * entry part (j - start)) % p =
        sym (ap (entry new) e) ∙ G.inside (j - start) (omega arith) in
        rw s (mod-lt (entry old (start + (j - start)) + c * entry part (j - start)) o)

-- a part that is written anew
module _ (p start c : ℕ) (part old new : List ℕ) (w : start + length part ≤ length old)
    (e : length new ≡ length part)
    (h : (j : ℕ) → j < length part → entry new j ≡ (entry old (start + j) + c * entry part j) % p) where
  abbrev k : ℕ
  k = start + length part - start

  abbrev whole : List ℕ
  whole = put_mid start k old new

  count : k ≡ length part
  count = omega arith

  front : length (take start old) ≡ start
  front = omega (arith, length-take start old, w)

  pub part_written : GainsPart p start c part old (put_mid start k old new)
  part_written = record {
    same_length = omega (
      arith,
      length-append {A = ℕ} (take start old) (new ++ drop k (drop start old)),
      length-append {A = ℕ} new (drop k (drop start old)),
      front,
      length-drop k (drop start old),
      length-drop start old,
      e,
      w,
      count,
    );
    inside = λ j l. ap (λ i. entry whole (i + j)) (sym front)
        ∙ get_or-append-add (take start old) (new ++ drop k (drop start old)) j 0
        ∙ get_or_append_left new (drop k (drop start old)) 0 j (omega (arith, l, e)) ∙ h j l;
    before = λ j l. get_or_append_left (take start old) (new ++ drop k (drop start old)) 0 j
        (omega (arith, l, front))
        ∙ get_or-take start old j 0 l;
    after = λ j l. let f : start + length part + (j - (start + length part)) ≡ j = omega (arith, l) in
        ap (entry whole) (sym f) ∙ sym (get_or-drop (start + length part) whole (j - (start + length part)) 0)
        ∙ ap (λ xs. entry xs (j - (start + length part)))
        (drop-put_mid start k old new (start + length part) (omega (arith, count)) (omega (arith, w))
        (omega (arith, e, count)))
        ∙ get_or-drop (start + length part) old (j - (start + length part)) 0 ∙ ap (entry old) f;
  }

-- a part that is summed in place
pub part_summed : (p start c : ℕ) (part old new : List ℕ) → start + length part ≤ length old
    → new ≡ add_multiple p c (take (start + length part - start) (drop start old)) part
    → GainsPart p start c part old (put_mid start (start + length part - start) old new)
part_summed p start c part old new w s =
    let n : length (take (start + length part - start) (drop start old)) ≡ length part =
    omega (arith, length-take (start + length part - start) (drop start old), length-drop start old, w) in
    part_written p start c part old new w
    (ap length s ∙ length-add_multiple p c (take (start + length part - start) (drop start old)) part ∙ n)
    (λ j l. ap (λ xs. entry xs j) s
    ∙ entry-add_multiple p c (take (start + length part - start) (drop start old)) part j (sym n)
    (omega (arith, l, n))
    ∙ ap (λ x. (x + c * entry part j) % p)
    (get_or-take (start + length part - start) (drop start old) j 0 (omega (arith, l))
    ∙ get_or-drop start old j 0))

-- ---- rows of zeros
-- a word whose bits are 0
pub no_bits : (x count : ℕ) → x < 2 ^ 64 → ((b : ℕ) → b < count → bit_at x b ≡ 0)
    → ((b : ℕ) → b < 64 → count ≤ b → bit_at x b ≡ 0) → x ≡ 0
no_bits x count f low high = go (cases_eq x 0)
  where
    go : (x ≡ 0) ⊎ (x ≡ 0 → ⊥) → x ≡ 0
    go (inl e) = e
    go (inr n) = let h = bit_at-trailing_zeros w64 x (omega arith) f in at
        (cases_lt (trailing_zeros w64 x) count) h.0 h.1
      where
        at : (trailing_zeros w64 x < count) ⊎ (count ≤ trailing_zeros w64 x) → trailing_zeros w64 x < 64
            → bit_at x (trailing_zeros w64 x) ≡ 1 → x ≡ 0
        at (inl l) m e = absurd (let z : bit_at x (trailing_zeros w64 x) ≡ 0 = low _ l in omega arith)
        at (inr l) m e = absurd (let z : bit_at x (trailing_zeros w64 x) ≡ 0 = high _ m l in omega arith)

pub zero_so_far : (xs : List ℕ) (done count x : ℕ) → ((b : ℕ) → b < count
    → bit_at x b ≡ entry xs (done + b)) → x ≡ 0
    → ((j : ℕ) → j < done → entry xs j ≡ 0) → (j : ℕ) → j < done + count → entry xs j ≡ 0
zero_so_far xs done count x bits e before j l = go (cases_lt j done)
  where
    go : (j < done) ⊎ (done ≤ j) → entry xs j ≡ 0
    go (inl m) = before j m
    go (inr m) = let f : done + (j - done) ≡ j = omega arith in
        ap (entry xs) (sym f) ∙ sym (bits (j - done) (omega arith)) ∙ ap (λ y. bit_at y (j - done)) e
        ∙ bit_at-zero (j - done)

-- the first place of a word that is not 0
pub place_in_word : (x count : ℕ) → x < 2 ^ 64 → (x ≡ 0 → ⊥)
    → ((b : ℕ) → b < 64 → count ≤ b → bit_at x b ≡ 0) → trailing_zeros w64 x < count
place_in_word x count f n rest = let h = bit_at-trailing_zeros w64 x (omega arith) f in
    go h.0 h.1 (cases_lt (trailing_zeros w64 x) count)
  where
    go : trailing_zeros w64 x < 64 → bit_at x (trailing_zeros w64 x) ≡ 1
        → (trailing_zeros w64 x < count) ⊎ (count ≤ trailing_zeros w64 x) → trailing_zeros w64 x < count
    go a b (inl l) = l
    go a b (inr l) = absurd (let z : bit_at x (trailing_zeros w64 x) ≡ 0 = rest _ a l in omega arith)

pub next_in_word : (xs : List ℕ) (from done count x : ℕ) → from ≤ done → done + count ≤ length xs → x < 2 ^ 64
    → (x ≡ 0 → ⊥) → ((b : ℕ) → b < count → bit_at x b ≡ entry xs (done + b))
    → ((b : ℕ) → b < 64 → count ≤ b → bit_at x b ≡ 0)
    → ((j : ℕ) → from ≤ j → j < done → entry xs j ≡ 0) → IsNextPlace xs from (done + trailing_zeros w64 x)
next_in_word xs from done count x a w f n bits rest zero =
    let h = bit_at-trailing_zeros w64 x (omega arith) f in
    let t : trailing_zeros w64 x < count = place_in_word x count f n rest in
    record {
      after = omega arith;
      within = omega arith;
      before = λ j l m. go h.2 j l m (cases_lt j done);
      here = λ l z. let e : bit_at x (trailing_zeros w64 x) ≡ 1 = h.1 in
          let b : bit_at x (trailing_zeros w64 x) ≡ entry xs (done + trailing_zeros w64 x) = bits _ t in
          omega (arith, e, b, z);
    }
  where
    go : ((i : ℕ) → i < trailing_zeros w64 x → bit_at x i ≡ 0) → (j : ℕ) → from ≤ j
        → j < done + trailing_zeros w64 x → (j < done) ⊎ (done ≤ j) → entry xs j ≡ 0
    go h j l m (inl b) = zero j l b
    go h j l m (inr b) = let t : trailing_zeros w64 x < count = place_in_word x count f n rest in
        let e : done + (j - done) ≡ j = omega (arith, b) in
        ap (entry xs) (sym e) ∙ sym (bits (j - done) (omega (arith, b, m, t)))
        ∙ h (j - done) (omega (arith, b, m))

pub no_place_so_far : (xs : List ℕ) (from done count x : ℕ) → ((b : ℕ) → b < count
    → bit_at x b ≡ entry xs (done + b)) → x ≡ 0 → ((j : ℕ) → from ≤ j → j < done → entry xs j ≡ 0)
    → (j : ℕ) → from ≤ j → j < done + count → entry xs j ≡ 0
no_place_so_far xs from done count x bits e before j a l = go (cases_lt j done)
  where
    go : (j < done) ⊎ (done ≤ j) → entry xs j ≡ 0
    go (inl m) = before j a m
    go (inr m) = let f : done + (j - done) ≡ j = omega arith in
        ap (entry xs) (sym f) ∙ sym (bits (j - done) (omega arith)) ∙ ap (λ y. bit_at y (j - done)) e
        ∙ bit_at-zero (j - done)
