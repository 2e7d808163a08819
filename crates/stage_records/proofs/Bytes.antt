-- Numbers and rows as bytes, and back.
use Rattle.std.proofs.Common.{append_assoc, ◌&&◌, ◌≡◌, ℕ, zero, suc, ◌+◌, ◌-◌, ◌*◌, ◌<◌, ◌≤◌, ◌^◌, true, List}
use Rattle.std.proofs.Common.{[], ◌∷◌, ◌++◌, length, map, take, drop, get_or, refl, sym, ap, ap₂, ◌∙◌, arith}
use Rattle.std.specs.Int.{w16, from_be_bytes, to_be_bytes}
use Rattle.std.specs.List.{concat, flat_map, list_all}
use Rattle.std.proofs.Math.Dec.{ltb, leb}
use Rattle.std.proofs.Math.Seq.{take-add}
use Rattle.std.proofs.lemmas.Bool.{and_parts, and_from, ltb-true, leb-true, lt-ltb, le-leb}
use Rattle.std.proofs.lemmas.Nat.{be_bytes_2, from_be_bytes-to_be_bytes_2}
use Rattle.std.proofs.lemmas.List.{take_at, drop_at, length-append, length-take-le, length-drop, get_or-take}
use Rattle.std.proofs.lemmas.List.{get_or-drop}
use Rattle.linear_algebra.specs.Rows.{row, IsMatrix}
use Rattle.stage_records.specs.Records.{position_bytes}
use Rattle.stage_records.specs.Readings.{numbers_in, rows_in, are_places, is_below, AreBytes}

-- parts of bytes are bytes
pub bytes-take : (n : ℕ) (bytes : List ℕ) → AreBytes bytes → AreBytes (take n bytes)
bytes-take zero bytes h i = omega arith
bytes-take (suc n) [] h i = h i
bytes-take (suc n) (x ∷ bytes) h zero = h 0
bytes-take (suc n) (x ∷ bytes) h (suc i) = bytes-take n bytes (λ j. h (suc j)) i

pub bytes-drop : (n : ℕ) (bytes : List ℕ) → AreBytes bytes → AreBytes (drop n bytes)
bytes-drop n bytes h i = rw (get_or-drop n bytes i 0) (h (n + i))

-- how many there are
pub length-numbers_in : (c : ℕ) (bytes : List ℕ) → length (numbers_in c bytes) ≡ c
unfolding numbers_in
length-numbers_in zero bytes = refl
length-numbers_in (suc c) bytes = ap suc (length-numbers_in c (drop 2 bytes))

pub length-rows_in : (w c : ℕ) (bytes : List ℕ) → length (rows_in w c bytes) ≡ c
unfolding rows_in
length-rows_in w zero bytes = refl
length-rows_in w (suc c) bytes = ap suc (length-rows_in w c (drop w bytes))

-- numbers to bytes and back
pub numbers-again : (places : List ℕ) (rest : List ℕ)
    → ((i : ℕ) → i < length places → get_or places i 0 + 1 < 2 ^ 16)
    → numbers_in (length places) (position_bytes places ++ rest) ≡ map (λ x. x + 1) places
unfolding numbers_in position_bytes
numbers-again [] rest h = refl
numbers-again (x ∷ places) rest h = ap₂ (λ (a : ℕ) (ys : List ℕ). a ∷ ys)
    (from_be_bytes-to_be_bytes_2 (x + 1) (h 0 (omega arith)))
    (numbers-again places rest (λ i l. h (suc i) (omega (arith, l))))

pub numbers-bytes : (c : ℕ) (bytes : List ℕ) → AreBytes bytes → 2 * c ≤ length bytes
    → flat_map (λ i. to_be_bytes w16 i) (numbers_in c bytes) ≡ take (2 * c) bytes
unfolding numbers_in
numbers-bytes zero bytes h l = let e : 0 ≡ 2 * zero = omega arith in ap (λ (n : ℕ). take n bytes) e
numbers-bytes (suc c) bytes h l =
    let e : 2 + 2 * c ≡ 2 * suc c = omega arith in
    let a : to_be_bytes w16 (from_be_bytes w16 (take 2 bytes)) ≡ take 2 bytes
    = be_bytes_2 (take 2 bytes) (from_be_bytes w16 (take 2 bytes))
    (length-take-le 2 bytes (omega (arith, l))) (bytes-take 2 bytes h) refl in
    let b : flat_map (λ i. to_be_bytes w16 i) (numbers_in c (drop 2 bytes)) ≡ take (2 * c) (drop 2 bytes)
    = numbers-bytes c (drop 2 bytes) (bytes-drop 2 bytes h) (omega (arith, l, length-drop 2 bytes)) in
    ap₂ (λ (x y : List ℕ). x ++ y) a b ∙ sym (take-add 2 (2 * c) bytes) ∙ ap (λ (n : ℕ). take n bytes) e

-- the places are counted from 1
pub places-bytes : (xs : List ℕ) → ((i : ℕ) → i < length xs → 1 ≤ get_or xs i 0)
    → position_bytes (map (λ x. x - 1) xs) ≡ flat_map (λ i. to_be_bytes w16 i) xs
unfolding position_bytes
places-bytes [] h = refl
places-bytes (x ∷ xs) h =
    let a : x - 1 + 1 ≡ x = omega (arith, h 0 (omega arith)) in
    ap₂ (λ (n : ℕ) (ys : List ℕ). to_be_bytes w16 n ++ ys) a
    (places-bytes xs (λ i l. h (suc i) (omega (arith, l))))

pub minus-plus : (xs : List ℕ) → map (λ x. x - 1) (map (λ x. x + 1) xs) ≡ xs
minus-plus [] = refl
minus-plus (x ∷ xs) = let a : x + 1 - 1 ≡ x = omega arith in
    ap₂ (λ (n : ℕ) (ys : List ℕ). n ∷ ys) a (minus-plus xs)

-- rows to bytes and back
pub rows-again : (w : ℕ) (rows : List (List ℕ)) (rest : List ℕ)
    → ((i : ℕ) → i < length rows → length (row rows i) ≡ w)
    → rows_in w (length rows) (concat rows ++ rest) ≡ rows
unfolding rows_in
rows-again w [] rest h = refl
rows-again w (r ∷ rows) rest h =
    let e : (r ++ concat rows) ++ rest ≡ r ++ (concat rows ++ rest) = search (arith, append_assoc) in
    ap₂ (λ (x : List ℕ) (xs : List (List ℕ)). x ∷ xs)
    (ap (λ (x : List ℕ). take w x) e ∙ take_at r (concat rows ++ rest) w (h 0 (omega arith)))
    (ap (λ (x : List ℕ). rows_in w (length rows) (drop w x)) e
    ∙ ap (λ (x : List ℕ). rows_in w (length rows) x)
    (drop_at r (concat rows ++ rest) w (h 0 (omega arith)))
    ∙ rows-again w rows rest (λ i l. h (suc i) (omega (arith, l))))

pub rows-bytes : (w c : ℕ) (bytes : List ℕ) → concat (rows_in w c bytes) ≡ take (c * w) bytes
unfolding rows_in
rows-bytes w zero bytes = let e : 0 ≡ zero * w = omega arith in ap (λ (n : ℕ). take n bytes) e
rows-bytes w (suc c) bytes =
    let e : w + c * w ≡ suc c * w = omega arith in
    ap (λ (x : List ℕ). take w bytes ++ x) (rows-bytes w c (drop w bytes)) ∙ sym (take-add w (c * w) bytes)
    ∙ ap (λ (n : ℕ). take n bytes) e

pub length-concat : (w : ℕ) (rows : List (List ℕ)) → ((i : ℕ) → i < length rows → length (row rows i) ≡ w)
    → length (concat rows) ≡ length rows * w
length-concat w [] h = omega arith
length-concat w (r ∷ rows) h = omega (
  arith,
  length-append r (concat rows),
  length-concat w rows (λ i l. h (suc i) (omega (arith, l))),
  h 0
      (omega arith),
)

-- entries of all rows
pub all-below : (p : ℕ) (xs : List ℕ) → list_all (is_below p) xs ≡ true → (i : ℕ) → i < length xs
    → get_or xs i 0 < p
all-below p [] h i l = absurd (omega (arith, l))
all-below p (x ∷ xs) h zero l = ltb-true x p (and_parts (ltb x p) (list_all (is_below p) xs) h).0
all-below p (x ∷ xs) h (suc i) l = all-below p xs (and_parts (ltb x p) (list_all (is_below p) xs) h).1 i
    (omega (arith, l))

pub below-all : (p : ℕ) (xs : List ℕ) → ((i : ℕ) → i < length xs → get_or xs i 0 < p)
    → list_all (is_below p) xs ≡ true
below-all p [] h = refl
below-all p (x ∷ xs) h = and_from (ltb x p) (list_all (is_below p) xs) (lt-ltb x p (h 0 (omega arith)))
    (below-all p xs (λ i l. h (suc i) (omega (arith, l))))

pub rows-matrix : (p w c : ℕ) (bytes : List ℕ) → length bytes ≡ c * w
    → ((i : ℕ) → i < length bytes → get_or bytes i 0 < p) → IsMatrix p w (rows_in w c bytes)
unfolding rows_in
rows-matrix p w zero bytes l h i m = absurd (omega (arith, m))
rows-matrix p w (suc c) bytes l h zero m = record {
  length_is = length-take-le w bytes (omega (arith, l));
  below = λ j k. rw (get_or-take w bytes j 0) (h j (omega (arith, l, k)));
}
rows-matrix p w (suc c) bytes l h (suc i) m =
    rows-matrix p w c (drop w bytes) (omega (arith, l, length-drop w bytes))
    (λ j k. rw (get_or-drop w bytes j 0) (h (w + j) (omega (arith, k, length-drop w bytes)))) i
    (omega (arith, m))

pub matrix-entries : (p w : ℕ) (rows : List (List ℕ)) → IsMatrix p w rows → (i : ℕ) → i < length (concat rows)
    → get_or (concat rows) i 0 < p
matrix-entries p w [] M i l = absurd (omega (arith, l))
matrix-entries p w (r ∷ rows) M i l = below-append r (concat rows)
    (λ j k. (M 0 (omega arith)).below j (omega (arith, k, (M 0 (omega arith)).length_is)))
    (matrix-entries p w rows (λ j k. M (suc j) (omega (arith, k)))) i l
  where
    below-append : (xs ys : List ℕ) → ((j : ℕ) → j < length xs → get_or xs j 0 < p)
        → ((j : ℕ) → j < length ys → get_or ys j 0 < p) → (i : ℕ) → i < length (xs ++ ys)
        → get_or (xs ++ ys) i 0 < p
    below-append [] ys a b i l = b i l
    below-append (x ∷ xs) ys a b zero l = a 0 (omega arith)
    below-append (x ∷ xs) ys a b (suc i) l = below-append xs ys (λ j k. a (suc j) (omega (arith, k))) b i
        (omega (arith, l))

-- places
pub record ArePlaces (low top : ℕ) (xs : List ℕ) : Type 0 where
  pub above : (i : ℕ) → i < length xs → low < get_or xs i 0
  pub inside : (i : ℕ) → i < length xs → get_or xs i 0 ≤ top
  pub ascending : (i j : ℕ) → i < j → j < length xs → get_or xs i 0 < get_or xs j 0

places-more : (low top x : ℕ) (xs : List ℕ) → low < x → x ≤ top → ArePlaces x top xs
    → ArePlaces low top (x ∷ xs)
places-more low top x xs a b P = record { above = above; inside = inside; ascending = ascending }
  where
    above : (i : ℕ) → i < length (x ∷ xs) → low < get_or (x ∷ xs) i 0
    above zero l = a
    above (suc i) l = omega (arith, a, P.above i (omega (arith, l)))

    inside : (i : ℕ) → i < length (x ∷ xs) → get_or (x ∷ xs) i 0 ≤ top
    inside zero l = b
    inside (suc i) l = P.inside i (omega (arith, l))

    ascending : (i j : ℕ) → i < j → j < length (x ∷ xs) → get_or (x ∷ xs) i 0 < get_or (x ∷ xs) j 0
    ascending i zero k l = absurd (omega (arith, k))
    ascending zero (suc j) k l = P.above j (omega (arith, l))
    ascending (suc i) (suc j) k l = P.ascending i j (omega (arith, k)) (omega (arith, l))

pub places-true : (low top : ℕ) (xs : List ℕ) → are_places low top xs ≡ true → ArePlaces low top xs
unfolding are_places
places-true low top [] h = record {
  above = λ i l. absurd (omega (arith, l));
  inside = λ i l. absurd (omega (arith, l));
  ascending = λ i j k l. absurd (omega (arith, l));
}
places-true low top (x ∷ xs) h =
    let a : (ltb low x ≡ true) × ((leb x top && are_places x top xs) ≡ true)
    = and_parts (ltb low x) (leb x top && are_places x top xs) h in
    let b : (leb x top ≡ true) × (are_places x top xs ≡ true)
    = and_parts (leb x top) (are_places x top xs) a.1 in
    places-more low top x xs (ltb-true low x a.0) (leb-true x top b.0) (places-true x top xs b.1)

pub true-places : (low top : ℕ) (xs : List ℕ) → ArePlaces low top xs → are_places low top xs ≡ true
unfolding are_places
true-places low top [] P = refl
true-places low top (x ∷ xs) P =
    and_from (ltb low x) _ (lt-ltb low x (P.above 0 (omega arith)))
    (and_from (leb x top) _ (le-leb x top (P.inside 0 (omega arith)))
    (true-places x top xs (record {
      above = λ i l. P.ascending 0 (suc i) (omega arith) (omega (arith, l));
      inside = λ i l. P.inside (suc i) (omega (arith, l));
      ascending = λ i j k l. P.ascending (suc i) (suc j) (omega (arith, k)) (omega (arith, l));
    })))
