-- Numbers and rows of bytes by their places.
use Rattle.std.proofs.Common.{◌≡◌, ℕ, zero, suc, ◌+◌, ◌-◌, ◌*◌, ◌<◌, ◌≤◌, true, false, ◌&&◌, List, ◌∷◌}
use Rattle.std.proofs.Common.{length, map, take, drop, get_or, refl, sym, ap, ap₂, ◌∙◌, arith, ◌⊎◌, inl, inr}
use mathlib.Core.Path.{subst}
use Rattle.std.specs.Int.{w16, from_be_bytes}
use Rattle.std.proofs.Math.Dec.{ltb, leb}
use Rattle.std.specs.List.{list_all}
use Rattle.std.proofs.lemmas.Bool.{lt-ltb, le-leb, lt-leb, le-ltb, and_left, and_right}
use Rattle.std.proofs.lemmas.List.{drop-drop, length-map, get_or-map, length-take, length-drop}
use Rattle.std.proofs.lemmas.List.{length-take-le, get_or-take, get_or-drop, drop_all, drop_more}
use Rattle.std.proofs.Math.Nat.{mul-le-mul}
use Rattle.linear_algebra.specs.Rows.{row}
use Rattle.std.specs.Str.{bytes_eq}
use Rattle.sha2.specs.Sha256.{sha256}
use Rattle.stage_records.specs.Readings.{numbers_in, rows_in, are_places, part, is_below, body_length}
use Rattle.stage_records.specs.Readings.{parts_at, Whole, read_parts}
use Rattle.stage_records.proofs.Tests.{on}
use Rattle.stage_records.proofs.Bytes.{length-numbers_in, all-below, places-true}
use Rattle.stage_records.proofs.Whole.{square}
use Rattle.stage_file.specs.Sizes.{AreViews}

pub row-of : (w c : ℕ) (bytes : List ℕ) (i : ℕ) → i < c
    → row (rows_in w c bytes) i ≡ take w (drop (i * w) bytes)
unfolding rows_in
row-of w zero bytes i l = absurd (omega (arith, l))
row-of w (suc c) bytes zero l = let e : 0 ≡ zero * w = omega arith in ap (λ (n : ℕ). take w (drop n bytes)) e
row-of w (suc c) bytes (suc i) l =
    let e : w + i * w ≡ suc i * w = omega arith in
    row-of w c (drop w bytes) i (omega (arith, l)) ∙ ap (λ (x : List ℕ). take w x) (drop-drop (i * w) w bytes)
    ∙ ap (λ (n : ℕ). take w (drop n bytes)) e

pub number-of : (c : ℕ) (bytes : List ℕ) (i : ℕ) → i < c
    → get_or (numbers_in c bytes) i 0 ≡ from_be_bytes w16 (take 2 (drop (2 * i) bytes))
unfolding numbers_in
number-of zero bytes i l = absurd (omega (arith, l))
number-of (suc c) bytes zero l = let e : 0 ≡ 2 * zero = omega arith in
    ap (λ (n : ℕ). from_be_bytes w16 (take 2 (drop n bytes))) e
number-of (suc c) bytes (suc i) l =
    let e : 2 + 2 * i ≡ 2 * suc i = omega arith in
    number-of c (drop 2 bytes) i (omega (arith, l))
    ∙ ap (λ (x : List ℕ). from_be_bytes w16 (take 2 x)) (drop-drop (2 * i) 2 bytes)
    ∙ ap (λ (n : ℕ). from_be_bytes w16 (take 2 (drop n bytes))) e

-- row i of c rows lies inside them
pub row-inside : (w c i : ℕ) → i < c → i * w + w ≤ c * w
row-inside w c i l = let a : suc i * w ≤ c * w = mul-le-mul l (let r : w ≤ w = omega arith in r) in
    omega (arith, a)

-- the position that a view shows
pub position-of : (b : ℕ) (bytes : List ℕ) (i : ℕ) → i < b
    → get_or (map (λ x. x - 1) (numbers_in b bytes)) i 0 ≡ from_be_bytes w16 (take 2 (drop (2 * i) bytes)) - 1
position-of b bytes i l = get_or-map (λ x. x - 1) (numbers_in b bytes) i 0 0
    (omega (arith, l, length-numbers_in b bytes)) ∙ ap (λ (n : ℕ). n - 1) (number-of b bytes i l)

pub position-count : (b : ℕ) (bytes : List ℕ) → length (map (λ x. x - 1) (numbers_in b bytes)) ≡ b
position-count b bytes = length-map (numbers_in b bytes) (λ x. x - 1) ∙ length-numbers_in b bytes

-- the parts of a record whose tests were passed are views
pub views : (p previous b D : ℕ) (bytes : List ℕ) → D ≤ 4096 → previous ≤ D
    → 40 + 2 * b + D * D ≤ length bytes
    → are_places 0 previous (numbers_in b (part 8 (2 * b) bytes)) ≡ true
    → list_all (is_below p) (part (8 + 2 * b) (D * D) bytes) ≡ true
    → AreViews p b previous D (part 8 (2 * b) bytes) (part (8 + 2 * b) ((D - previous) * D) bytes)
    (part (8 + 2 * b + (D - previous) * D) (previous * D) bytes)
views p m b D bytes small room enough places entries = record {
  position_size = part-length 8 (2 * b) (omega (arith, enough));
  counted_from_one = λ i l. (places-true 0 m (numbers_in b (part 8 (2 * b) bytes)) places).above i
      (omega (arith, l, length-numbers_in b (part 8 (2 * b) bytes)));
  room = room;
  small = small;
  kernel_size = part-length (8 + 2 * b) ((D - m) * D) (omega (arith, enough, sq));
  section_size = part-length (8 + 2 * b + (D - m) * D) (m * D) (omega (arith, enough, sq));
  kernel_below = kernel-below;
  section_below = section-below;
}
  where
    sq : (D - m) * D + m * D ≡ D * D
    sq = square m D room

    part-length : (from len : ℕ) → from + len ≤ length bytes → length (part from len bytes) ≡ len
    part-length from len h = length-take-le len (drop from bytes) (omega (arith, h, length-drop from bytes))

    entry-below : (i : ℕ) → i < D * D → get_or bytes (8 + 2 * b + i) 0 < p
    entry-below i l =
        let h : get_or (part (8 + 2 * b) (D * D) bytes) i 0 < p
        = all-below p (part (8 + 2 * b) (D * D) bytes) entries i
        (omega (arith, part-length (8 + 2 * b) (D * D) (omega (arith, enough)), l)) in
        rw (get_or-take (D * D) (drop (8 + 2 * b) bytes) i 0, get_or-drop (8 + 2 * b) bytes i 0) at h

    kernel-below : (i : ℕ) → i < length (part (8 + 2 * b) ((D - m) * D) bytes)
        → get_or (part (8 + 2 * b) ((D - m) * D) bytes) i 0 < p
    kernel-below i l =
        let n : i < (D - m) * D = omega (arith, l, length-take ((D - m) * D) (drop (8 + 2 * b) bytes)) in
        rw (get_or-take ((D - m) * D) (drop (8 + 2 * b) bytes) i 0, get_or-drop (8 + 2 * b) bytes i 0)
        (entry-below i (omega (arith, n, sq)))

    section-below : (i : ℕ) → i < length (part (8 + 2 * b + (D - m) * D) (m * D) bytes)
        → get_or (part (8 + 2 * b + (D - m) * D) (m * D) bytes) i 0 < p
    section-below i l =
        let n : i < m * D = omega (arith, l, length-take (m * D) (drop (8 + 2 * b + (D - m) * D) bytes)) in
        let h : get_or bytes (8 + 2 * b + ((D - m) * D + i)) 0 < p
        = entry-below ((D - m) * D + i) (omega (arith, n, sq)) in
        let e : 8 + 2 * b + ((D - m) * D + i) ≡ 8 + 2 * b + (D - m) * D + i = omega arith in
        rw (
          get_or-take (m * D) (drop (8 + 2 * b + (D - m) * D) bytes) i 0,
          get_or-drop
              (8 + 2 * b + (D - m) * D) bytes i 0,
        ) (subst (λ (k : ℕ). get_or bytes k 0 < p) e h)

-- one step of the test of places, and its end
pub places-step : (low top c i : ℕ) (bytes : List ℕ) → i < c
    → are_places low top (drop i (numbers_in c bytes))
    ≡ (ltb low (from_be_bytes w16 (take 2 (drop (2 * i) bytes))) &&
    (leb (from_be_bytes w16 (take 2 (drop (2 * i) bytes))) top && are_places
    (from_be_bytes w16 (take 2 (drop (2 * i) bytes))) top (drop (i + 1) (numbers_in c bytes))))
unfolding are_places
places-step low top c i bytes l =
    ap (λ (x : List ℕ). are_places low top x)
    (drop_more (numbers_in c bytes) i 0 (omega (arith, l, length-numbers_in c bytes))
    ∙ ap (λ (n : ℕ). n ∷ drop (i + 1) (numbers_in c bytes)) (number-of c bytes i l))

pub places-end : (low top c : ℕ) (bytes : List ℕ) → are_places low top (drop c (numbers_in c bytes)) ≡ true
unfolding are_places
places-end low top c bytes = ap (λ (x : List ℕ). are_places low top x)
    (drop_all c (numbers_in c bytes) (omega (arith, length-numbers_in c bytes)))

-- what the test of places says of one number
pub places-more : (low top c i x : ℕ) (bytes : List ℕ) → i < c
    → x ≡ from_be_bytes w16 (take 2 (drop (2 * i) bytes)) → low < x → x ≤ top
    → are_places low top (drop i (numbers_in c bytes)) ≡ are_places x top (drop (i + 1) (numbers_in c bytes))
places-more low top c i x bytes l e a b =
    places-step low top c i bytes l
    ∙ ap (λ (n : ℕ). ltb low n && (leb n top && are_places n top (drop (i + 1) (numbers_in c bytes)))) (sym e)
    ∙ rw (lt-ltb low x a, le-leb x top b) refl

pub places-none : (low top c i x : ℕ) (bytes : List ℕ) → i < c
    → x ≡ from_be_bytes w16 (take 2 (drop (2 * i) bytes)) → (x ≤ low) ⊎ (top < x)
    → are_places low top (drop i (numbers_in c bytes)) ≡ false
places-none low top c i x bytes l e a =
    places-step low top c i bytes l
    ∙ ap (λ (n : ℕ). ltb low n && (leb n top && are_places n top (drop (i + 1) (numbers_in c bytes)))) (sym e)
    ∙ elim a [
      | inl s ↦ and_left (ltb low x) _ (le-ltb low x s)
      | inr t ↦ and_right (ltb low x) _ (and_left (leb x top) _ (lt-leb x top t))
    ]

-- the views of a record, where the code has made them
pub views-made : (p previous b D : ℕ) (bytes xs ks ss es : List ℕ) → xs ≡ part 8 (2 * b) bytes
    → ks ≡ part (8 + 2 * b) ((D - previous) * D) bytes
    → ss ≡ part (8 + 2 * b + (D - previous) * D) (previous * D) bytes
    → es ≡ part (8 + 2 * b) (D * D) bytes → D ≤ 4096 → previous ≤ D → 40 + 2 * b + D * D ≤ length bytes
    → are_places 0 previous (numbers_in b xs) ≡ true → list_all (is_below p) es ≡ true
    → AreViews p b previous D xs ks ss
views-made p m b D bytes xs ks ss es ex ek es' ee small room enough places entries =
    subst (λ (x : List ℕ). AreViews p b m D x ks ss) (sym ex)
    (subst (λ (x : List ℕ). AreViews p b m D (part 8 (2 * b) bytes) x ss) (sym ek)
    (subst (λ (x : List ℕ). AreViews p b m D (part 8 (2 * b) bytes) (part (8 + 2 * b) ((D - m) * D) bytes) x)
    (sym es')
    (views p m b D bytes small room enough (ap (λ (x : List ℕ). are_places 0 m (numbers_in b x)) (sym ex)
    ∙ places) (ap (λ (x : List ℕ). list_all (is_below p) x) (sym ee) ∙ entries))))

pub whole-made : (p previous b D : ℕ) (bytes xs ks ss es body digest : List ℕ) → xs ≡ part 8 (2 * b) bytes
    → ks ≡ part (8 + 2 * b) ((D - previous) * D) bytes
    → ss ≡ part (8 + 2 * b + (D - previous) * D) (previous * D) bytes
    → es ≡ part (8 + 2 * b) (D * D) bytes → body ≡ part 4 (body_length b D) bytes
    → digest ≡ part (4 + body_length b D) 32 bytes
    → are_places 0 previous (numbers_in b xs) ≡ true → list_all (is_below p) es ≡ true
    → bytes_eq digest (sha256 body) ≡ true
    → Whole (record {
      positions = map (λ x. x - 1) (numbers_in b xs);
      kernel = rows_in D (D - previous) ks;
      sections = rows_in D previous ss;
    }) ≡ read_parts p previous b D bytes
unfolding read_parts parts_at
whole-made p m b D bytes xs ks ss es body digest ex ek es' ee eb ed places entries same =
    made ex ek es'
    ∙ sym (
    on (are_places 0 m (numbers_in b (part 8 (2 * b) bytes))) _ _
    (ap (λ (x : List ℕ). are_places 0 m (numbers_in b x)) (sym ex) ∙ places)
    ∙ on (list_all (is_below p) (part (8 + 2 * b) (D * D) bytes)) _ _
    (ap (λ (x : List ℕ). list_all (is_below p) x) (sym ee) ∙ entries)
    ∙ on (bytes_eq (part (4 + body_length b D) 32 bytes) (sha256 (part 4 (body_length b D) bytes))) _ _
    (ap₂ (λ (x y : List ℕ). bytes_eq x (sha256 y)) (sym ed) (sym eb) ∙ same)
    )
  where
    made : {x y z : List ℕ} → xs ≡ x → ks ≡ y → ss ≡ z
        → Whole (record {
          positions = map (λ x. x - 1) (numbers_in b xs);
          kernel = rows_in D (D - m) ks;
          sections = rows_in D m ss;
        }) ≡ Whole (record {
          positions = map (λ x. x - 1) (numbers_in b x);
          kernel = rows_in D (D - m) y;
          sections = rows_in D m z;
        })
    made p q r = λ i. Whole (record {
      positions = map (λ x. x - 1) (numbers_in b (p i));
      kernel = rows_in D (D - m) (q i);
      sections = rows_in D m (r i);
    })
