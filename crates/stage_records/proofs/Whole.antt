-- What is read as a record of parts is the record of these parts, and the record of parts that fit is read
-- so.
use Rattle.std.proofs.Common.{◌≡◌, ℕ, ◌+◌, ◌-◌, ◌*◌, ◌<◌, ◌≤◌, ◌^◌, List, ◌++◌, length, map, take, drop}
use Rattle.std.proofs.Common.{get_or, refl, sym, ap, ap₂, ◌∙◌, arith}
use mathlib.Core.Path.{subst}
use Rattle.std.specs.Int.{w16, w32, to_be_bytes}
use Rattle.std.specs.List.{concat}
use Rattle.std.proofs.lemmas.Nat.{be_bytes_2, be_bytes_4}
use Rattle.std.proofs.lemmas.List.{take-take, length-take, length-take-le, length-drop, length-map}
use Rattle.std.proofs.lemmas.List.{get_or-take, get_or-drop, get_or-map}
use Rattle.group_table.specs.Prime.{prime_value}
use Rattle.sha2.specs.Sha256.{sha256}
use Rattle.linear_algebra.specs.Rows.{IsMatrix}
use Rattle.resolution_stages.specs.Checks.{StageParts}
use Rattle.stage_records.specs.declared.shape.Shape.{Shape}
use Rattle.stage_records.specs.Records.{position_bytes, body, record_length, record_bytes, record_of_width}
use Rattle.stage_records.specs.Walks.{length_at, is_in_range}
use Rattle.stage_records.specs.Readings.{numbers_in, rows_in, part, rank_at, body_length, parts_at, AreBytes}
use Rattle.stage_records.specs.Claims.{Fits}
use Rattle.stage_records.proofs.Bytes.{bytes-take, bytes-drop, length-numbers_in, length-rows_in}
use Rattle.stage_records.proofs.Bytes.{numbers-bytes, places-bytes, rows-bytes, all-below, rows-matrix}
use Rattle.stage_records.proofs.Bytes.{ArePlaces, places-true}
use Rattle.stage_records.proofs.Pieces.{part-split, part-five}
use Rattle.stage_records.proofs.Tests.{IsWhole}

-- a part that lies inside has its length
part-length : (from len : ℕ) (bytes : List ℕ) → from + len ≤ length bytes → length (part from len bytes) ≡ len
part-length from len bytes h = length-take-le len (drop from bytes) (omega (arith, h, length-drop from bytes))

part-bytes : (from len : ℕ) (bytes : List ℕ) → AreBytes bytes → AreBytes (part from len bytes)
part-bytes from len bytes h = bytes-take len (drop from bytes) (bytes-drop from bytes h)

-- the square of the width in two parts
pub square : (previous D : ℕ) → previous ≤ D → (D - previous) * D + previous * D ≡ D * D
square previous D h = go (D - previous) (omega (arith, h))
  where
    go : (r : ℕ) → r + previous ≡ D → r * D + previous * D ≡ D * D
    go r e = omega (arith, ap (λ (n : ℕ). n * D) e)

module _ (shape : Shape) (bytes : List ℕ) (small : shape.degree < 2 ^ 16) (B : AreBytes bytes)
    (W : IsWhole shape bytes) where
  abbrev L : ℕ
  L = length_at bytes

  abbrev b : ℕ
  b = rank_at bytes

  abbrev D : ℕ
  D = shape.order * rank_at bytes

  abbrev m : ℕ
  m = shape.previous

  abbrev Q : StageParts
  Q = parts_at m b D bytes

  abbrev places : List ℕ
  places = numbers_in b (part 8 (2 * b) bytes)

  sq : (D - m) * D + m * D ≡ D * D
  sq = square m D W.room

  places-are : ArePlaces 0 m places
  places-are = places-true 0 m places W.places

  count : length places ≡ b
  count = length-numbers_in b (part 8 (2 * b) bytes)

  positions-are : Q.positions ≡ map (λ x. x - 1) places
  unfolding parts_at
  positions-are = refl

  kernel-are : Q.kernel ≡ rows_in D (D - m) (part (8 + 2 * b) ((D - m) * D) bytes)
  unfolding parts_at
  kernel-are = refl

  sections-are : Q.sections ≡ rows_in D m (part (8 + 2 * b + (D - m) * D) (m * D) bytes)
  unfolding parts_at
  sections-are = refl

  rank-is : length Q.positions ≡ b
  rank-is = ap length positions-are ∙ length-map places (λ x. x - 1) ∙ count

  -- the entries of a part
  entry-below : (i : ℕ) → i < D * D → get_or bytes (8 + 2 * b + i) 0 < prime_value shape.p
  entry-below i l =
      let n : length (part (8 + 2 * b) (D * D) bytes) ≡ D * D
      = part-length (8 + 2 * b) (D * D) bytes (omega (arith, W.enough, W.size)) in
      let h : get_or (part (8 + 2 * b) (D * D) bytes) i 0 < prime_value shape.p
      = all-below (prime_value shape.p) (part (8 + 2 * b) (D * D) bytes) W.entries i (omega (arith, n, l))
      in
      rw (get_or-take (D * D) (drop (8 + 2 * b) bytes) i 0, get_or-drop (8 + 2 * b) bytes i 0) at h

  kernel-below : (i : ℕ) → i < length (part (8 + 2 * b) ((D - m) * D) bytes)
      → get_or (part (8 + 2 * b) ((D - m) * D) bytes) i 0 < prime_value shape.p
  kernel-below i l =
      let n : i < (D - m) * D = omega (arith, l, length-take ((D - m) * D) (drop (8 + 2 * b) bytes)) in
      rw (get_or-take ((D - m) * D) (drop (8 + 2 * b) bytes) i 0, get_or-drop (8 + 2 * b) bytes i 0)
      (entry-below i (omega (arith, n, sq)))

  section-below : (i : ℕ) → i < length (part (8 + 2 * b + (D - m) * D) (m * D) bytes)
      → get_or (part (8 + 2 * b + (D - m) * D) (m * D) bytes) i 0 < prime_value shape.p
  section-below i l =
      let n : i < m * D = omega (arith, l, length-take (m * D) (drop (8 + 2 * b + (D - m) * D) bytes)) in
      let h : get_or bytes (8 + 2 * b + ((D - m) * D + i)) 0 < prime_value shape.p
      = entry-below ((D - m) * D + i) (omega (arith, n, sq)) in
      let e : 8 + 2 * b + ((D - m) * D + i) ≡ 8 + 2 * b + (D - m) * D + i = omega arith in
      rw (
        get_or-take (m * D) (drop (8 + 2 * b + (D - m) * D) bytes) i 0,
        get_or-drop
            (8 + 2 * b + (D - m) * D) bytes i 0,
      ) (subst (λ (k : ℕ). get_or bytes k 0 < prime_value shape.p) e h)

  kernel-matrix : IsMatrix (prime_value shape.p) D (rows_in D (D - m) (part (8 + 2 * b) ((D - m) * D) bytes))
  kernel-matrix = rows-matrix (prime_value shape.p) D (D - m) (part (8 + 2 * b) ((D - m) * D) bytes)
      (part-length (8 + 2 * b) ((D - m) * D) bytes (omega (arith, W.enough, W.size, sq))) kernel-below

  section-matrix : IsMatrix (prime_value shape.p) D
      (rows_in D m (part (8 + 2 * b + (D - m) * D) (m * D) bytes))
  section-matrix = rows-matrix (prime_value shape.p) D m (part (8 + 2 * b + (D - m) * D) (m * D) bytes)
      (part-length (8 + 2 * b + (D - m) * D) (m * D) bytes (omega (arith, W.enough, W.size, sq)))
      section-below

  position-at : (i : ℕ) → i < b → get_or Q.positions i 0 ≡ get_or places i 0 - 1
  position-at i l = ap (λ (x : List ℕ). get_or x i 0) positions-are
      ∙ get_or-map (λ x. x - 1) places i 0 0 (omega (arith, l, count))

  width-is : shape.order * length Q.positions ≡ D
  width-is = ap (λ (n : ℕ). shape.order * n) rank-is

  pub fits-whole : Fits shape Q
  fits-whole = record {
    ascending = λ i j k l. omega (
      arith,
      position-at i (omega (arith, k, l, rank-is)),
      position-at j
          (omega (arith, l, rank-is)),
      places-are.ascending i j k
          (omega (arith, l, rank-is, count)),
      places-are.above i (omega (arith, k, l, rank-is, count)),
    );
    inside = λ i l. omega (
      arith,
      position-at i (omega (arith, l, rank-is)),
      places-are.above i
          (omega (arith, l, rank-is, count)),
      places-are.inside i (omega (arith, l, rank-is, count)),
    );
    kernel_rows = subst (λ (n : ℕ). IsMatrix (prime_value shape.p) n Q.kernel) (sym width-is)
        (subst (λ (x : List (List ℕ)). IsMatrix (prime_value shape.p) D x) (sym kernel-are) kernel-matrix);
    section_rows = subst (λ (n : ℕ). IsMatrix (prime_value shape.p) n Q.sections) (sym width-is)
        (subst (λ (x : List (List ℕ)). IsMatrix (prime_value shape.p) D x) (sym sections-are) section-matrix);
    kernel_count = let e : length Q.kernel ≡ D - m = ap length kernel-are
        ∙ length-rows_in D (D - m) (part (8 + 2 * b) ((D - m) * D) bytes) in
        omega (arith, e, width-is, W.room);
    section_count = ap length sections-are
        ∙ length-rows_in D m (part (8 + 2 * b + (D - m) * D) (m * D) bytes);
    small = omega (arith, width-is, W.small);
    range = ap₂ (λ (n k : ℕ). is_in_range (record_length n k)) rank-is width-is
        ∙ ap (λ (n : ℕ). is_in_range n) (sym W.size) ∙ W.range;
  }

  -- the parts as bytes
  degree-bytes : part 4 2 bytes ≡ to_be_bytes w16 shape.degree
  degree-bytes = sym (be_bytes_2 (part 4 2 bytes) shape.degree
      (part-length 4 2 bytes (omega (arith, W.enough, W.size))) (part-bytes 4 2 bytes B) (sym W.degree))

  rank-bytes : part 6 2 bytes ≡ to_be_bytes w16 (length Q.positions)
  rank-bytes = sym (be_bytes_2 (part 6 2 bytes) (length Q.positions)
      (part-length 6 2 bytes (omega (arith, W.enough, W.size))) (part-bytes 6 2 bytes B) rank-is)

  whole-part : (from len : ℕ) → take len (part from len bytes) ≡ part from len bytes
  whole-part from len = take-take len len (drop from bytes) (omega arith)

  place-bytes : part 8 (2 * b) bytes ≡ position_bytes Q.positions
  place-bytes =
      sym (whole-part 8 (2 * b))
      ∙ sym (numbers-bytes b (part 8 (2 * b) bytes) (part-bytes 8 (2 * b) bytes B)
      (omega (arith, part-length 8 (2 * b) bytes (omega (arith, W.enough, W.size)))))
      ∙ sym (places-bytes places (λ i l. places-are.above i l))
      ∙ ap position_bytes (sym positions-are)

  kernel-bytes : part (8 + 2 * b) ((D - m) * D) bytes ≡ concat Q.kernel
  kernel-bytes = sym (whole-part (8 + 2 * b) ((D - m) * D))
      ∙ sym (rows-bytes D (D - m) (part (8 + 2 * b) ((D - m) * D) bytes)) ∙ ap concat (sym kernel-are)

  section-bytes : part (8 + 2 * b + (D - m) * D) (m * D) bytes ≡ concat Q.sections
  section-bytes = sym (whole-part (8 + 2 * b + (D - m) * D) (m * D))
      ∙ sym (rows-bytes D m (part (8 + 2 * b + (D - m) * D) (m * D) bytes)) ∙ ap concat (sym sections-are)

  body-bytes : part 4 (body_length b D) bytes ≡ body shape.degree Q
  unfolding body
  body-bytes =
      let e : body_length b D ≡ 4 + 2 * b + ((D - m) * D + m * D) = omega (arith, sq) in
      ap (λ (n : ℕ). part 4 n bytes) e ∙ part-five (2 * b) ((D - m) * D) (m * D) bytes
      ∙ ap₂ (λ (x y : List ℕ). x ++ y) degree-bytes
      (ap₂ (λ (x y : List ℕ). x ++ y) rank-bytes
      (ap₂ (λ (x y : List ℕ). x ++ y) place-bytes
      (ap₂ (λ (x y : List ℕ). x ++ y) kernel-bytes section-bytes)))

  length-bytes : take 4 bytes ≡ to_be_bytes w32
      (record_length (length Q.positions) (shape.order * length Q.positions))
  length-bytes = sym (be_bytes_4 (take 4 bytes)
      (record_length (length Q.positions) (shape.order * length Q.positions)) (length-take-le 4 bytes W.some)
      (bytes-take 4 bytes B) (ap₂ (λ (n k : ℕ). record_length n k) rank-is width-is ∙ sym W.size))

  pub same-whole : take (4 + L) bytes ≡ record_bytes shape.order shape.degree Q
  unfolding record_of_width
  same-whole =
      let e : L ≡ body_length b D + 32 = W.size ∙ omega arith in
      ap (λ (n : ℕ). take (4 + n) bytes) e ∙ part-split 0 4 (body_length b D + 32) bytes
      ∙ ap₂ (λ (x y : List ℕ). x ++ y) length-bytes
      (part-split 4 (body_length b D) 32 bytes
      ∙ ap₂ (λ (x y : List ℕ). x ++ y) body-bytes (W.digest ∙ ap sha256 body-bytes))
