-- The record of parts that fit is read as these parts.
use Rattle.std.proofs.Common.{◌≡◌, ℕ, zero, suc, ◌+◌, ◌-◌, ◌*◌, ◌<◌, ◌≤◌, ◌^◌, true, List, [], ◌∷◌, ◌++◌}
use Rattle.std.proofs.Common.{length, map, take, drop, refl, sym, ap, ap₂, ◌∙◌, arith}
use mathlib.Core.Path.{subst}
use Rattle.std.specs.Int.{w16, w32, from_be_bytes, to_be_bytes}
use Rattle.std.specs.List.{concat, list_all}
use Rattle.std.proofs.Math.Dec.{leb}
use Rattle.std.proofs.lemmas.Bool.{and_parts, and_from, leb-true}
use Rattle.std.proofs.lemmas.Nat.{from_be_bytes-to_be_bytes_2, from_be_bytes-to_be_bytes_4}
use Rattle.std.proofs.lemmas.List.{length-map, append-nil, take-append-drop, get_or-map}
use Rattle.std.proofs.lemmas.List.Folds.{list_all-append}
use Rattle.group_table.specs.Prime.{prime_value}
use Rattle.sha2.specs.Sha256.{sha256}
use Rattle.sha2.proofs.Facts256.{length-sha256}
use Rattle.resolution_stages.specs.Checks.{StageParts}
use Rattle.stage_records.specs.declared.shape.Shape.{Shape}
use Rattle.stage_records.specs.Records.{position_bytes, body, record_length, record_bytes, record_of_width}
use Rattle.stage_records.specs.Walks.{length_at, is_in_range}
use Rattle.stage_records.specs.Readings.{numbers_in, rows_in, are_places, part, degree_at, rank_at}
use Rattle.stage_records.specs.Readings.{body_length, is_below, parts_at, AreBytes, Whole, read_record}
use Rattle.stage_records.specs.Claims.{Fits, WholeClaims}
use Rattle.stage_records.proofs.Bytes.{numbers-again, minus-plus, rows-again, length-concat, below-all}
use Rattle.stage_records.proofs.Bytes.{matrix-entries, true-places}
use Rattle.stage_records.proofs.Pieces.{all, of-record, first-four, at-degree, at-rank, at-positions}
use Rattle.stage_records.proofs.Pieces.{at-kernel, at-sections, at-entries, at-body, at-digest, length-all}
use Rattle.stage_records.proofs.Tests.{IsWhole, whole-tests, tests-whole}
use Rattle.stage_records.proofs.Whole.{fits-whole, same-whole, square}

pub le-times : (o b : ℕ) → 0 < o → b ≤ o * b
le-times zero b h = absurd (omega (arith, h))
le-times (suc o) b h = omega arith

pub length-positions : (places : List ℕ) → length (position_bytes places) ≡ 2 * length places
unfolding position_bytes
length-positions [] = refl
length-positions (x ∷ places) = omega (arith, length-positions places)

module _ (shape : Shape) (Q : StageParts) (small : shape.degree < 2 ^ 16) (some : 0 < shape.order)
    (F : Fits shape Q) (rest : List ℕ) where
  abbrev b : ℕ
  b = length Q.positions

  abbrev D : ℕ
  D = shape.order * length Q.positions

  abbrev m : ℕ
  m = shape.previous

  abbrev A : List ℕ
  A = to_be_bytes w32 (record_length b D)

  abbrev Bd : List ℕ
  Bd = to_be_bytes w16 shape.degree

  abbrev C : List ℕ
  C = to_be_bytes w16 b

  abbrev P : List ℕ
  P = position_bytes Q.positions

  abbrev K : List ℕ
  K = concat Q.kernel

  abbrev S : List ℕ
  S = concat Q.sections

  abbrev H : List ℕ
  H = sha256 (body shape.degree Q)

  room : m ≤ D
  room = omega (arith, F.kernel_count)

  sq : (D - m) * D + m * D ≡ D * D
  sq = square m D room

  kernel-is : length Q.kernel ≡ D - m
  kernel-is = omega (arith, F.kernel_count)

  lp : length P ≡ 2 * b
  lp = length-positions Q.positions

  lk : length K ≡ (D - m) * D
  lk = length-concat D Q.kernel (λ i l. (F.kernel_rows i l).length_is) ∙ ap (λ (n : ℕ). n * D) kernel-is

  ls : length S ≡ m * D
  ls = length-concat D Q.sections (λ i l. (F.section_rows i l).length_is)
      ∙ ap (λ (n : ℕ). n * D) F.section_count

  lh : length H ≡ 32
  lh = length-sha256 (body shape.degree Q)

  abbrev X : List ℕ
  X = all A Bd C P K S H rest (2 * b) ((D - m) * D) (m * D) refl refl refl lp lk ls lh

  few : b ≤ 4096
  few = omega (arith, le-times shape.order b some, F.small)

  long : record_length b D ≤ 16781348
  long = leb-true (record_length b D) 16781348
      (and_parts (leb 36 (record_length b D)) (leb (record_length b D) 16781348) F.range).1

  X-length : length_at X ≡ record_length b D
  X-length = ap (λ (x : List ℕ). from_be_bytes w32 x)
      (first-four A Bd C P K S H rest (2 * b) ((D - m) * D) (m * D) refl refl refl lp lk ls lh)
      ∙ from_be_bytes-to_be_bytes_4 (record_length b D) (omega (arith, long))

  X-degree : degree_at X ≡ shape.degree
  X-degree = ap (λ (x : List ℕ). from_be_bytes w16 x)
      (at-degree A Bd C P K S H rest (2 * b) ((D - m) * D) (m * D) refl refl refl lp lk ls lh)
      ∙ from_be_bytes-to_be_bytes_2 shape.degree small

  X-rank : rank_at X ≡ b
  X-rank = ap (λ (x : List ℕ). from_be_bytes w16 x)
      (at-rank A Bd C P K S H rest (2 * b) ((D - m) * D) (m * D) refl refl refl lp lk ls lh)
      ∙ from_be_bytes-to_be_bytes_2 b (omega (arith, few))

  X-places : numbers_in b (part 8 (2 * b) X) ≡ map (λ x. x + 1) Q.positions
  X-places =
      ap (λ (x : List ℕ). numbers_in b x)
      (at-positions A Bd C P K S H rest (2 * b) ((D - m) * D) (m * D) refl refl refl lp lk ls lh
      ∙ sym (append-nil P))
      ∙ numbers-again Q.positions [] (λ i l. omega (arith, F.inside i l, room, F.small))

  X-kernel : part (8 + 2 * b) ((D - m) * D) X ≡ K
  X-kernel = at-kernel A Bd C P K S H rest (2 * b) ((D - m) * D) (m * D) refl refl refl lp lk ls lh

  X-sections : part (8 + 2 * b + (D - m) * D) (m * D) X ≡ S
  X-sections = at-sections A Bd C P K S H rest (2 * b) ((D - m) * D) (m * D) refl refl refl lp lk ls lh

  X-entries : part (8 + 2 * b) (D * D) X ≡ K ++ S
  X-entries = ap (λ (n : ℕ). part (8 + 2 * b) n X) (sym sq)
      ∙ at-entries A Bd C P K S H rest (2 * b) ((D - m) * D) (m * D) refl refl refl lp lk ls lh

  body-size : body_length b D ≡ 4 + 2 * b + ((D - m) * D + m * D)
  body-size = omega (arith, sq)

  X-digest : part (4 + body_length b D) 32 X ≡ sha256 (part 4 (body_length b D) X)
  unfolding body
  X-digest =
      ap (λ (n : ℕ). part (4 + n) 32 X) body-size
      ∙ at-digest A Bd C P K S H rest (2 * b) ((D - m) * D) (m * D) refl refl refl lp lk ls lh
      ∙ ap sha256 (sym (ap (λ (n : ℕ). part 4 n X) body-size
      ∙ at-body A Bd C P K S H rest (2 * b) ((D - m) * D) (m * D) refl refl refl lp lk ls lh))

  places-true' : are_places 0 m (map (λ x. x + 1) Q.positions) ≡ true
  places-true' = true-places 0 m (map (λ x. x + 1) Q.positions) (record {
    above = λ i l. omega (
      arith,
      get_or-map (λ x. x + 1) Q.positions i 0 0
          (omega (arith, l, length-map Q.positions (λ x. x + 1))),
    );
    inside = λ i l. omega (
      arith,
      get_or-map (λ x. x + 1) Q.positions i 0 0
          (omega (arith, l, length-map Q.positions (λ x. x + 1))),
      F.inside i
          (omega (arith, l, length-map Q.positions (λ x. x + 1))),
    );
    ascending = λ i j k l. omega (
      arith,
      get_or-map (λ x. x + 1) Q.positions i 0 0
          (omega (arith, k, l, length-map Q.positions (λ x. x + 1))),
      get_or-map (λ x. x + 1) Q.positions j 0 0
          (omega (arith, l, length-map Q.positions (λ x. x + 1))),
      F.ascending i j k
          (omega (arith, l, length-map Q.positions (λ x. x + 1))),
    );
  })

  entries-true : list_all (is_below (prime_value shape.p)) (K ++ S) ≡ true
  entries-true =
      list_all-append (is_below (prime_value shape.p)) K S
      ∙ and_from _ _ (below-all (prime_value shape.p) K
      (matrix-entries (prime_value shape.p) D Q.kernel F.kernel_rows))
      (below-all (prime_value shape.p) S
      (matrix-entries (prime_value shape.p) D Q.sections F.section_rows))

  X-size : 4 + (4 + 2 * b + ((D - m) * D + m * D) + 32) ≤ length X
  X-size = length-all A Bd C P K S H rest (2 * b) ((D - m) * D) (m * D) refl refl refl lp lk ls lh

  -- at the rank that stands there
  abbrev IsWholeAt : ℕ → Type 0
  IsWholeAt n =
      (shape.order * n ≤ 4096) × (m ≤ shape.order * n) × (length_at X ≡ record_length n (shape.order * n))
      × (are_places 0 m (numbers_in n (part 8 (2 * n) X)) ≡ true)
      × (list_all (is_below (prime_value shape.p))
      (part (8 + 2 * n) ((shape.order * n) * (shape.order * n)) X) ≡ true)
      × (part (4 + body_length n (shape.order * n)) 32 X ≡ sha256
      (part 4 (body_length n (shape.order * n)) X))

  whole-at : IsWholeAt (rank_at X)
  whole-at = subst (λ (n : ℕ). IsWholeAt n) (sym X-rank) (
    F.small,
    room,
    X-length,
    ap (λ (x : List ℕ). are_places 0 m x) X-places
        ∙ places-true',
    ap (λ (x : List ℕ). list_all (is_below (prime_value shape.p)) x) X-entries
        ∙ entries-true,
    X-digest,
  )

  X-whole : IsWhole shape X
  X-whole = record {
    some = omega (arith, X-size);
    range = ap (λ (n : ℕ). is_in_range n) X-length ∙ F.range;
    enough = omega (arith, X-length, X-size, sq);
    degree = X-degree;
    small = whole-at.0;
    room = whole-at.1;
    size = whole-at.2;
    places = whole-at.3;
    entries = whole-at.4;
    digest = whole-at.5;
  }

  X-parts : parts_at m b D X ≡ Q
  unfolding parts_at
  X-parts = same
      (ap (λ (x : List ℕ). map (λ x. x - 1) x) X-places ∙ minus-plus Q.positions)
      (ap₂ (λ (n : ℕ) (x : List ℕ). rows_in D n x) (sym kernel-is) (X-kernel ∙ sym (append-nil K))
      ∙ rows-again D Q.kernel [] (λ i l. (F.kernel_rows i l).length_is))
      (ap₂ (λ (n : ℕ) (x : List ℕ). rows_in D n x) (sym F.section_count) (X-sections ∙ sym (append-nil S))
      ∙ rows-again D Q.sections [] (λ i l. (F.section_rows i l).length_is))
    where
      same : {x : List ℕ} {y z : List (List ℕ)} → x ≡ Q.positions → y ≡ Q.kernel → z ≡ Q.sections
          → record { positions = x; kernel = y; sections = z } ≡ Q
      same p q r = λ i. record { positions = p i; kernel = q i; sections = r i }

  read-all : read_record shape X ≡ Whole Q
  read-all = tests-whole shape X X-whole ∙ ap (λ (n : ℕ). Whole (parts_at m n (shape.order * n) X)) X-rank
      ∙ ap Whole X-parts

  pub read-record : read_record shape (record_bytes shape.order shape.degree Q ++ rest) ≡ Whole Q
  unfolding record_of_width body
  read-record = ap (λ (x : List ℕ). read_record shape x)
      (of-record A Bd C P K S H rest (2 * b) ((D - m) * D) (m * D) refl refl refl lp lk ls lh) ∙ read-all

pub whole-claims : (shape : Shape) (bytes : List ℕ) (Q : StageParts) → shape.degree < 2 ^ 16 → 0 < shape.order
    → AreBytes bytes → WholeClaims shape bytes Q
whole-claims shape bytes Q small some B = record {
  fit = λ e. let w = whole-tests shape bytes Q e in
      subst (λ (R : StageParts). Fits shape R) w.1 (fits-whole shape bytes small B w.0);
  same = λ e. let w = whole-tests shape bytes Q e in
      subst (λ (R : StageParts). take (4 + length_at bytes) bytes ≡ record_bytes shape.order shape.degree R)
      w.1 (same-whole shape bytes small B w.0);
  whole = λ F e. ap (λ (x : List ℕ). read_record shape x) (sym (take-append-drop (4 + length_at bytes) bytes)
      ∙ ap (λ (x : List ℕ). x ++ drop (4 + length_at bytes) bytes) e)
      ∙ read-record shape Q small some F (drop (4 + length_at bytes) bytes);
}
