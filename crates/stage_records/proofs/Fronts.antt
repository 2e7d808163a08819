-- A record is read from its own bytes alone.
use Rattle.std.proofs.Common.{◌≡◌, ℕ, ◌+◌, ◌-◌, ◌*◌, ◌≤◌, Bool, true, false, not, cond, ◌&&◌, ◌==◌, List}
use Rattle.std.proofs.Common.{length, take, drop, map, None, sym, ap, ◌∙◌, arith, ◌⊎◌, inl, inr}
use Rattle.std.specs.List.{list_all}
use Rattle.std.specs.Str.{bytes_eq}
use Rattle.std.specs.Int.{w16, from_be_bytes}
use Rattle.std.proofs.Math.Dec.{leb, eqb}
use Rattle.std.proofs.lemmas.Bool.{cases_Bool, and_parts, leb-true, eqb-true, both_ways}
use Rattle.std.proofs.lemmas.List.{take-take, drop-take, length-take}
use Rattle.sha2.specs.Sha256.{sha256}
use Rattle.group_table.specs.Prime.{prime_value}
use Rattle.stage_records.specs.declared.shape.Shape.{Shape}
use Rattle.stage_records.specs.declared.field.Field.TheVariants as field
use Rattle.stage_records.specs.Records.{record_length}
use Rattle.stage_records.specs.Walks.{length_at, is_in_range, is_cut}
use Rattle.stage_records.specs.Readings.{numbers_in, rows_in, are_places, part, degree_at, rank_at}
use Rattle.stage_records.specs.Readings.{body_length, is_below, fits, parts_at, Reading, Whole, Malformed}
use Rattle.stage_records.specs.Readings.{read_parts, read_fields, read_record}
use Rattle.stage_records.proofs.Steps.{same_length_at, uncut_some, uncut_whole, uncut}
use Rattle.stage_records.proofs.Cuts.{whole-uncut}
use Rattle.stage_records.proofs.Whole.{square}
use Rattle.stage_records.proofs.Readings.{LengthWay, short, outside, inside, length-way}

pub part-front : (from len k : ℕ) (bytes : List ℕ) → from + len ≤ k
    → part from len (take k bytes) ≡ part from len bytes
part-front from len k bytes h =
    let e : k ≡ from + (k - from) = omega (arith, h) in
    ap (λ (n : ℕ). take len (drop from (take n bytes))) e
    ∙ ap (λ (x : List ℕ). take len x) (drop-take from (k - from) bytes)
    ∙ take-take len (k - from) (drop from bytes) (omega (arith, h))

off : (b : Bool) (x y : Reading) → b ≡ false → cond (not b) x y ≡ x
off b x y e = rw (e)

parts-front : (p previous b D k : ℕ) (bytes : List ℕ) → previous ≤ D → 40 + 2 * b + D * D ≤ k
    → read_parts p previous b D (take k bytes) ≡ read_parts p previous b D bytes
unfolding read_parts parts_at
parts-front p m b D k bytes room h = same
    (part-front 8 (2 * b) k bytes (omega (arith, h)))
    (part-front (8 + 2 * b) (D * D) k bytes (omega (arith, h)))
    (part-front (4 + body_length b D) 32 k bytes (omega (arith, h)))
    (part-front 4 (body_length b D) k bytes (omega (arith, h)))
    (part-front (8 + 2 * b) ((D - m) * D) k bytes (omega (arith, h, square m D room)))
    (part-front (8 + 2 * b + (D - m) * D) (m * D) k bytes (omega (arith, h, square m D room)))
  where
    same : {xs xs' es es' ds ds' bs bs' ks ks' ss ss' : List ℕ} → xs ≡ xs' → es ≡ es' → ds ≡ ds' → bs ≡ bs'
        → ks ≡ ks' → ss ≡ ss' →
        cond (not (are_places 0 m (numbers_in b xs))) (Malformed field.Position)
        (cond (not (list_all (is_below p) es)) (Malformed field.Entry)
        (cond (not (bytes_eq ds (sha256 bs))) (Malformed field.Digest)
        (Whole (record {
          positions = map (λ x. x - 1) (numbers_in b xs);
          kernel = rows_in D (D - m) ks;
          sections = rows_in D m ss;
        }))))
        ≡ cond (not (are_places 0 m (numbers_in b xs'))) (Malformed field.Position)
        (cond (not (list_all (is_below p) es')) (Malformed field.Entry)
        (cond (not (bytes_eq ds' (sha256 bs'))) (Malformed field.Digest)
        (Whole (record {
          positions = map (λ x. x - 1) (numbers_in b xs');
          kernel = rows_in D (D - m) ks';
          sections = rows_in D m ss';
        }))))
    same e f g a t u = λ i. cond (not (are_places 0 m (numbers_in b (e i)))) (Malformed field.Position)
        (cond (not (list_all (is_below p) (f i))) (Malformed field.Entry)
        (cond (not (bytes_eq (g i) (sha256 (a i)))) (Malformed field.Digest)
        (Whole (record {
          positions = map (λ x. x - 1) (numbers_in b (e i));
          kernel = rows_in D (D - m) (t i);
          sections = rows_in D m (u i);
        }))))

module _ (shape : Shape) (k : ℕ) (bytes : List ℕ) (some : 4 ≤ k)
    (enough : is_in_range (length_at bytes) ≡ true → 4 + length_at bytes ≤ k) where
  same-length : length_at (take k bytes) ≡ length_at bytes
  same-length = same_length_at k bytes some

  abbrev b : ℕ
  b = rank_at bytes

  abbrev D : ℕ
  D = shape.order * rank_at bytes

  fields-front : is_in_range (length_at bytes) ≡ true
      → read_fields shape (take k bytes) ≡ read_fields shape bytes
  unfolding read_fields
  fields-front r =
      let w : 36 ≤ length_at bytes = leb-true 36 (length_at bytes)
      (and_parts (leb 36 (length_at bytes)) (leb (length_at bytes) 16781348) r).0 in
      let n : 4 + length_at bytes ≤ k = enough r in
      let d : degree_at (take k bytes) ≡ degree_at bytes
      = ap (λ (x : List ℕ). from_be_bytes w16 x) (part-front 4 2 k bytes (omega (arith, w, n))) in
      let c : rank_at (take k bytes) ≡ rank_at bytes
      = ap (λ (x : List ℕ). from_be_bytes w16 x) (part-front 6 2 k bytes (omega (arith, w, n))) in
      rw (d, c, same-length) (ap (λ (x : Reading). cond (not (degree_at bytes == shape.degree))
      (Malformed field.Degree) x) (by-fits (cases_Bool (fits (length_at bytes) shape.previous b D))))
    where
      by-fits : (fits (length_at bytes) shape.previous b D ≡ true)
          ⊎ (fits (length_at bytes) shape.previous b D ≡ false)
          → cond (not (fits (length_at bytes) shape.previous b D)) (Malformed field.Rank)
          (read_parts (prime_value shape.p) shape.previous b D (take k bytes))
          ≡ cond (not (fits (length_at bytes) shape.previous b D)) (Malformed field.Rank)
          (read_parts (prime_value shape.p) shape.previous b D bytes)
      by-fits (inr f) = off (fits (length_at bytes) shape.previous b D) _ _ f
          ∙ sym (off (fits (length_at bytes) shape.previous b D) _ _ f)
      by-fits (inl t) =
          let s = and_parts (leb D 4096) (leb shape.previous D && eqb (length_at bytes) (record_length b D)) t
          in
          let r' = and_parts (leb shape.previous D) (eqb (length_at bytes) (record_length b D)) s.1 in
          let room : shape.previous ≤ D = leb-true shape.previous D r'.0 in
          let size : length_at bytes ≡ record_length b D
          = eqb-true (length_at bytes) (record_length b D) r'.1 in
          let n : 4 + length_at bytes ≤ k = enough r in
          ap (λ (x : Reading). cond (not (fits (length_at bytes) shape.previous b D))
          (Malformed field.Rank) x) (parts-front (prime_value shape.p) shape.previous b D k bytes room
          (omega (arith, n, size)))

  front-uncut : is_cut bytes ≡ false → is_cut (take k bytes) ≡ false
  front-uncut u =
      let s : 4 ≤ length bytes = uncut_some bytes u in
      uncut (take k bytes) (omega (arith, s, some, length-take k bytes))
      (λ r. let r' : is_in_range (length_at bytes) ≡ true = sym (ap (λ (n : ℕ). is_in_range n) same-length)
      ∙ r in
      let w : 4 + length_at bytes ≤ length bytes = uncut_whole bytes u r' in
      omega (arith, w, enough r', same-length, length-take k bytes))

  front-at : LengthWay shape (take k bytes) → LengthWay shape bytes
      → read_record shape (take k bytes) ≡ read_record shape bytes
  front-at (short c e) (short c' e') = e ∙ sym e'
  front-at (short c e) (outside u w e') = absurd (both_ways (is_cut (take k bytes)) (front-uncut u) c)
  front-at (short c e) (inside u w e') = absurd (both_ways (is_cut (take k bytes)) (front-uncut u) c)
  front-at (outside u w e) (short c' e') = absurd
      (both_ways (is_cut bytes) (whole-uncut None (λ r z. absurd (cc)) bytes k u) c')
  front-at (inside u w e) (short c' e') = absurd
      (both_ways (is_cut bytes) (whole-uncut None (λ r z. absurd (cc)) bytes k u) c')
  front-at (outside u w e) (outside u' w' e') = e ∙ sym e'
  front-at (outside u w e) (inside u' w' e') = let z : is_in_range (length_at bytes) ≡ false = sym
      (ap (λ (n : ℕ). is_in_range n) same-length) ∙ w in
      absurd (both_ways (is_in_range (length_at bytes)) z w')
  front-at (inside u w e) (outside u' w' e') = let z : is_in_range (length_at bytes) ≡ true = sym
      (ap (λ (n : ℕ). is_in_range n) same-length) ∙ w in
      absurd (both_ways (is_in_range (length_at bytes)) w' z)
  front-at (inside u w e) (inside u' w' e') = e ∙ fields-front w' ∙ sym e'

  pub front-reading : read_record shape (take k bytes) ≡ read_record shape bytes
  front-reading = front-at (length-way shape (take k bytes)) (length-way shape bytes)
