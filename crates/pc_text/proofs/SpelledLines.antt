-- The canonical spelling of a relation is read as that relation.
use Rattle.std.proofs.Common.{◌≡◌, ℕ, suc, ◌+◌, ◌<◌, ◌≤◌, ◌==◌, true, false, not, ltb, List, [], ◌∷◌, ◌++◌}
use Rattle.std.proofs.Common.{length, Some, Ok, refl, arith}
use Rattle.std.specs.Fmt.{decimal}
use Rattle.std.proofs.lemmas.List.Folds.{list_all-append}
use Rattle.std.proofs.lemmas.Bool.Decides.{nat_tests}
use Rattle.limits.specs.declared.TheConstants.{MOST_GENERATORS}
use Rattle.pc_text.specs.declared.place.Place.{Place}
use Rattle.pc_text.specs.declared.place.Place.TheVariants.{Power, Commutator}
use Rattle.pc_text.specs.Words.{Naming, by_number, word}
use Rattle.pc_text.specs.Relations.{Left, PowerOf, CommutatorOf, Shape, Relation, joined, left_shape, shape}
use Rattle.pc_text.specs.Relations.{left_side, least, stands, relation}
use Rattle.pc_text.specs.Grammar.{name, word_text, left_text, relation_text}
use Rattle.pc_text.specs.Rules.{IsPlace, IsRelation}
use Rattle.pc_text.proofs.Spelled.{lacks, cut_spelled, spelled, generator_spelled, numeral_spelled, NoDigit}
use Rattle.pc_text.proofs.Spelled.{decimal_lacks, line_feed_no_digit, space_no_digit, comma_no_digit}
use Rattle.pc_text.proofs.Spelled.{bracket_no_digit, caret_no_digit}
use Rattle.pc_text.proofs.SpelledWords.{word_read, word_long, word_line}

-- the parts of a left side
abbrev pub left_of : ℕ → Place → Left
left_of p (Power i) = PowerOf (name i) (decimal p)
left_of p (Commutator j i) = CommutatorOf (name j) (name i)

-- a byte that no left side has
pub record IsOutside (b : ℕ) : Type 0 where
  pub digit : NoDigit b
  pub comma : not (44 == b) ≡ true
  pub opening : not (91 == b) ≡ true
  pub closing : not (93 == b) ≡ true
  pub caret : not (94 == b) ≡ true
  pub letter : not (103 == b) ≡ true

space_outside : IsOutside 32
space_outside = record {
  digit = space_no_digit;
  comma = refl;
  opening = refl;
  closing = refl;
  caret = refl;
  letter = refl;
}

line_feed_outside : IsOutside 10
line_feed_outside = record {
  digit = line_feed_no_digit;
  comma = refl;
  opening = refl;
  closing = refl;
  caret = refl;
  letter = refl;
}

-- it has no space, and no LF
pub left_lacks : (b p n : ℕ) (place : Place) → IsOutside b → p ≤ 7 → n ≤ MOST_GENERATORS → IsPlace n place
    → lacks b (left_text p place) ≡ true
left_lacks b p n (Power i) out prime few is =
    let small : i ≤ MOST_GENERATORS = let le = is.1 in omega arith in
    rw (
      list_all-append (λ x. not (x == b)) (decimal i) (94 ∷ decimal p),
      decimal_lacks b i out.digit small,
      decimal_lacks b p out.digit (omega arith),
      out.letter,
      out.caret,
    ) refl
left_lacks b p n (Commutator j i) out prime few is =
    let high : j ≤ MOST_GENERATORS = let le = is.2 in omega arith in
    let small : i ≤ MOST_GENERATORS = let lt = is.1 in omega arith in
    rw (
      list_all-append (λ x. not (x == b)) (decimal j) (44 ∷ (name i ++ 93 ∷ [])),
      decimal_lacks b j out.digit high,
      list_all-append (λ x. not (x == b)) (decimal i) (93 ∷ []),
      decimal_lacks b i out.digit small,
      out.opening,
      out.letter,
      out.comma,
      out.closing,
    ) refl

left_spelled : (p n : ℕ) (place : Place) → p ≤ 7 → n ≤ MOST_GENERATORS → IsPlace n place
    → left_shape (by_number p n) (left_text p place) ≡ Some (left_of p place)
left_spelled p n (Power i) prime few is =
    let small : i ≤ MOST_GENERATORS = let le = is.1 in omega arith in
    rw (
      cut_spelled 94 (name i) (decimal p) (decimal_lacks 94 i caret_no_digit small),
      (spelled i small).digits,
      (spelled p (omega arith)).digits,
    ) refl
left_spelled p n (Commutator j i) prime few is =
    let high : j ≤ MOST_GENERATORS = let le = is.2 in omega arith in
    let small : i ≤ MOST_GENERATORS = let lt = is.1 in omega arith in
    rw (
      cut_spelled 44 (name j) (name i ++ 93 ∷ []) (decimal_lacks 44 j comma_no_digit high),
      cut_spelled 93 (name i) [] (decimal_lacks 93 i bracket_no_digit small),
      (spelled j high).digits,
      (spelled i small).digits,
    ) refl

not_zero : (n : ℕ) → (suc n == 0) ≡ false
not_zero n = grind (arith, nat_tests)

joined_by : (column : ℕ) (left : Left) (right : List ℕ) → 0 < length right
    → joined column (Some left) (Some right) ≡ Some (record { left = left; right = right; column = column })
joined_by column left [] h = absurd (omega arith)
joined_by column left (b ∷ right) h = rw (not_zero (length right)) refl

shape_spelled : (names : Naming) (bytes right : List ℕ) (left : Left) → lacks 32 bytes ≡ true
    → left_shape names bytes ≡ Some left → 0 < length right
    → shape names (bytes ++ (32 ∷ 61 ∷ 32 ∷ right)) ≡ Some
    (record { left = left; right = right; column = length bytes + 4 })
shape_spelled names bytes right left lack is long =
    rw (cut_spelled 32 bytes (61 ∷ 32 ∷ right) lack, is) (joined_by (length bytes + 4) left right long)

in_order : (j i : ℕ) → i < j → ltb i j ≡ true
in_order j i h = grind (arith, nat_tests)

side_spelled : (p n : ℕ) (place : Place) → p ≤ 7 → n ≤ MOST_GENERATORS → IsPlace n place
    → left_side (by_number p n) (left_of p place) ≡ Ok place
side_spelled p n (Power i) prime few is =
    rw (
      generator_spelled n i few is.0 is.1,
      numeral_spelled p p p (omega arith) (omega arith) (omega arith),
    ) refl
side_spelled p n (Commutator j i) prime few is =
    let pos = is.0 in
    let lt = is.1 in
    let le = is.2 in
    rw (
      generator_spelled n j few (omega arith) le,
      generator_spelled n i few pos (omega arith),
      in_order j i lt,
    ) refl

-- a line that has its shape, its left side and its word, and a left side that is new
relation_from : (names : Naming) (earlier : List Relation) (bytes : List ℕ) (parts : Shape) (place : Place)
    (w : List ℕ) → shape names bytes ≡ Some parts → left_side names parts.left ≡ Ok place
    → word names (least place) parts.column parts.right ≡ Ok w → stands place earlier ≡ false
    → relation names earlier bytes true ≡ Ok (record { place = place; word = w })
relation_from names earlier bytes parts place w shaped side worded new = rw (shaped, side, worded, new) refl

-- the text of a relation is read as that relation
pub relation_read : (p n : ℕ) (earlier : List Relation) (r : Relation) → p ≤ 7 → n ≤ MOST_GENERATORS
    → IsRelation p n r → stands r.place earlier ≡ false
    → relation (by_number p n) earlier (relation_text p r) true ≡ Ok r
relation_read p n earlier r prime few is new =
    let left = left_text p r.place in
    relation_from (by_number p n) earlier (relation_text p r)
    (record { left = left_of p r.place; right = word_text r.word; column = length left + 4 }) r.place r.word
    (shape_spelled (by_number p n) left (word_text r.word) (left_of p r.place)
    (left_lacks 32 p n r.place space_outside prime few is.place)
    (left_spelled p n r.place prime few is.place) (word_long r.word))
    (side_spelled p n r.place prime few is.place)
    (word_read p n (least r.place) (length left + 4) r.word few prime is.word) new

-- it has no LF
pub relation_text_lacks : (p n : ℕ) (r : Relation) → p ≤ 7 → n ≤ MOST_GENERATORS → IsRelation p n r
    → lacks 10 (relation_text p r) ≡ true
relation_text_lacks p n r prime few is =
    rw (
      list_all-append (λ x. not (x == 10)) (left_text p r.place) (32 ∷ 61 ∷ 32 ∷ word_text r.word),
      left_lacks 10 p n r.place line_feed_outside prime few is.place,
      word_line p n (least r.place) r.word few prime is.word,
    ) refl
