-- What is read as a relation is the text of that relation.
use Rattle.std.proofs.Common.{◌≡◌, ℕ, ◌+◌, ◌<◌, ◌≤◌, ◌&&◌, Bool, true, false, not, cond, eqb, ltb, List, []}
use Rattle.std.proofs.Common.{◌∷◌, ◌++◌, length, Option, Some, None, Ok, refl, ap, ◌∙◌, arith}
use Rattle.std.specs.Prelude.{codes, is_some}
use Rattle.std.specs.Fmt.{decimal}
use Rattle.std.proofs.lemmas.Bool.Decides.{nat_tests}
use Rattle.limits.specs.declared.TheConstants.{MOST_GENERATORS}
use Rattle.pc_text.specs.declared.fault.Kind.TheVariants as kind
use Rattle.pc_text.specs.declared.place.Place.{Place}
use Rattle.pc_text.specs.declared.place.Place.TheVariants.{Power, Commutator}
use Rattle.pc_text.specs.Faults.{◌>>=◌, expect, require}
use Rattle.pc_text.specs.Lines.{cut_at, after_front}
use Rattle.pc_text.specs.Numerals.{numeral, is_digits}
use Rattle.pc_text.specs.Words.{by_number, g_generator, is_g_name, word}
use Rattle.pc_text.specs.Relations.{Left, PowerOf, CommutatorOf, power_parts, power_shape, second_parts}
use Rattle.pc_text.specs.Relations.{commutator_parts, commutator_shape, left_shape, Shape, joined}
use Rattle.pc_text.specs.Relations.{shape_parts, shape, left_side, least, stands, Relation, relation}
use Rattle.pc_text.specs.Grammar.{name, left_text, relation_text}
use Rattle.pc_text.proofs.Steps.{bind_ok, expect_ok, require_ok, err_ok, ok_same, and_then_some, if_some}
use Rattle.pc_text.proofs.Steps.{some_same, and_parts}
use Rattle.pc_text.proofs.Kept.{new_row, word_row, side_row, shape_row, word_kept, numeral_range}
use Rattle.pc_text.proofs.WrittenWords.{cut_written, front_written, numeral_written, name_written}
use Rattle.pc_text.proofs.WrittenWords.{word_written}

-- left sides

power_by : (p n : ℕ) (a digits : List ℕ) (place : Place) (o q : Option ℕ) → n ≤ MOST_GENERATORS → p ≤ 7
    → g_generator n a ≡ o → numeral p p digits ≡ q
    → (expect kind.BadGenerator 1 o >>= λ i. require kind.BadPower (length a + 2) (is_some q) >>= λ _. Ok
    (Power i)) ≡ Ok place → a ++ 94 ∷ digits ≡ left_text p place
power_by p n a digits place (Some i) (Some v) small prime is at h =
    let range = numeral_range p p digits v at in
    let low = range.0 in
    let high = range.1 in
    let same : v ≡ p = omega arith in
    ap (λ (t : List ℕ). t ++ 94 ∷ digits) (name_written n a i small is)
    ∙ ap (λ (t : List ℕ). name i ++ 94 ∷ t) (numeral_written p p digits v (omega arith) at ∙ ap decimal same)
    ∙ ap (left_text p) (ok_same _ _ h)
power_by p n a digits place (Some i) None small prime is at h = absurd (err_ok _ _ h)
power_by p n a digits place None q small prime is at h = absurd (err_ok _ _ h)

commutator_by : (p n : ℕ) (b a : List ℕ) (place : Place) (o q : Option ℕ) → n ≤ MOST_GENERATORS
    → g_generator n b ≡ o → g_generator n a ≡ q
    → (expect kind.BadGenerator 2 o >>= λ j. expect kind.BadGenerator
    (length b + 3) q >>= λ i. require kind.BadOrder 1 (ltb i j) >>= λ _. Ok (Commutator j i)) ≡ Ok place
    → 91 ∷ (b ++ 44 ∷ (a ++ 93 ∷ [])) ≡ left_text p place
commutator_by p n b a place (Some j) (Some i) small is at h =
    let step = bind_ok (require kind.BadOrder 1 (ltb i j)) (λ _. Ok (Commutator j i)) place h in
    ap (λ (t : List ℕ). 91 ∷ (t ++ 44 ∷ (a ++ 93 ∷ []))) (name_written n b j small is)
    ∙ ap (λ (t : List ℕ). 91 ∷ (name j ++ 44 ∷ (t ++ 93 ∷ []))) (name_written n a i small at)
    ∙ ap (left_text p) (ok_same _ _ step.2)
commutator_by p n b a place (Some j) None small is at h = absurd (err_ok _ _ h)
commutator_by p n b a place None q small is at h = absurd (err_ok _ _ h)

-- the bytes of a left side
abbrev bytes_of : Left → List ℕ
bytes_of (PowerOf a digits) = a ++ 94 ∷ digits
bytes_of (CommutatorOf b a) = 91 ∷ (b ++ 44 ∷ (a ++ 93 ∷ []))

side_written : (p n : ℕ) (left : Left) (place : Place) → n ≤ MOST_GENERATORS → p ≤ 7
    → left_side (by_number p n) left ≡ Ok place → bytes_of left ≡ left_text p place
side_written p n (PowerOf a digits) place small prime h =
    power_by p n a digits place (g_generator n a) (numeral p p digits) small prime refl refl h
side_written p n (CommutatorOf b a) place small prime h =
    commutator_by p n b a place (g_generator n b) (g_generator n a) small refl refl h

no_bytes : (xs : List ℕ) → eqb (length xs) 0 ≡ true → xs ≡ []
no_bytes [] h = refl
no_bytes (x ∷ xs) h = absurd (let e : length (x ∷ xs) ≡ 0 = grind (arith, nat_tests) in omega arith)

power_shape_written : (p n : ℕ) (bytes : List ℕ) (left : Left) → power_shape (by_number p n) bytes ≡ Some left
    → bytes ≡ bytes_of left
power_shape_written p n bytes left h =
    let found = and_then_some (power_parts (by_number p n)) (cut_at 94 bytes) left h in
    let x = found.0 in
    let is = if_some (is_g_name x.0 && is_digits x.1) (Some (PowerOf x.0 x.1)) left found.2 in
    cut_written 94 bytes x found.1 ∙ ap bytes_of (some_same _ _ is.1)

commutator_shape_written : (p n : ℕ) (bytes : List ℕ) (left : Left)
    → commutator_shape (by_number p n) bytes ≡ Some left → 91 ∷ bytes ≡ bytes_of left
commutator_shape_written p n bytes left h =
    let outer = and_then_some (commutator_parts (by_number p n)) (cut_at 44 bytes) left h in
    let x = outer.0 in
    let inner = and_then_some (second_parts (by_number p n) x.0) (cut_at 93 x.1) left outer.2 in
    let y = inner.0 in
    let is = if_some (is_g_name x.0 && is_g_name y.0 && eqb (length y.1) 0)
    (Some (CommutatorOf x.0 y.0)) left inner.2 in
    let ended = no_bytes y.1 (and_parts (is_g_name x.0 && is_g_name y.0) (eqb (length y.1) 0) is.0).1 in
    ap (λ (t : List ℕ). 91 ∷ t) (cut_written 44 bytes x outer.1)
    ∙ ap (λ (t : List ℕ). 91 ∷ (x.0 ++ 44 ∷ t)) (cut_written 93 x.1 y inner.1
    ∙ ap (λ (t : List ℕ). y.0 ++ 93 ∷ t) ended)
    ∙ ap bytes_of (some_same _ _ is.1)

same_byte : (a b : ℕ) → eqb a b ≡ true → a ≡ b
same_byte a b h = grind (arith, nat_tests)

left_by : (p n c : ℕ) (bytes : List ℕ) (left : Left) (b : Bool) → eqb c 91 ≡ b
    → cond b (commutator_shape (by_number p n) bytes) (power_shape (by_number p n) (c ∷ bytes)) ≡ Some left
    → c ∷ bytes ≡ bytes_of left
left_by p n c bytes left true is h = ap (λ (d : ℕ). d ∷ bytes) (same_byte c 91 is)
    ∙ commutator_shape_written p n bytes left h
left_by p n c bytes left false is h = power_shape_written p n (c ∷ bytes) left h

left_shape_written : (p n : ℕ) (bytes : List ℕ) (left : Left) → left_shape (by_number p n) bytes ≡ Some left
    → bytes ≡ bytes_of left
left_shape_written p n [] left h = absurd (let e : None ≡ Some left = h in cc)
left_shape_written p n (c ∷ bytes) left h = left_by p n c bytes left (eqb c 91) refl h

-- lines

unless : {A : Type 0} (b : Bool) (o : Option A) (x : A) → cond b None o ≡ Some x → o ≡ Some x
unless true o x h = absurd (let e : None ≡ Some x = h in cc)
unless false o x h = h

joined_some : (column : ℕ) (o : Option Left) (q : Option (List ℕ)) (s : Shape) → joined column o q ≡ Some s
    → (o ≡ Some s.left) × (q ≡ Some s.right)
joined_some column (Some left) (Some right) s h =
    let e : record { left = left; right = right; column = column } ≡ s =
    some_same _ _ (unless (eqb (length right) 0)
    (Some (record { left = left; right = right; column = column })) s h) in
    (ap (λ (t : Shape). Some t.left) e, ap (λ (t : Shape). Some t.right) e)
joined_some column (Some left) None s h = absurd (let e : None ≡ Some s = h in cc)
joined_some column None q s h = absurd (let e : None ≡ Some s = h in cc)

shape_written : (p n : ℕ) (bytes : List ℕ) (s : Shape) → shape (by_number p n) bytes ≡ Some s
    → bytes ≡ bytes_of s.left ++ (codes " = " ++ s.right)
shape_written p n bytes s h =
    let found = and_then_some (shape_parts (by_number p n)) (cut_at 32 bytes) s h in
    let x = found.0 in
    let parts = joined_some (length x.0 + 4) (left_shape (by_number p n) x.0)
    (after_front (codes "= ") x.1) s found.2 in
    cut_written 32 bytes x found.1
    ∙ ap (λ (t : List ℕ). t ++ 32 ∷ x.1) (left_shape_written p n x.0 s.left parts.0)
    ∙ ap (λ (t : List ℕ). bytes_of s.left ++ 32 ∷ t) (front_written (codes "= ") x.1 s.right parts.1)

-- what is read as a relation is its text, and its line has an end
pub relation_written : (p n : ℕ) (earlier : List Relation) (bytes : List ℕ) (ended : Bool) (r : Relation)
    → n ≤ MOST_GENERATORS → p ≤ 7 → 1 < p → relation (by_number p n) earlier bytes ended ≡ Ok r
    → (bytes ≡ relation_text p r) × (ended ≡ true)
relation_written p n earlier bytes ended r small low prime h =
    let one = bind_ok (require kind.BadLine 1 ended) (λ _. shape_row (by_number p n) earlier bytes) r h in
    let parts = bind_ok (expect kind.BadLine 1 (shape (by_number p n) bytes))
    (side_row (by_number p n) earlier) r one.2 in
    let place = bind_ok (left_side (by_number p n) parts.0.left)
    (word_row (by_number p n) earlier parts.0) r parts.2 in
    let exponents = bind_ok (word (by_number p n) (least place.0) parts.0.column parts.0.right)
    (new_row earlier place.0) r place.2 in
    let once = bind_ok (require kind.Repeated 1 (not (stands place.0 earlier)))
    (λ _. Ok (record { place = place.0; word = exponents.0 })) r exponents.2 in
    let kept = word_kept p n (least place.0) parts.0.column parts.0.right exponents.0 prime exponents.1 in (
      shape_written p n bytes parts.0 (expect_ok kind.BadLine 1 (shape (by_number p n) bytes) parts.0 parts.1)
          ∙ ap (λ (t : List ℕ). t ++ (codes " = " ++ parts.0.right))
          (side_written p n parts.0.left place.0 small low place.1)
          ∙ ap (λ (t : List ℕ). left_text p place.0 ++ (codes " = " ++ t))
          (word_written p n (least place.0) parts.0.column parts.0.right exponents.0 small low kept
          exponents.1)
          ∙ ap (relation_text p) (ok_same _ _ once.2),
      require_ok kind.BadLine 1 ended one.0 one.1,
    )
