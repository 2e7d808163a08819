-- What is read as a numeral, a factor or a word is the text of that numeral, factor or word.
use Rattle.std.proofs.Common.{◌≡◌, ◌≢◌, ℕ, zero, suc, ◌+◌, ◌-◌, ◌*◌, ◌/◌, ◌%◌, ◌<◌, ◌≤◌, ◌==◌, ◌&&◌, Bool}
use Rattle.std.proofs.Common.{true, false, not, cond, eqb, leb, List, [], ◌∷◌, ◌++◌, length, take, drop, set}
use Rattle.std.proofs.Common.{get_or, replicate, Option, Some, None, Ok, refl, sym, subst, ap, ◌∙◌, arith}
use Rattle.std.proofs.Common.{length-set, length-drop, get_or-set_same, get_or-set_other}
use Rattle.std.specs.Prelude.{bytes_eq, codes}
use Rattle.std.specs.Fmt.{decimal}
use Rattle.std.specs.List.{list_all, list_any, slice_split, join_with_byte, starts_with}
use Rattle.std.proofs.lemmas.Bool.Decides.{nat_tests}
use Rattle.std.proofs.lemmas.Fmt.{decimal_digit, decimal_step}
use Rattle.std.proofs.lemmas.List.{take-append-drop, length-replicate, drop-drop}
use Rattle.std.proofs.lemmas.List.Splits.{join_with_byte-slice_split}
use Rattle.std.proofs.lemmas.Slice.Eq.{bytes_eq-Decides}
use Rattle.limits.specs.declared.TheConstants.{MOST_GENERATORS}
use Rattle.pc_text.specs.declared.fault.Kind.TheVariants as kind
use Rattle.power_commutator.specs.Presentations.{IsWord}
use Rattle.pc_text.specs.Faults.{expect}
use Rattle.pc_text.specs.Lines.{cut_at, after_front}
use Rattle.pc_text.specs.Numerals.{is_digit, value, numeral}
use Rattle.pc_text.specs.Words.{by_number, g_generator, Factor, factor_parts, factor, above, factors, word}
use Rattle.pc_text.specs.Grammar.{name, factor_text, factor_texts, word_text}
use Rattle.pc_text.proofs.Steps.{bind_ok, expect_ok, if_some, some_same, ok_same, and_parts}
use Rattle.pc_text.proofs.SpelledWords.{none_of}
use Rattle.pc_text.proofs.CutLemmas.{cut_some}
use Rattle.pc_text.proofs.LineLemmas.{has_part_at}
use Rattle.pc_text.proofs.NumeralLemmas.{numeral_long}
use Rattle.pc_text.proofs.Kept.{numeral_range, generator_range, both_some, above_some}

-- cuts

joined_by : (b : ℕ) (x rest : List ℕ) (parts : List (List ℕ))
    → ((y : List ℕ) × (ys : List (List ℕ)) × (parts ≡ y ∷ ys)) → join_with_byte b parts ≡ rest
    → join_with_byte b (x ∷ parts) ≡ x ++ b ∷ rest
joined_by b x rest parts some join =
    ap (λ (ps : List (List ℕ)). join_with_byte b (x ∷ ps)) some.2
    ∙ ap (λ (t : List ℕ). x ++ b ∷ t) (ap (join_with_byte b) (sym some.2) ∙ join)

pub cut_written : (b : ℕ) (bytes : List ℕ) (x : List ℕ × List ℕ) → cut_at b bytes ≡ Some x
    → bytes ≡ x.0 ++ b ∷ x.1
cut_written b bytes x h =
    sym (join_with_byte-slice_split b bytes)
    ∙ ap (join_with_byte b) (cut_some b bytes x h)
    ∙ joined_by b x.0 x.1 (slice_split (λ y. y == b) x.1) (has_part_at b x.1)
    (join_with_byte-slice_split b x.1)

pub bytes_same : (xs ys : List ℕ) → bytes_eq xs ys ≡ true → xs ≡ ys
bytes_same xs ys h = (bytes_eq-Decides xs ys).0 h

pub front_written : (front bytes rest : List ℕ) → after_front front bytes ≡ Some rest → bytes ≡ front ++ rest
front_written front bytes rest h =
    let found = if_some (starts_with eqb bytes front) (Some (drop (length front) bytes)) rest h in
    let same = bytes_same front (take (length front) bytes) found.0 in
    let after : drop (length front) bytes ≡ rest = some_same _ _ found.1 in
    sym (take-append-drop (length front) bytes)
    ∙ ap (λ (t : List ℕ). t ++ drop (length front) bytes) (sym same)
    ∙ ap (λ (t : List ℕ). front ++ t) after

-- numerals

digit_is : (b k : ℕ) → is_digit b ≡ true → 10 * 0 + (b - 48) ≡ k → (b ≡ 48 + k) × (k < 10)
digit_is b k h e = let low : 48 ≤ b = grind (arith, nat_tests) in let high : b ≤ 57 =
    grind (arith, nat_tests) in (omega arith, omega arith)

record TwoDigits (b c k : ℕ) : Type 0 where
  first : b ≡ 48 + k / 10
  second : c ≡ 48 + k % 10
  low : 10 ≤ k
  high : k < 100

two_are : (b c k : ℕ) → is_digit b ≡ true → not (eqb b 48) ≡ true → is_digit c ≡ true
    → 10 * (10 * 0 + (b - 48)) + (c - 48) ≡ k → TwoDigits b c k
two_are b c k hb nz hc e =
    let b_low : 48 ≤ b = grind (arith, nat_tests) in
    let b_high : b ≤ 57 = grind (arith, nat_tests) in
    let b_not : b ≢ 48 = grind (arith, nat_tests) in
    let c_low : 48 ≤ c = grind (arith, nat_tests) in
    let c_high : c ≤ 57 = grind (arith, nat_tests) in
    record { first = omega arith; second = omega arith; low = omega arith; high = omega arith }

pub numeral_written : (low high : ℕ) (bytes : List ℕ) (k : ℕ) → high < 100 → numeral low high bytes ≡ Some k
    → bytes ≡ decimal k
numeral_written low high [] k small h = absurd (let e : None ≡ Some k = h in cc)
numeral_written low high (b ∷ []) k small h =
    let found = if_some (is_digit b && leb low (value (b ∷ [])) && leb (value (b ∷ [])) high)
    (Some (value (b ∷ []))) k h in
    let outer = and_parts (is_digit b && leb low (value (b ∷ []))) (leb (value (b ∷ [])) high) found.0 in
    let inner = and_parts (is_digit b) (leb low (value (b ∷ []))) outer.0 in
    let is = digit_is b k inner.0 (some_same _ _ found.1) in
    ap (λ (d : ℕ). d ∷ []) is.0 ∙ sym (decimal_digit k is.1)
numeral_written low high (b ∷ c ∷ []) k small h =
    let v = value (b ∷ c ∷ []) in
    let found = if_some (is_digit b && not (eqb b 48) && list_all is_digit
    (c ∷ []) && leb low v && leb v high) (Some v) k h in
    let one = and_parts (is_digit b && not (eqb b 48) && list_all is_digit (c ∷ []) && leb low v)
    (leb v high) found.0 in
    let two = and_parts (is_digit b && not (eqb b 48) && list_all is_digit (c ∷ [])) (leb low v) one.0 in
    let three = and_parts (is_digit b && not (eqb b 48)) (list_all is_digit (c ∷ [])) two.0 in
    let four = and_parts (is_digit b) (not (eqb b 48)) three.0 in
    let is = two_are b c k four.0 four.1 (and_parts (is_digit c) true three.1).0 (some_same _ _ found.1) in
    let tens : k / 10 < 10 = let l = is.high in omega arith in
    let low = is.low in
    let high = is.high in
    ap (λ (d : ℕ). d ∷ c ∷ []) is.first ∙ ap (λ (d : ℕ). (48 + k / 10) ∷ d ∷ []) is.second
    ∙ ap (λ (t : List ℕ). t ++ (48 + k % 10) ∷ []) (sym (decimal_digit (k / 10) tens))
    ∙ sym (decimal_step k low (omega arith))
numeral_written low high (b ∷ c ∷ d ∷ bytes) k small h =
    absurd (let e : None ≡ Some k = sym (numeral_long low high (b ∷ c ∷ d ∷ bytes) small (omega arith))
    ∙ h in cc)

-- names and factors

same_bytes : (a b : ℕ) → eqb a b ≡ true → a ≡ b
same_bytes a b h = grind (arith, nat_tests)

pub name_written : (n : ℕ) (bytes : List ℕ) (k : ℕ) → n ≤ MOST_GENERATORS → g_generator n bytes ≡ Some k
    → bytes ≡ name k
name_written n [] k small h = absurd (let e : None ≡ Some k = h in cc)
name_written n (b ∷ digits) k small h =
    let found = if_some (eqb b 103) (numeral 1 n digits) k h in
    ap (λ (c : ℕ). c ∷ digits) (same_bytes b 103 found.0)
    ∙ ap (λ (t : List ℕ). 103 ∷ t) (numeral_written 1 n digits k (omega arith) found.1)

more_than_one : (k e : ℕ) → 2 ≤ e → factor_text k e ≡ name k ++ (94 ∷ decimal e)
more_than_one k e h = let ne : eqb e 1 ≡ false = grind (arith, nat_tests) in rw ne refl

parts_written : (p n : ℕ) (piece : List ℕ) (cut : Option (List ℕ × List ℕ)) (f : Factor) → n ≤ MOST_GENERATORS
    → p ≤ 7 → cut_at 94 piece ≡ cut → factor_parts (by_number p n) piece cut ≡ Some f
    → (piece ≡ factor_text f.0 f.1) × (0 < f.1)
parts_written p n piece (Some x) f small prime is h =
    let found = both_some (g_generator n x.0) (numeral 2 (p - 1) x.1) f h in
    let range = numeral_range 2 (p - 1) x.1 f.1 found.1 in
    let two = range.0 in (
      cut_written 94 piece x is
          ∙ ap (λ (t : List ℕ). t ++ 94 ∷ x.1) (name_written n x.0 f.0 small found.0)
          ∙ ap (λ (t : List ℕ). name f.0 ++ 94 ∷ t) (numeral_written 2 (p - 1) x.1 f.1 (omega arith) found.1)
          ∙ sym (more_than_one f.0 f.1 two),
      omega arith,
    )
parts_written p n piece None f small prime is h =
    let found = both_some (g_generator n piece) (Some 1) f h in
    let one : 1 ≡ f.1 = some_same _ _ found.1 in
    (name_written n piece f.0 small found.0 ∙ ap (factor_text f.0) one, omega arith)

pub factor_written : (p n : ℕ) (piece : List ℕ) (f : Factor) → n ≤ MOST_GENERATORS → p ≤ 7
    → factor (by_number p n) piece ≡ Some f → (piece ≡ factor_text f.0 f.1) × (0 < f.1)
factor_written p n piece f small prime h = parts_written p n piece (cut_at 94 piece) f small prime refl h

parts_index : (p n : ℕ) (piece : List ℕ) (cut : Option (List ℕ × List ℕ)) (f : Factor)
    → factor_parts (by_number p n) piece cut ≡ Some f → f.0 ≤ n
parts_index p n piece (Some x) f h = (generator_range n x.0 f.0
    (both_some (g_generator n x.0) (numeral 2 (p - 1) x.1) f h).0).1
parts_index p n piece None f h = (generator_range n piece f.0
    (both_some (g_generator n piece) (Some 1) f h).0).1

factor_index : (p n : ℕ) (piece : List ℕ) (f : Factor) → factor (by_number p n) piece ≡ Some f → f.0 ≤ n
factor_index p n piece f h = parts_index p n piece (cut_at 94 piece) f h

-- words

no_factor : (j e : ℕ) (w : List ℕ) → e ≡ 0 → factor_texts j (e ∷ w) ≡ factor_texts (suc j) w
no_factor j e w h = rw h refl

some_factor : (j e : ℕ) (w : List ℕ) → 0 < e
    → factor_texts j (e ∷ w) ≡ factor_text j e ∷ factor_texts (suc j) w
some_factor j e w h = let ne : eqb e 0 ≡ false = grind (arith, nat_tests) in rw ne refl

pub zero_texts : (j : ℕ) (w : List ℕ) → ((i : ℕ) → get_or w i 0 ≡ 0) → factor_texts j w ≡ []
zero_texts j [] h = refl
zero_texts j (e ∷ w) h = no_factor j e w (h 0) ∙ zero_texts (suc j) w (λ i. h (suc i))

-- the texts of the factors behind m exponents 0
skip_zeros : (j m : ℕ) (w : List ℕ) → ((i : ℕ) → i < m → get_or w i 0 ≡ 0)
    → factor_texts j w ≡ factor_texts (j + m) (drop m w)
skip_zeros j zero w h = let z : j + 0 ≡ j = omega arith in rw z refl
skip_zeros j (suc m) [] h = refl
skip_zeros j (suc m) (e ∷ w) h =
    let z : suc j + m ≡ j + suc m = omega arith in
    no_factor j e w (h 0 (omega arith)) ∙ skip_zeros (suc j) m w (λ i lt. h (suc i) (omega arith)) ∙ rw z refl

first_factor : (j : ℕ) (w : List ℕ) → 0 < length w → 0 < get_or w 0 0
    → factor_texts j w ≡ factor_text j (get_or w 0 0) ∷ factor_texts (suc j) (drop 1 w)
first_factor j [] long h = absurd (omega arith)
first_factor j (e ∷ w) long h = some_factor j e w h

get_drop : (a i : ℕ) (xs : List ℕ) → get_or (drop a xs) i 0 ≡ get_or xs (a + i) 0
get_drop zero i xs = let z : 0 + i ≡ i = omega arith in rw z refl
get_drop (suc a) i [] = refl
get_drop (suc a) i (x ∷ xs) = let z : suc a + i ≡ suc (a + i) = omega arith in rw z (get_drop a i xs)

-- the pieces that are left are the factors behind last, and the exponents up to last stay
pub record AreWritten (last : ℕ) (exponents w : List ℕ) (pieces : List (List ℕ)) : Type 0 where
  pub texts : pieces ≡ factor_texts (suc last) (drop last w)
  pub front : (i : ℕ) → i < last → get_or w i 0 ≡ get_or exponents i 0
  pub len : length w ≡ length exponents

written_step : (last k e : ℕ) (exponents w piece : List ℕ) (pieces : List (List ℕ)) → last < k
    → k ≤ length exponents → 0 < e → piece ≡ factor_text k e
    → ((i : ℕ) → last ≤ i → get_or exponents i 0 ≡ 0) → AreWritten k (set exponents (k - 1) e) w pieces
    → AreWritten last exponents w (piece ∷ pieces)
written_step last k e exponents w piece pieces lt le pos is zeros are = record {
  texts =
      let m = k - 1 - last in
      let v = drop last w in
      let at : suc last + m ≡ k = omega arith in
      let before : drop m v ≡ drop (k - 1) w = drop-drop m last w ∙ ap (λ i. drop i w) (omega arith) in
      let here : get_or (drop (k - 1) w) 0 0 ≡ e =
      get_drop (k - 1) 0 w ∙ ap (λ i. get_or w i 0) (let z : k - 1 + 0 ≡ k - 1 = omega arith in z)
      ∙ are.front (k - 1) (omega arith) ∙ get_or-set_same exponents (k - 1) e 0 (omega arith) in
      let long : 0 < length (drop (k - 1) w) =
      omega (arith, length-drop (k - 1) w, are.len, length-set exponents (k - 1) e) in
      let after : drop 1 (drop (k - 1) w) ≡ drop k w = drop-drop 1 (k - 1) w
      ∙ ap (λ i. drop i w) (omega arith) in
      sym (skip_zeros (suc last) m v
      (λ i low. get_drop last i w ∙ are.front (last + i) (omega (arith, low))
      ∙ get_or-set_other exponents (k - 1) (last + i) e 0 (omega (arith, low))
      ∙ zeros (last + i) (omega arith))
      ∙ ap (λ j. factor_texts j (drop m v)) at ∙ ap (factor_texts k) before
      ∙ first_factor k (drop (k - 1) w) long (rw here pos)
      ∙ ap (λ d. factor_text k d ∷ factor_texts (suc k) (drop 1 (drop (k - 1) w))) here
      ∙ ap (λ t. t ∷ factor_texts (suc k) (drop 1 (drop (k - 1) w))) (sym is)
      ∙ ap (λ v. piece ∷ factor_texts (suc k) v) after
      ∙ ap (λ (ps : List (List ℕ)). piece ∷ ps) (sym are.texts));
  front = λ i low. are.front i (omega (arith, low, lt))
      ∙ get_or-set_other exponents (k - 1) i e 0 (omega (arith, low, lt));
  len = are.len ∙ length-set exponents (k - 1) e;
}

pub factors_written : (p n last column : ℕ) (exponents w : List ℕ) (pieces : List (List ℕ))
    → n ≤ MOST_GENERATORS → p ≤ 7 → length exponents ≡ n → ((i : ℕ) → last ≤ i → get_or exponents i 0 ≡ 0)
    → factors (by_number p n) last column exponents pieces ≡ Ok w → AreWritten last exponents w pieces
factors_written p n last column exponents w [] small prime len zeros h =
    subst (λ v. AreWritten last exponents v []) (ok_same _ _ h) (record {
      texts = sym (zero_texts (suc last) (drop last exponents) (λ i. get_drop last i exponents
          ∙ zeros (last + i) (omega arith)));
      front = λ i lt. refl;
      len = refl;
    })
factors_written p n last column exponents w (piece ∷ pieces) small prime len zeros h =
    let step = bind_ok (expect kind.BadWord column (above last (factor (by_number p n) piece)))
    (λ f. factors (by_number p n) f.0 (column + length piece + 1)
    (set exponents (f.0 - 1) f.1) pieces) w h in
    let f = step.0 in
    let found = above_some last (factor (by_number p n) piece) f (expect_ok kind.BadWord column _ f step.1) in
    let lt = found.1 in
    let is = factor_written p n piece f small prime found.0 in
    let le = factor_index p n piece f found.0 in
    written_step last f.0 f.1 exponents w piece pieces lt (omega (arith, le, len)) is.1 is.0 zeros
    (factors_written p n f.0 (column + length piece + 1) (set exponents (f.0 - 1) f.1) w pieces small prime
    (length-set exponents (f.0 - 1) f.1 ∙ len)
    (λ i low. get_or-set_other exponents (f.0 - 1) i f.1 0 (omega (arith, low, lt))
    ∙ zeros i (omega (arith, low, lt))) step.2)

zeros_at : (n i : ℕ) → ◌≡◌ {A = ℕ} (get_or (replicate n 0) i 0) 0
zeros_at zero i = refl
zeros_at (suc n) zero = refl
zeros_at (suc n) (suc i) = zeros_at n i

nonempty : (j : ℕ) (w : List ℕ) → list_any (λ e. not (e == 0)) w ≡ false → factor_texts j w ≡ []
nonempty j [] h = refl
nonempty j (e ∷ w) h =
    let parts = none_of e (list_any (λ e. not (e == 0)) w) h in
    no_factor j e w parts.0 ∙ nonempty (suc j) w parts.1

no_some : (n : ℕ) → list_any (λ e. not (e == 0)) (replicate n 0) ≡ false
no_some zero = refl
no_some (suc n) = no_some n

empty_text : (n : ℕ) → 49 ∷ [] ≡ word_text (replicate n 0)
empty_text n = rw (no_some n) refl

text_by : (w : List ℕ) (x : List ℕ) (xs : List (List ℕ)) → factor_texts 1 w ≡ x ∷ xs → (b : Bool)
    → list_any (λ e. not (e == 0)) w ≡ b
    → join_with_byte 42 (factor_texts 1 w) ≡ cond (not b) (49 ∷ []) (join_with_byte 42 (factor_texts 1 w))
text_by w x xs some true is = refl
text_by w x xs some false is = absurd (let e : [] ≡ x ∷ xs = sym (nonempty 1 w is) ∙ some in cc)

word_by : (p n least column : ℕ) (bytes w : List ℕ) → n ≤ MOST_GENERATORS → p ≤ 7 → IsWord p n least w
    → (b : Bool) → bytes_eq bytes (49 ∷ []) ≡ b
    → cond b (Ok (replicate n 0)) (factors (by_number p n) least column (replicate n 0)
    (slice_split (λ x. x == 42) bytes)) ≡ Ok w → bytes ≡ word_text w
word_by p n least column bytes w small prime is true one h =
    bytes_same bytes (49 ∷ []) one ∙ empty_text n ∙ ap word_text (ok_same _ _ h)
word_by p n least column bytes w small prime is false one h =
    let are = factors_written p n least column (replicate n 0) w
    (slice_split (λ x. x == 42) bytes) small prime (length-replicate n 0) (λ i le. zeros_at n i) h in
    let all : slice_split (λ x. x == 42) bytes ≡ factor_texts 1 w =
    are.texts ∙ ap (λ j. factor_texts j (drop least w)) (let z : suc least ≡ 1 + least = omega arith in z)
    ∙ sym (skip_zeros 1 least w is.later) in
    let part = has_part_at 42 bytes in
    sym (join_with_byte-slice_split 42 bytes) ∙ ap (join_with_byte 42) all
    ∙ text_by w part.0 part.1 (sym all ∙ part.2) (list_any (λ e. not (e == 0)) w) refl

-- what is read as a word is the text of that word
pub word_written : (p n least column : ℕ) (bytes w : List ℕ) → n ≤ MOST_GENERATORS → p ≤ 7
    → IsWord p n least w → word (by_number p n) least column bytes ≡ Ok w → bytes ≡ word_text w
word_written p n least column bytes w small prime is h =
    word_by p n least column bytes w small prime is (bytes_eq bytes (codes "1")) refl h
