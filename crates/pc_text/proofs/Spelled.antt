-- What the canonical spelling gives when it is read: numerals, names, factors.
use Rattle.std.proofs.Common.{◌≡◌, ℕ, zero, suc, ◌+◌, ◌-◌, ◌<◌, ◌≤◌, ◌==◌, Bool, true, false, ◌&&◌, not, cond}
use Rattle.std.proofs.Common.{eqb, ltb, leb, List, [], ◌∷◌, ◌++◌, length, take, drop, Some, None, refl, ap}
use Rattle.std.proofs.Common.{◌∙◌, arith, eq-eqb, length-append, append_assoc}
use Rattle.std.specs.Fmt.{digits, decimal}
use Rattle.std.specs.List.{list_all, slice_split, position_or_len, join_with_byte}
use Rattle.std.proofs.lemmas.Bool.Decides.{nat_tests}
use Rattle.std.proofs.lemmas.List.{take_at, drop_at}
use Rattle.std.proofs.lemmas.List.Folds.{list_all-append}
use Rattle.limits.specs.declared.TheConstants.{MOST_GENERATORS}
use Rattle.pc_text.proofs.Steps.{and_parts}
use Rattle.pc_text.proofs.CutLemmas.{cut_some, cut_none}
use Rattle.pc_text.specs.Lines.{cut_at}
use Rattle.pc_text.specs.Numerals.{is_digit, is_digits, is_numeral, value, numeral}
use Rattle.pc_text.specs.Words.{by_number, g_generator, factor}
use Rattle.pc_text.specs.Grammar.{name, factor_text}

-- a test of each number below n
abbrev pub all_below : ℕ → (ℕ → Bool) → Bool
all_below zero p = true
all_below (suc n) p = p n && all_below n p

step_below : (n : ℕ) (p : ℕ → Bool) (k : ℕ) → k < suc n → p n ≡ true → (k < n → p k ≡ true) → (b : Bool)
    → ltb k n ≡ b → p k ≡ true
step_below n p k lt here there true e = there (grind (arith, nat_tests))
step_below n p k lt here there false e = let same : k ≡ n = grind (arith, nat_tests) in rw same here

below : (n : ℕ) (p : ℕ → Bool) → all_below n p ≡ true → (k : ℕ) → k < n → p k ≡ true
below zero p h k lt = absurd (omega arith)
below (suc n) p h k lt = let parts = and_parts (p n) (all_below n p) h in
    step_below n p k lt parts.0 (below n p parts.1 k) (ltb k n) refl

-- the numeral of a small number is digits, and is read as it
abbrev is_read : ℕ → Bool
is_read k = is_numeral (decimal k) && is_digits (decimal k) && eqb (value (decimal k)) k

all_read : all_below (suc MOST_GENERATORS) is_read ≡ true
unfolding digits
all_read = refl

pub record IsSpelled (k : ℕ) : Type 0 where
  pub numeral : is_numeral (decimal k) ≡ true
  pub digits : is_digits (decimal k) ≡ true
  pub value : value (decimal k) ≡ k

pub spelled : (k : ℕ) → k ≤ MOST_GENERATORS → IsSpelled k
spelled k small =
    let h = below (suc MOST_GENERATORS) is_read all_read k (omega arith) in
    let outer = and_parts (is_numeral (decimal k) && is_digits (decimal k)) (eqb (value (decimal k)) k) h in
    let inner = and_parts (is_numeral (decimal k)) (is_digits (decimal k)) outer.0 in
    let same : eqb (value (decimal k)) k ≡ true = outer.1 in
    record { numeral = inner.0; digits = inner.1; value = grind (arith, nat_tests) }

in_range : (low high v k : ℕ) (b : Bool) → b ≡ true → v ≡ k → low ≤ k → k ≤ high
    → cond (b && leb low v && leb v high) (Some v) None ≡ Some k
in_range low high v k b h e lo hi = rw (h, e) (grind (arith, nat_tests))

pub numeral_spelled : (low high k : ℕ) → k ≤ MOST_GENERATORS → low ≤ k → k ≤ high
    → numeral low high (decimal k) ≡ Some k
numeral_spelled low high k small lo hi = let s = spelled k small in
    in_range low high (value (decimal k)) k (is_numeral (decimal k)) s.numeral s.value lo hi

-- b is not among the bytes
abbrev pub lacks : ℕ → List ℕ → Bool
lacks b bytes = list_all (λ x. not (x == b)) bytes

pub first_absent : (b : ℕ) (xs : List ℕ) → lacks b xs ≡ true → position_or_len (λ x. x == b) xs ≡ length xs
first_absent b [] h = refl
first_absent b (x ∷ xs) h =
    let parts = and_parts (not (x == b)) (lacks b xs) h in
    rw (parts.0, first_absent b xs parts.1) (omega arith)

pub first_behind : (b : ℕ) (xs ys : List ℕ) → lacks b xs ≡ true
    → position_or_len (λ x. x == b) (xs ++ b ∷ ys) ≡ length xs
first_behind b [] ys h = let e : eqb b b ≡ true = eq-eqb b b refl in rw e refl
first_behind b (x ∷ xs) ys h =
    let parts = and_parts (not (x == b)) (lacks b xs) h in
    rw (parts.0, first_behind b xs ys parts.1) (omega arith)

no_less : (n : ℕ) (x : List ℕ × List ℕ) → cond (ltb n n) (Some x) None ≡ None
no_less n x = grind (arith, nat_tests)

yes_less : (n m : ℕ) (x : List ℕ × List ℕ) → n < m → cond (ltb n m) (Some x) None ≡ Some x
yes_less n m x h = grind (arith, nat_tests)

pub cut_absent : (b : ℕ) (xs : List ℕ) → lacks b xs ≡ true → cut_at b xs ≡ None
cut_absent b xs h = rw (first_absent b xs h)
    (no_less (length xs) (take (length xs) xs, drop (length xs + 1) xs))

after_it : (b : ℕ) (xs ys : List ℕ) → drop (length xs + 1) (xs ++ b ∷ ys) ≡ ys
after_it b xs ys =
    let e : xs ++ b ∷ ys ≡ (xs ++ b ∷ []) ++ ys = simp append_assoc in
    rw e (drop_at (xs ++ b ∷ []) ys (length xs + 1) (length-append xs (b ∷ [])))

pub cut_spelled : (b : ℕ) (xs ys : List ℕ) → lacks b xs ≡ true → cut_at b (xs ++ b ∷ ys) ≡ Some (xs, ys)
cut_spelled b xs ys h =
    let whole = xs ++ b ∷ ys in
    let lt : length xs < length whole = omega (arith, length-append xs (b ∷ ys)) in
    let halves : (take (length xs) whole, drop (length xs + 1) whole) ≡ (xs, ys) =
    rw (take_at xs (b ∷ ys) (length xs) refl, after_it b xs ys) refl in
    rw (first_behind b xs ys h) (yes_less (length xs) (length whole) (
      take (length xs) whole,
      drop (length xs + 1) whole,
    ) lt ∙ ap (λ (x : List ℕ × List ℕ). Some x) halves)

pub lacks_from_digits : (b : ℕ) → ((x : ℕ) → is_digit x ≡ true → not (x == b) ≡ true) → (xs : List ℕ)
    → list_all is_digit xs ≡ true → lacks b xs ≡ true
lacks_from_digits b other [] h = refl
lacks_from_digits b other (x ∷ xs) h =
    let parts = and_parts (is_digit x) (list_all is_digit xs) h in
    rw (other x parts.0, lacks_from_digits b other xs parts.1) refl

pub digits_all : (xs : List ℕ) → is_digits xs ≡ true → list_all is_digit xs ≡ true
digits_all xs h = (and_parts (not (length xs == 0)) (list_all is_digit xs) h).1

-- a byte that is no digit
abbrev pub NoDigit : ℕ → Type 0
NoDigit b = (x : ℕ) → is_digit x ≡ true → not (x == b) ≡ true

pub line_feed_no_digit : NoDigit 10
line_feed_no_digit x h = grind (arith, nat_tests)

pub space_no_digit : NoDigit 32
space_no_digit x h = grind (arith, nat_tests)

pub star_no_digit : NoDigit 42
star_no_digit x h = grind (arith, nat_tests)

pub comma_no_digit : NoDigit 44
comma_no_digit x h = grind (arith, nat_tests)

pub bracket_no_digit : NoDigit 93
bracket_no_digit x h = grind (arith, nat_tests)

pub caret_no_digit : NoDigit 94
caret_no_digit x h = grind (arith, nat_tests)

pub decimal_lacks : (b k : ℕ) → NoDigit b → k ≤ MOST_GENERATORS → lacks b (decimal k) ≡ true
decimal_lacks b k other small = lacks_from_digits b other (decimal k)
    (digits_all (decimal k) (spelled k small).digits)

pub generator_spelled : (n k : ℕ) → n ≤ MOST_GENERATORS → 0 < k → k ≤ n → g_generator n (name k) ≡ Some k
generator_spelled n k small pos le = numeral_spelled 1 n k (omega arith) pos le

factor_by : (p n k e : ℕ) → n ≤ MOST_GENERATORS → p ≤ 7 → 0 < k → k ≤ n → 0 < e → e < p → (b : Bool)
    → eqb e 1 ≡ b → factor (by_number p n) (cond b (name k) (name k ++ (94 ∷ decimal e))) ≡ Some (k, e)
factor_by p n k e small prime pos le nonzero below true is_one =
    let one : e ≡ 1 = grind (arith, nat_tests) in
    rw (
      cut_absent 94 (name k) (decimal_lacks 94 k caret_no_digit (omega arith)),
      generator_spelled n k small pos le,
      one,
    ) refl
factor_by p n k e small prime pos le nonzero below false is_more =
    let more : 2 ≤ e = grind (arith, nat_tests) in
    rw (
      cut_spelled 94 (name k) (decimal e) (decimal_lacks 94 k caret_no_digit (omega arith)),
      generator_spelled n k small pos le,
      numeral_spelled 2 (p - 1) e (omega arith) more (omega arith),
    ) refl

pub factor_spelled : (p n k e : ℕ) → n ≤ MOST_GENERATORS → p ≤ 7 → 0 < k → k ≤ n → 0 < e → e < p
    → factor (by_number p n) (factor_text k e) ≡ Some (k, e)
factor_spelled p n k e small prime pos le nonzero below =
    factor_by p n k e small prime pos le nonzero below (eqb e 1) refl

-- a byte that no factor has
pub record IsOther (b : ℕ) : Type 0 where
  pub digit : NoDigit b
  pub letter : not (103 == b) ≡ true
  pub caret : not (94 == b) ≡ true

pub star_other : IsOther 42
star_other = record { digit = star_no_digit; letter = refl; caret = refl }

pub line_feed_other : IsOther 10
line_feed_other = record { digit = line_feed_no_digit; letter = refl; caret = refl }

pub name_lacks : (b k : ℕ) → IsOther b → k ≤ MOST_GENERATORS → lacks b (name k) ≡ true
name_lacks b k other small = rw (other.letter, decimal_lacks b k other.digit small) refl

piece_by : (b k e : ℕ) → IsOther b → k ≤ MOST_GENERATORS → e ≤ MOST_GENERATORS → (t : Bool)
    → lacks b (cond t (name k) (name k ++ (94 ∷ decimal e))) ≡ true
piece_by b k e other small low true = name_lacks b k other small
piece_by b k e other small low false =
    rw (
      list_all-append (λ x. not (x == b)) (name k) (94 ∷ decimal e),
      name_lacks b k other small,
      other.caret,
      decimal_lacks b e other.digit low,
    ) refl

pub piece_lacks : (b k e : ℕ) → IsOther b → k ≤ MOST_GENERATORS → e ≤ MOST_GENERATORS
    → lacks b (factor_text k e) ≡ true
piece_lacks b k e other small low = piece_by b k e other small low (eqb e 1)

-- the pieces of joined pieces
pub split_join : (x : List ℕ) (xs : List (List ℕ)) → list_all (lacks 42) (x ∷ xs) ≡ true
    → slice_split (λ b. b == 42) (join_with_byte 42 (x ∷ xs)) ≡ x ∷ xs
split_join x [] h = cut_none 42 x (cut_absent 42 x (and_parts (lacks 42 x) true h).0)
split_join x (y ∷ xs) h =
    let parts = and_parts (lacks 42 x) (list_all (lacks 42) (y ∷ xs)) h in
    cut_some 42 (x ++ (42 ∷ join_with_byte 42 (y ∷ xs))) (
      x,
      join_with_byte 42 (y ∷ xs),
    ) (cut_spelled 42 x (join_with_byte 42 (y ∷ xs)) parts.0)
    ∙ ap (λ (ps : List (List ℕ)). x ∷ ps) (split_join y xs parts.1)
