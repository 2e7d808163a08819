-- The canonical spelling of a word is read as that word.
use Rattle.std.proofs.Common.{◌≡◌, ℕ, suc, ◌+◌, ◌-◌, ◌<◌, ◌≤◌, ◌==◌, Bool, true, false, ◌||◌, not, cond, eqb}
use Rattle.std.proofs.Common.{List, [], ◌∷◌, ◌++◌, length, set, replicate, get_or, All, ◌⊎◌, inl, inr, Some}
use Rattle.std.proofs.Common.{Ok, refl, sym, ap, ◌∙◌, arith, append_assoc, length-append}
use Rattle.std.specs.Prelude.{bytes_eq}
use Rattle.std.specs.Fmt.{decimal}
use Rattle.std.specs.List.{list_all, list_any, join_with_byte}
use Rattle.std.proofs.Math.Seq.{set-append_seam}
use Rattle.std.proofs.lemmas.Bool.Decides.{nat_tests}
use Rattle.std.proofs.lemmas.List.Folds.{list_all-append}
use Rattle.limits.specs.declared.TheConstants.{MOST_GENERATORS}
use Rattle.pc_text.specs.Words.{Naming, by_number, factor, above, factors, word}
use Rattle.power_commutator.specs.Presentations.{IsWord}
use Rattle.power_commutator.proofs.Cyclic.{less-or}
use Rattle.pc_text.specs.Grammar.{name, factor_text, factor_texts, is_empty_word, word_text}
use Rattle.pc_text.proofs.Steps.{and_parts}
use Rattle.pc_text.proofs.Spelled.{lacks, IsOther, star_other, line_feed_other, factor_spelled, piece_lacks}
use Rattle.pc_text.proofs.Spelled.{split_join}

-- exponents of the generators k, k + 1 and so on: below p, and 0 for those up to last
abbrev pub Fit : ℕ → ℕ → ℕ → List ℕ → Type 0
Fit p last k [] = Unit {0}
Fit p last k (e ∷ w) = (e < p) × (0 < e → last < k) × Fit p last (suc k) w

fit_raise : (p last later k : ℕ) (w : List ℕ) → later < k → Fit p last k w → Fit p later k w
fit_raise p last later k [] lt h = tt
fit_raise p last later k (e ∷ w) lt h = (h.0, λ _. lt, fit_raise p last later (suc k) w (omega arith) h.2)

above_it : (last k e : ℕ) → last < k → above last (Some (k, e)) ≡ Some (k, e)
above_it last k e h = grind (arith, nat_tests)

factors_step : (names : Naming) (last at k e : ℕ) (ex piece : List ℕ) (pieces : List (List ℕ))
    → above last (factor names piece) ≡ Some (k, e)
    → factors names last at ex (piece ∷ pieces) ≡ factors names k (at + length piece + 1)
    (set ex (k - 1) e) pieces
factors_step names last at k e ex piece pieces some = rw some refl

regroup : (xs : List ℕ) (a : ℕ) (ys : List ℕ) → (xs ++ a ∷ []) ++ ys ≡ xs ++ a ∷ ys
regroup xs a ys = simp append_assoc

-- from here on the pieces give the exponents w
abbrev Reads : ℕ → ℕ → ℕ → ℕ → ℕ → List ℕ → List ℕ → List (List ℕ) → Type 0
Reads p n k last col front w pieces = factors (by_number p n) last col
    (front ++ replicate (length w) 0) pieces ≡ Ok (front ++ w)

by_exponent : (p n k last col e : ℕ) (front w : List ℕ) → n ≤ MOST_GENERATORS → p ≤ 7 → 0 < k
    → length front + 1 ≡ k → length front + suc (length w) ≡ n → e < p → (0 < e → last < k)
    → ((l c : ℕ) → (l ≡ last) → Reads p n (suc k) l c (front ++ e ∷ []) w (factor_texts (suc k) w))
    → ((c : ℕ) → Reads p n (suc k) k c (front ++ e ∷ []) w (factor_texts (suc k) w))
    → (b : Bool) → eqb e 0 ≡ b → Reads p n k last col front (e ∷ w)
    (cond b (factor_texts (suc k) w) (factor_text k e ∷ factor_texts (suc k) w))
by_exponent p n k last col e front w small prime pos at len low after skipped taken true is =
    let zero_e : e ≡ 0 = grind (arith, nat_tests) in
    let from : front ++ (0 ∷ replicate (length w) 0) ≡ (front ++ e ∷ []) ++ replicate (length w) 0 =
    rw zero_e (sym (regroup front 0 (replicate (length w) 0))) in
    rw from (skipped last col refl ∙ ap (λ (v : List ℕ). Ok v) (regroup front e w))
by_exponent p n k last col e front w small prime pos at len low after skipped taken false is =
    let pos_e : 0 < e = grind (arith, nat_tests) in
    let place : k - 1 ≡ length front = omega arith in
    let written : set (front ++ 0 ∷ replicate (length w) 0) (k - 1) e ≡ (front ++ e ∷ []) ++ replicate
    (length w) 0 =
    rw place (set-append_seam front 0 (replicate (length w) 0) e
    ∙ sym (regroup front e (replicate (length w) 0))) in
    let step = factors_step (by_number p n) last col k e (front ++ 0 ∷ replicate (length w) 0)
    (factor_text k e) (factor_texts (suc k) w)
    (ap (above last) (factor_spelled p n k e small prime pos (omega arith) pos_e low)
    ∙ above_it last k e (after pos_e)) in
    step ∙ ap (λ (v : List ℕ). factors (by_number p n) k (col + length (factor_text k e) + 1) v
    (factor_texts (suc k) w)) written ∙ taken (col + length (factor_text k e) + 1)
    ∙ ap (λ (v : List ℕ). Ok v) (regroup front e w)

longer : (front : List ℕ) (e k : ℕ) → length front + 1 ≡ k → length (front ++ e ∷ []) + 1 ≡ suc k
longer front e k h = omega (arith, length-append front (e ∷ []))

still : (front w : List ℕ) (e n : ℕ) → length front + suc (length w) ≡ n
    → length (front ++ e ∷ []) + length w ≡ n
still front w e n h = omega (arith, length-append front (e ∷ []))

nothing : (front : List ℕ) → front ++ [] ≡ front
nothing [] = refl
nothing (x ∷ front) = ap (λ (v : List ℕ). x ∷ v) (nothing front)

pub factors_spelled : (p n k last col : ℕ) (front w : List ℕ) → n ≤ MOST_GENERATORS → p ≤ 7 → 0 < k
    → length front + 1 ≡ k → length front + length w ≡ n → Fit p last k w
    → factors (by_number p n) last col (front ++ replicate (length w) 0) (factor_texts k w) ≡ Ok (front ++ w)
factors_spelled p n k last col front [] small prime pos at len fit = refl
factors_spelled p n k last col front (e ∷ w) small prime pos at len fit =
    by_exponent p n k last col e front w small prime pos at len fit.0 fit.1
    (λ l c same. factors_spelled p n (suc k) l c (front ++ e ∷ []) w small prime (omega arith)
    (longer front e k at) (still front w e n len) (rw same fit.2))
    (λ c. factors_spelled p n (suc k) k c (front ++ e ∷ []) w small prime (omega arith) (longer front e k at)
    (still front w e n len) (fit_raise p last k (suc k) w (omega arith) fit.2))
    (eqb e 0) refl

begins_by : (k e : ℕ) (b : Bool) → (x : List ℕ) × (cond b (name k) (name k ++ (94 ∷ decimal e)) ≡ 103 ∷ x)
begins_by k e true = (decimal k, refl)
begins_by k e false = (decimal k ++ (94 ∷ decimal e), refl)

not_one : (x : List ℕ) (xs : List (List ℕ)) → bytes_eq (join_with_byte 42 ((103 ∷ x) ∷ xs)) (49 ∷ []) ≡ false
not_one x [] = refl
not_one x (y ∷ xs) = refl

all_lack_by : (b k e : ℕ) (others : List (List ℕ)) → IsOther b → k ≤ MOST_GENERATORS → e ≤ MOST_GENERATORS
    → list_all (lacks b) others ≡ true → (t : Bool)
    → list_all (lacks b) (cond t others (factor_text k e ∷ others)) ≡ true
all_lack_by b k e others other small low h true = h
all_lack_by b k e others other small low h false = rw (piece_lacks b k e other small low, h) refl

pub all_lack : (b p last k : ℕ) (w : List ℕ) → IsOther b → p ≤ 7 → k + length w ≤ suc MOST_GENERATORS
    → Fit p last k w → list_all (lacks b) (factor_texts k w) ≡ true
all_lack b p last k [] other prime len fit = refl
all_lack b p last k (e ∷ w) other prime len fit =
    all_lack_by b k e (factor_texts (suc k) w) other (omega arith) (let low : e < p = fit.0 in omega arith)
    (all_lack b p last (suc k) w other prime (omega arith) fit.2) (eqb e 0)

-- the pieces of a word that is not empty: the first begins with `g`
abbrev pub Begins : List (List ℕ) → Type 0
Begins pieces = (x : List ℕ) × (xs : List (List ℕ)) × (pieces ≡ (103 ∷ x) ∷ xs)

begins_piece : (k e : ℕ) (others : List (List ℕ)) → Begins (factor_text k e ∷ others)
begins_piece k e others = let h = begins_by k e (eqb e 1) in
    (h.0, others, ap (λ (x : List ℕ). x ∷ others) h.1)

begins_cond : (k e : ℕ) (others : List (List ℕ)) (rest : Bool) (b : Bool) → (not b || rest) ≡ true
    → (rest ≡ true → Begins others) → Begins (cond b others (factor_text k e ∷ others))
begins_cond k e others rest true h more = more h
begins_cond k e others rest false h more = begins_piece k e others

pub begins : (k : ℕ) (w : List ℕ) → list_any (λ e. not (e == 0)) w ≡ true → Begins (factor_texts k w)
begins k [] h = absurd (let e : false ≡ true = h in cc)
begins k (e ∷ w) h = begins_cond k e (factor_texts (suc k) w) (list_any (λ e. not (e == 0)) w) (eqb e 0) h
    (begins (suc k) w)

long : (x : List ℕ) (xs : List (List ℕ)) → 0 < length (join_with_byte 42 ((103 ∷ x) ∷ xs))
long x [] = omega arith
long x (y ∷ xs) = omega arith

word_by : (names : Naming) (least col : ℕ) (x : List ℕ) (xs : List (List ℕ))
    → list_all (lacks 42) ((103 ∷ x) ∷ xs) ≡ true
    → word names least col (join_with_byte 42 ((103 ∷ x) ∷ xs)) ≡ factors names least col
    (replicate names.gens 0) ((103 ∷ x) ∷ xs)
word_by names least col x xs h = rw (not_one x xs, split_join (103 ∷ x) xs h) refl

word_from : (names : Naming) (least col : ℕ) (w : List ℕ) (pieces : List (List ℕ)) (x : List ℕ)
    (xs : List (List ℕ)) → pieces ≡ (103 ∷ x) ∷ xs → list_all (lacks 42) pieces ≡ true
    → factors names least col (replicate names.gens 0) pieces ≡ Ok w
    → word names least col (join_with_byte 42 pieces) ≡ Ok w
word_from names least col w pieces x xs e lack read =
    ap (λ (ps : List (List ℕ)). word names least col (join_with_byte 42 ps)) e
    ∙ word_by names least col x xs (sym (ap (list_all (lacks 42)) e) ∙ lack)
    ∙ ap (λ (ps : List (List ℕ)). factors names least col (replicate names.gens 0) ps) (sym e) ∙ read

-- a word that is not empty is read as that word
word_spelled : (p n least col : ℕ) (w : List ℕ) → n ≤ MOST_GENERATORS → p ≤ 7 → length w ≡ n → Fit p least 1 w
    → list_any (λ e. not (e == 0)) w ≡ true
    → word (by_number p n) least col (join_with_byte 42 (factor_texts 1 w)) ≡ Ok w
word_spelled p n least col w small prime len fit some =
    let h = begins 1 w some in
    let read : factors (by_number p n) least col (replicate n 0) (factor_texts 1 w) ≡ Ok w =
    ap (λ (m : ℕ). factors (by_number p n) least col (replicate m 0) (factor_texts 1 w)) (sym len)
    ∙ factors_spelled p n 1 least col [] w small prime (omega arith) (omega arith) (omega arith) fit in
    word_from (by_number p n) least col w (factor_texts 1 w) h.0 h.1 h.2
    (all_lack 42 p least 1 w star_other prime (omega arith) fit) read

-- its text is not empty
text_begins : (w : List ℕ) → list_any (λ e. not (e == 0)) w ≡ true
    → 0 < length (join_with_byte 42 (factor_texts 1 w))
text_begins w some = let h = begins 1 w some in rw h.2 (long h.0 h.1)

-- the exponents of a word fit

fit_from : (p last k : ℕ) (w : List ℕ) → All (λ e. e < p) w → ((i : ℕ) → k + i ≤ last → get_or w i 0 ≡ 0)
    → Fit p last k w
fit_from p last k [] small later = tt
fit_from p last k (e ∷ w) small later = (
  small 0 e (omega arith),
  (λ pos. after (less-or last k) pos),
  fit_from p last (suc k) w (λ i d lt. small (suc i) d (omega arith))
      (λ i le. later (suc i) (omega arith)),
)
  where
    after : (last < k) ⊎ (k ≤ last) → 0 < e → last < k
    after (inl lt) pos = lt
    after (inr le) pos = let z : e ≡ 0 = later 0 (omega arith) in absurd (omega arith)

pub fit_word : (p n last : ℕ) (w : List ℕ) → IsWord p n last w → Fit p last 1 w
fit_word p n last w is = fit_from p last 1 w is.small (λ i le. is.later i (omega arith))

-- the empty word

none_by : (e : ℕ) (rest b : Bool) → eqb e 0 ≡ b → (not b || rest) ≡ false → (e ≡ 0) × (rest ≡ false)
none_by e rest true is h = (grind (arith, nat_tests), h)
none_by e rest false is h = absurd (let f : true ≡ false = h in cc)

pub none_of : (e : ℕ) (rest : Bool) → (not (eqb e 0) || rest) ≡ false → (e ≡ 0) × (rest ≡ false)
none_of e rest h = none_by e rest (eqb e 0) refl h

pub zeros : (w : List ℕ) → list_any (λ e. not (e == 0)) w ≡ false → replicate (length w) 0 ≡ w
zeros [] h = refl
zeros (e ∷ w) h = let parts = none_of e (list_any (λ e. not (e == 0)) w) h in
    rw parts.0 (ap (λ (v : List ℕ). 0 ∷ v) (zeros w parts.1))

word_cond : (p n least col : ℕ) (w : List ℕ) → n ≤ MOST_GENERATORS → p ≤ 7 → IsWord p n least w → (b : Bool)
    → list_any (λ e. not (e == 0)) w ≡ b
    → word (by_number p n) least col (cond (not b) (49 ∷ []) (join_with_byte 42 (factor_texts 1 w))) ≡ Ok w
word_cond p n least col w small prime is true some =
    word_spelled p n least col w small prime is.len (fit_word p n least w is) some
word_cond p n least col w small prime is false none =
    ap (λ (v : List ℕ). Ok v) (ap (λ m. replicate m 0) (sym is.len) ∙ zeros w none)

-- the text of a word is read as that word
pub word_read : (p n least col : ℕ) (w : List ℕ) → n ≤ MOST_GENERATORS → p ≤ 7 → IsWord p n least w
    → word (by_number p n) least col (word_text w) ≡ Ok w
word_read p n least col w small prime is =
    word_cond p n least col w small prime is (list_any (λ e. not (e == 0)) w) refl

long_cond : (w : List ℕ) (b : Bool) → list_any (λ e. not (e == 0)) w ≡ b
    → 0 < length (cond (not b) (49 ∷ []) (join_with_byte 42 (factor_texts 1 w)))
long_cond w true some = text_begins w some
long_cond w false none = omega arith

-- it has a byte
pub word_long : (w : List ℕ) → 0 < length (word_text w)
word_long w = long_cond w (list_any (λ e. not (e == 0)) w) refl

join_lacks : (b c : ℕ) (xs : List (List ℕ)) → not (c == b) ≡ true → list_all (lacks b) xs ≡ true
    → lacks b (join_with_byte c xs) ≡ true
join_lacks b c [] other h = refl
join_lacks b c (x ∷ []) other h = (and_parts (lacks b x) true h).0
join_lacks b c (x ∷ y ∷ xs) other h =
    let parts = and_parts (lacks b x) (list_all (lacks b) (y ∷ xs)) h in
    rw (
      list_all-append (λ z. not (z == b)) x (c ∷ join_with_byte c (y ∷ xs)),
      parts.0,
      other,
    ) (join_lacks b c (y ∷ xs) other parts.1)

lacks_cond : (p n least : ℕ) (w : List ℕ) → n ≤ MOST_GENERATORS → p ≤ 7 → IsWord p n least w → (b : Bool)
    → lacks 10 (cond b (49 ∷ []) (join_with_byte 42 (factor_texts 1 w))) ≡ true
lacks_cond p n least w small prime is true = refl
lacks_cond p n least w small prime is false =
    join_lacks 10 42 (factor_texts 1 w) refl
    (all_lack 10 p least 1 w line_feed_other prime (let len = is.len in omega arith)
    (fit_word p n least w is))

-- it has no LF
pub word_line : (p n least : ℕ) (w : List ℕ) → n ≤ MOST_GENERATORS → p ≤ 7 → IsWord p n least w
    → lacks 10 (word_text w) ≡ true
word_line p n least w small prime is = lacks_cond p n least w small prime is (is_empty_word w)
