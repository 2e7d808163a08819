-- Cutting at the first byte.
use Rattle.std.proofs.Common.{◌≡◌, ℕ, suc, ◌+◌, ◌-◌, ◌<◌, ◌≤◌, Bool, true, false, not, cond, List, [], ◌∷◌}
use Rattle.std.proofs.Common.{length, take, drop, Some, None, ltb, ◌==◌, refl, ap, arith, length-drop}
use Rattle.std.specs.List.{slice_split, onto_first, position_or_len, before_first, after_first}
use Rattle.std.proofs.lemmas.List.{take_all}
use Rattle.std.proofs.lemmas.List.Splits.{slice_split_first}
use Rattle.std.proofs.lemmas.Bool.Decides.{nat_tests}
use Rattle.pc_text.specs.Lines.{cut_at}

none_step : (t : Bool) (x n : ℕ) (xs : List ℕ) (others parts : List (List ℕ))
    → suc (length xs) ≤ cond (not t) (1 + n) 0 → (length xs ≤ n → parts ≡ xs ∷ [])
    → cond t others (onto_first x parts) ≡ (x ∷ xs) ∷ []
none_step true x n xs others parts h rest = absurd (omega arith)
none_step false x n xs others parts h rest = ap (onto_first x) (rest (omega arith))

pub split_none : (p : ℕ → Bool) (xs : List ℕ) → length xs ≤ position_or_len p xs → slice_split p xs ≡ xs ∷ []
split_none p [] h = refl
split_none p (x ∷ xs) h = none_step (p x) x (position_or_len p xs) xs ([] ∷ slice_split p xs)
    (slice_split p xs) h (split_none p xs)

pub rest_whole : (n : ℕ) (xs : List ℕ) → take (length xs - n) (drop n xs) ≡ drop n xs
rest_whole n xs = take_all _ _ (omega (arith, length-drop n xs))

pub split_first : (p : ℕ → Bool) (xs : List ℕ) (at : ℕ) → at ≡ position_or_len p xs → at < length xs
    → slice_split p xs ≡ take at xs ∷ slice_split p (take (length xs - (at + 1)) (drop (at + 1) xs))
split_first p xs at e h = rw rest_whole (rw e
    (slice_split_first p xs 0 (let l : position_or_len p xs < length xs = omega (arith, e) in l)))

chosen : (n m : ℕ) (whole x : List ℕ × List ℕ) → cond (ltb n m) (Some whole) None ≡ Some x → (n < m)
    × (whole ≡ x)
chosen n m whole x e = grind (arith, nat_tests)

not_chosen : (n m : ℕ) (whole : List ℕ × List ℕ) → cond (ltb n m) (Some whole) None ≡ None → m ≤ n
not_chosen n m whole e = grind (arith, nat_tests)

pub cut_some : (b : ℕ) (text : List ℕ) (x : List ℕ × List ℕ) → cut_at b text ≡ Some x
    → slice_split (λ y. y == b) text ≡ x.0 ∷ slice_split (λ y. y == b) x.1
cut_some b text x e =
    let h = chosen (position_or_len (λ y. y == b) text) (length text) (
      before_first (λ y. y == b) text,
      after_first (λ y. y == b) text,
    ) x e in
    rw (← h.1) (slice_split_first (λ y. y == b) text 0 h.0)

pub cut_none : (b : ℕ) (text : List ℕ) → cut_at b text ≡ None → slice_split (λ y. y == b) text ≡ text ∷ []
cut_none b text e = split_none (λ y. y == b) text
    (not_chosen (position_or_len (λ y. y == b) text) (length text) (
      before_first (λ y. y == b) text,
      after_first (λ y. y == b) text,
    ) e)
