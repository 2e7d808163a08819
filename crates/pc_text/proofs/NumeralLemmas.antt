-- A numeral of three digits or more is not below 100.
use Rattle.std.proofs.Common.{◌≡◌, ℕ, ◌+◌, ◌-◌, ◌*◌, ◌<◌, ◌≤◌, Bool, ◌&&◌, not, cond, List, [], ◌∷◌, length}
use Rattle.std.proofs.Common.{Some, None, arith, leb, eqb}
use Rattle.std.specs.List.{list_all}
use Rattle.std.proofs.lemmas.Bool.Decides.{nat_tests}
use Rattle.pc_text.specs.Numerals.{is_digit, read_on, value, numeral}

pub read_on-le : (n : ℕ) (bytes : List ℕ) → n ≤ read_on n bytes
read_on-le n [] = omega arith
read_on-le n (b ∷ bytes) = omega (arith, read_on-le (10 * n + (b - 48)) bytes)

out_of_range : (b c d low high v : ℕ) (r : Bool) → high < 100
    → 10 * (10 * (10 * 0 + (b - 48)) + (c - 48)) + (d - 48) ≤ v
    → cond (is_digit b && not (eqb b 48) && r && leb low v && leb v high) (Some v) None ≡ None
out_of_range b c d low high v r small e = grind (arith, nat_tests)

pub numeral_long : (low high : ℕ) (bytes : List ℕ) → high < 100 → 3 ≤ length bytes
    → numeral low high bytes ≡ None
numeral_long low high [] small long = absurd (omega arith)
numeral_long low high (b ∷ []) small long = absurd (omega arith)
numeral_long low high (b ∷ c ∷ []) small long = absurd (omega arith)
numeral_long low high (b ∷ c ∷ d ∷ bytes) small long =
    out_of_range b c d low high (value (b ∷ c ∷ d ∷ bytes)) (list_all is_digit (c ∷ d ∷ bytes)) small
    (read_on-le (10 * (10 * (10 * 0 + (b - 48)) + (c - 48)) + (d - 48)) bytes)
