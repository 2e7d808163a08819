-- Numerals: `0`, or decimal digits of which the first is not `0`.
use Rattle.std.specs.Prelude.{ℕ, ◌+◌, ◌-◌, ◌*◌, ◌==◌, ◌&&◌, not, nat_le, Bool, false, if◌then◌else◌, List, []}
use Rattle.std.specs.Prelude.{◌∷◌, length, Option, Some, None}
use Rattle.std.specs.List.{list_all}
use Rattle.pc_text.specs.Bytes.{digit_zero, digit_nine}

abbrev pub is_digit : ℕ → Bool
is_digit b = nat_le digit_zero b && nat_le b digit_nine

-- digits, at least one
abbrev pub is_digits : List ℕ → Bool
is_digits bytes = not (length bytes == 0) && list_all is_digit bytes

abbrev pub is_numeral : List ℕ → Bool
is_numeral [] = false
is_numeral (b ∷ []) = is_digit b
is_numeral (b ∷ c ∷ bytes) = is_digit b && not (b == digit_zero) && list_all is_digit (c ∷ bytes)

-- the number of the digits of n and those that follow
abbrev pub read_on : ℕ → List ℕ → ℕ
read_on n [] = n
read_on n (b ∷ bytes) = read_on (10 * n + (b - digit_zero)) bytes

abbrev pub value : List ℕ → ℕ
value bytes = read_on 0 bytes

-- the number of a numeral, where it is from low to high
abbrev pub numeral : ℕ → ℕ → List ℕ → Option ℕ
numeral low high bytes =
    if is_numeral bytes && nat_le low (value bytes) && nat_le (value bytes) high
    then Some (value bytes)
    else None
