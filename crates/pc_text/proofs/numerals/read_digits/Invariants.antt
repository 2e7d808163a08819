use Rattle.std.proofs.Common.{◌≡◌, ◌≤◌, drop, true}
use Rattle.std.specs.List.{list_all}
use Rattle.pc_text.specs.Numerals.{is_digit, read_on, value}
use Rattle.pc_text.proofs.numerals.read_digits.Given as goal

abbrev pub invariant-loop-digit : goal.invariant-loop-digit
invariant-loop-digit l = (l.number ≤ l.high)
    × (read_on l.number (drop l.digit-index l.digits) ≡ value l.digits)
    × (list_all is_digit (drop l.digit-index l.digits) ≡ true)
