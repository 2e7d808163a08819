use Rattle.std.proofs.Common.{◌≡◌, ℕ, suc, ◌+◌, ◌-◌, ◌*◌, ◌<◌, List, length, drop, get_or, None, Some, cond}
use Rattle.std.proofs.Common.{leb, arith, ap, drop-cons}
use Rattle.std.proofs.lemmas.Bool.Decides.{nat_tests}
use Rattle.pc_text.specs.Numerals.{read_on, value}
use Rattle.pc_text.proofs.NumeralLemmas.{read_on-le}
use Rattle.pc_text.proofs.numerals.read_digits.Goals as goal

-- a number that the digits so far are beyond is not that of all
beyond : (n i high : ℕ) (digits : List ℕ) → i < length digits → read_on n (drop i digits) ≡ value digits
    → high < 10 * n + (get_or digits i 0 - 48) → high < value digits
beyond n i high digits within is above =
    let next = 10 * n + (get_or digits i 0 - 48) in
    let more : read_on n (drop i digits) ≡ read_on next (drop (suc i) digits) =
    ap (read_on n) (drop-cons digits i 0 within) in
    let least = read_on-le next (drop (suc i) digits) in
    omega arith

none_above : (v high : ℕ) → high < v → None ≡ cond (leb v high) (Some v) None
none_above v high above = grind (arith, nat_tests)

pub returns-then-number-high : goal.returns-then-number-high
returns-then-number-high c =
    let digits = c.args.digits.now in
    let i = c.loop-digit.digit-index in
    none_above (value digits) c.args.high (beyond c.loop-digit.number i c.args.high digits (omega arith)
    c.loop-digit.invariant.1 (omega (arith, c.from.ensures, c.if-number-high.true)))
