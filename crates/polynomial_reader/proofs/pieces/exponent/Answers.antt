use Rattle.std.proofs.Common.{arith}
use Rattle.polynomial_reader.proofs.Cutting.{digit-value, digits-value, numeral-length}
use Rattle.polynomial_reader.proofs.pieces.exponent.Goals as goal

pub returns-in-len1 : goal.returns-in-len1
returns-in-len1 c e h k = digit-value e c.digit.result c.args.digits.now h k c.in-len1.len_below
    c.digit.ensures.value

pub returns-in-len2 : goal.returns-in-len2
returns-in-len2 c e h k = digits-value e c.digit-in-len2.result c.digit-in-len2-2.result c.args.digits.now h k
    c.in-len2.len_at_least
    c.digit-in-len2.ensures.value c.digit-in-len2-2.ensures.value

pub returns-in-empty : goal.returns-in-empty
returns-in-empty c e h k = absurd (omega (arith, numeral-length e c.args.digits.now h k))

pub returns-in-len3-up : goal.returns-in-len3-up
returns-in-len3-up c e h k = absurd (omega (arith, numeral-length e c.args.digits.now h k))
