-- What contracts read of a borrowed list of numbers.
use Rattle.std.specs.Prelude.{ℕ, List}
use Rattle.fp_rows.specs.Bits.{bits_of}
use Rattle.fp_rows.specs.declared.numbers.Numbers.{Numbers}
use Rattle.fp_rows.specs.declared.numbers.Numbers.TheVariants.{Bytes, Bits}

-- the numbers that it shows
abbrev pub numbers_of : Numbers → List ℕ
numbers_of (Bytes s) = s.now
numbers_of (Bits b) = bits_of b
