-- What contracts read of a borrowed packed list.
use Rattle.std.specs.Prelude.{ℕ, List}
use Rattle.fp_rows.specs.Places.{places}
use Rattle.fp_rows.specs.declared.bits_ref.BitsRef.{BitsRef}

-- the numbers that a borrowed part of words shows
abbrev pub bits_of : BitsRef → List ℕ
bits_of r = places r.words.now r.from r.len
