use Rattle.std.proofs.Common.{◌≡◌, ◌+◌, ◌/◌, ◌<◌, length, arith, ap, ◌∙◌}
use Rattle.fp_rows.specs.Bits.{bits_of}
use Rattle.fp_rows.specs.Numbers.{numbers_of}
use Rattle.fp_rows.proofs.PlaceLemmas.{length-places, entry-places}
use Rattle.fp_rows.proofs.short_row.add_to_words.Goals as goal

pub add_places-requires-clause-words : goal.add_places-requires-clause-words
add_places-requires-clause-words c =
    let n : length (numbers_of c.args.r) ≡ c.in-Bits.s.len =
    ap (λ r. length (numbers_of r)) c.in-Bits.is
    ∙ length-places c.in-Bits.s.words.now c.in-Bits.s.from c.in-Bits.s.len in
    c.requires.count ∙ ap (λ k. (k + 63) / 64) n

pub returns-in-Bits-clause-sums : goal.returns-in-Bits-clause-sums
returns-in-Bits-clause-sums c j l =
    let e : numbers_of c.args.r ≡ bits_of c.in-Bits.s = ap numbers_of c.in-Bits.is in
    let n : length (numbers_of c.args.r) ≡ c.in-Bits.s.len =
    ap length e ∙ length-places c.in-Bits.s.words.now c.in-Bits.s.from c.in-Bits.s.len in
    let m : j < c.in-Bits.s.len = omega (arith, l, n) in
    rw (e, entry-places c.in-Bits.s.words.now c.in-Bits.s.from c.in-Bits.s.len j m)
    (c.add_places.ensures.sums j m)
