use Rattle.std.proofs.Common.{◌≡◌, ◌+◌, ◌/◌, length, arith, ◌∙◌}
use Rattle.std.proofs.lemmas.List.{length-take}
use Rattle.fp_rows.specs.Numbers.{numbers_of}
use Rattle.fp_rows.specs.Places.{places}
use Rattle.fp_rows.proofs.BitLemmas.{nothing_added, places_below}
use Rattle.fp_rows.proofs.PlaceLemmas.{length-places}
use Rattle.fp_rows.proofs.ShortLemmas.{added_in_front}
use Rattle.fp_rows.proofs.short_row.add_to_places.Goals as goal

pub returns-then-c-eq1-clause-sum : goal.returns-then-c-eq1-clause-sum
returns-then-c-eq1-clause-sum c =
    let n : c.div_ceil.result ≡ (c.args.len + 63) / 64 = c.div_ceil.ensures ∙ omega arith in
    let t : length c.add_to_words.new.words ≡ c.div_ceil.result = c.add_to_words.ensures.same_length
    ∙ omega (arith, n, c.requires.room, length-take c.div_ceil.result c.args.words.now) in
    rw c.if-c-eq1.true
    (added_in_front c.add_to_words.new.words c.args.words.now
    (numbers_of c.args.r) c.div_ceil.result c.args.len
    t n c.requires.same_length (λ j l. c.add_to_words.ensures.sums j
    (omega (arith, l, c.requires.same_length))))

pub returns-else-c-eq1-clause-sum : goal.returns-else-c-eq1-clause-sum
returns-else-c-eq1-clause-sum c = let z : c.args.c ≡ 0 = omega (arith, c.requires.factor, c.if-c-eq1.false) in
    rw z (nothing_added 2 (places c.args.words.now 0 c.args.len) (numbers_of c.args.r)
    (omega (arith, c.requires.same_length, length-places c.args.words.now 0 c.args.len))
    (places_below c.args.words.now 0 c.args.len))
