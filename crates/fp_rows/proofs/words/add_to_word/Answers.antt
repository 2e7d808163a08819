use Rattle.std.proofs.Common.{◌+◌, ◌%◌, bit_xor, get_or, arith, ap, sym, ◌∙◌}
use Rattle.std.proofs.lemmas.Nat.Bits.{bit_at_xor}
use Rattle.std.specs.Int.{bit_at}
use Rattle.fp_rows.proofs.PlaceLemmas.{place_in, place_set_same, place_set_other}
use Rattle.fp_rows.proofs.words.add_to_word.Goals as goal

pub returns-clause-sums : goal.returns-clause-sums
returns-clause-sums c = λ j e. place_set_same c.args.words.now c.args.k
    (bit_xor (get_or c.args.words.now c.args.k 0) c.args.y) j c.requires e
    ∙ bit_at_xor (get_or c.args.words.now c.args.k 0) c.args.y (j % 64)
    ∙ ap (λ z. (z + bit_at c.args.y (j % 64)) % 2)
    (sym (place_in c.args.words.now j c.args.k (j % 64) (omega arith) (omega arith)))

pub returns-clause-rest : goal.returns-clause-rest
returns-clause-rest c = λ j n. place_set_other c.args.words.now c.args.k
    (bit_xor (get_or c.args.words.now c.args.k 0) c.args.y) j n
