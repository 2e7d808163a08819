use Rattle.std.proofs.Common.{◌≡◌, ℕ, ◌<◌, length, arith, ap, ◌∙◌}
use Rattle.std.proofs.lemmas.List.{with_items_is}
use Rattle.std.specs.Vec.{with_items}
use Rattle.group_table.specs.Prime.{prime_value}
use Rattle.linear_algebra.specs.Rows.{entry, IsRow}
use Rattle.fp_rows.specs.Bits.{bits_of}
use Rattle.fp_rows.specs.Numbers.{numbers_of}
use Rattle.fp_rows.proofs.BitLemmas.{added_to_zeros}
use Rattle.fp_rows.proofs.cells.byte_copy.Goals as goal

pub returns-in_ok-v-in-Bits-clause-same : goal.returns-in_ok-v-in-Bits-clause-same
returns-in_ok-v-in-Bits-clause-same c =
    let e : (with_items c.in_ok-v-in-Bits.v c.add_bits_to_bytes.new.v).items ≡ c.add_bits_to_bytes.new.v =
    with_items_is c.in_ok-v-in-Bits.v c.add_bits_to_bytes.new.v
    (omega (arith, c.add_bits_to_bytes.auto.v, c.deref_mut.ensures.len, c.in_ok-v-in-Bits.v.ok.0)) in
    let r : IsRow (prime_value c.args.p) (length (numbers_of c.args.r)) (numbers_of c.args.r) =
    c.requires.row in
    let s : numbers_of c.args.r ≡ bits_of c.in-Bits.s = ap numbers_of c.in-Bits.is in
    let below : (j : ℕ) → j < length (bits_of c.in-Bits.s)
    → entry (bits_of c.in-Bits.s) j < prime_value c.args.p = rw s at c.requires.row.below in
    rw (e, s) (c.add_bits_to_bytes.ensures
    ∙ (rw (
      c.deref_mut.ensures.value,
      c.in_ok-v-in-Bits.ensures,
      c.len.ensures.count,
    ) (added_to_zeros (prime_value c.args.p) (bits_of c.in-Bits.s) below)))
