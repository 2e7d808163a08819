use Rattle.std.proofs.Common.{◌^◌, ◌∙◌, ap, sym, arith}
use Rattle.group_table.specs.Prime.{prime_value}
use Rattle.group_table.specs.Tables.{order_is}
use Rattle.group_table.proofs.table.Table.new.Goals as goal

pub pow-size-requires : goal.pow-size-requires
pow-size-requires c =
    let e = order_is (record {
      p = prime_value c.args.prime;
      n = c.args.rank;
      entries = c.args.entries.items;
    }) in
    rw c.value.ensures (omega (arith, e, c.requires.small))

pub invariant_of-result : goal.invariant_of-result
invariant_of-result c =
    let e = order_is (record {
      p = prime_value c.args.prime;
      n = c.args.rank;
      entries = c.args.entries.items;
    }) in
    let s = c.pow-size.ensures ∙ ap (λ p. p ^ c.args.rank) c.value.ensures ∙ sym e in
    (s, rw s c.requires.small, c.requires.table)
