use Rattle.std.proofs.Common.{◌<◌, sym, subst, arith}
use Rattle.group_table.specs.Prime.{prime_value}
use Rattle.group_table.specs.TableFaults.{HasUnit, HasLatinRows, IsAssociative}
use Rattle.group_table.specs.Tables.{IsTable, order, order_is}
use Rattle.group_table.proofs.WithoutFaults.{table-of, group-of, order-positive}
use Rattle.group_table.proofs.group.Group.from_table.Goals as goal

pub new-table-requires-clause-small : goal.new-table-requires-clause-small
new-table-requires-clause-small c = rw order_is c.requires.small

pub new-table-requires-clause-table : goal.new-table-requires-clause-table
new-table-requires-clause-table c =
    table-of (record { p = prime_value c.args.p; n = c.args.n; entries = c.args.table.items })
    (omega (arith, c.requires.size)) c.requires.entries

pub invariant_of-result : goal.invariant_of-result
invariant_of-result c =
    let G = c.new-table.result in
    let some : 0 < order G = rw (c.new-table.ensures, order_is) (order-positive c.args.p c.args.n) in
    let table : IsTable G = subst IsTable (sym c.new-table.ensures)
    (table-of (record { p = prime_value c.args.p; n = c.args.n; entries = c.args.table.items })
    (omega (arith, c.requires.size)) c.requires.entries) in
    let unit : HasUnit G = c.in_default.ensures in
    let latin : HasLatinRows G = rw c.in_default-2.is at c.in_ok-a.ensures in
    let associative : IsAssociative G = c.in_default-first_not_associative.ensures in
    group-of G some table unit latin associative

pub returns-clause-law : goal.returns-clause-law
returns-clause-law c = invariant_of-result c
