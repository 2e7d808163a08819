-- The table of layer 1 is that of the group.
use Rattle.std.proofs.Common.{subst, sym}
use Rattle.group_table.specs.Prime.{prime_value}
use Rattle.pc_group.specs.Consistency.{GivesGroup}
use Rattle.pc_group.proofs.GroupTables.{is-group, is-table, small, gives}
use Rattle.pc_group.proofs.consistency.with_group.Goals as goal

pub from_law-group-requires-clause-small : goal.from_law-group-requires-clause-small
from_law-group-requires-clause-small c =
    small c.args.presentation c.requires.consistent (prime_value c.prime.result) c.gens.result
    c.args.table c.prime.ensures.value c.gens.ensures.value c.requires.table

pub from_law-group-requires-clause-table : goal.from_law-group-requires-clause-table
from_law-group-requires-clause-table c =
    is-table c.args.presentation c.requires.consistent (prime_value c.prime.result) c.gens.result
    c.args.table c.prime.ensures.value c.gens.ensures.value c.requires.table

pub from_law-group-requires-clause-law : goal.from_law-group-requires-clause-law
from_law-group-requires-clause-law c =
    is-group c.args.presentation c.requires.consistent (prime_value c.prime.result) c.gens.result
    c.args.table c.prime.ensures.value c.gens.ensures.value c.requires.table

pub invariant_of-result : goal.invariant_of-result
invariant_of-result c =
    subst (GivesGroup c.args.presentation) (sym c.from_law-group.ensures)
    (gives c.args.presentation c.requires.consistent (prime_value c.prime.result) c.gens.result
    c.args.table c.prime.ensures.value c.gens.ensures.value c.requires.table)
