use Rattle.std.proofs.Common.{◌≡◌, ◌≤◌, arith, sym, subst, ◌∙◌}
use Rattle.group_table.specs.Tables.{IsTable, IsGroupTable, order}
use Rattle.elementary_subgroups.specs.OwnGroups.{IsOwnGroup}
use Rattle.subgroup_list.proofs.OwnTables.{made_is, rank_small, size_small, order_small, own_table, own_law}
use Rattle.subgroup_list.proofs.OwnTables.{own_group}
use Rattle.subgroup_list.proofs.elem_ab.ElemAb.group.Goals as goal

at_most_256 : (n m : _) → n ≡ m → n ≤ 256 → m ≤ 256
at_most_256 n m e h = omega arith

pub overflow_cast-rank : goal.overflow_cast-rank
overflow_cast-rank c =
    let o = at_most_256 _ _ c.order.ensures.value c.order.ensures.small in
    let r = rank_small c.args.g.now c.order.ensures.law c.prime-prime.result c.prime-prime.ensures
    c.args.self.now c.requires o in
    omega (arith, r)

pub elementary_entries-requires : goal.elementary_entries-requires
elementary_entries-requires c =
    let o = at_most_256 _ _ c.order.ensures.value c.order.ensures.small in
    rw c.rank-rank.ensures
    (size_small c.args.g.now c.order.ensures.law c.prime-prime.result c.prime-prime.ensures c.args.self.now
    c.requires o)

pub from_law-requires-clause-small : goal.from_law-requires-clause-small
from_law-requires-clause-small c =
    let o = at_most_256 _ _ c.order.ensures.value c.order.ensures.small in
    subst (λ E. order E ≤ 256)
    (sym (made_is _ _ _ _ c.in_ok-entries.entries.items c.prime-prime.ensures c.rank-rank.ensures
    c.in_ok-entries.ensures))
    (order_small c.args.g.now c.order.ensures.law c.prime-prime.result c.prime-prime.ensures
    c.args.self.now c.requires o)

pub from_law-requires-clause-table : goal.from_law-requires-clause-table
from_law-requires-clause-table c =
    subst IsTable
    (sym (made_is _ _ _ _ c.in_ok-entries.entries.items c.prime-prime.ensures c.rank-rank.ensures
    c.in_ok-entries.ensures))
    (own_table c.args.g.now c.order.ensures.law c.prime-prime.result c.prime-prime.ensures c.args.self.now
    c.requires)

pub from_law-requires-clause-law : goal.from_law-requires-clause-law
from_law-requires-clause-law c =
    subst IsGroupTable
    (sym (made_is _ _ _ _ c.in_ok-entries.entries.items c.prime-prime.ensures c.rank-rank.ensures
    c.in_ok-entries.ensures))
    (own_law c.args.g.now c.order.ensures.law c.prime-prime.result c.prime-prime.ensures c.args.self.now
    c.requires)

pub returns-clause-table : goal.returns-clause-table
returns-clause-table c = c.from_law.ensures
    ∙ made_is _ _ _ _ c.in_ok-entries.entries.items c.prime-prime.ensures c.rank-rank.ensures
    c.in_ok-entries.ensures

pub returns-clause-own : goal.returns-clause-own
returns-clause-own c =
    subst (IsOwnGroup c.args.g.now c.args.self.now) (sym (returns-clause-table c))
    (own_group c.args.g.now c.order.ensures.law c.prime-prime.result c.prime-prime.ensures c.args.self.now
    c.requires)
