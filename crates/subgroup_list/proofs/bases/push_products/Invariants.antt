use Rattle.std.proofs.Common.{◌≡◌, ◌++◌, map, take}
use Rattle.group_table.specs.Tables.{product}
use Rattle.subgroup_list.proofs.bases.push_products.Given as goal

abbrev pub invariant-loop-y : goal.invariant-loop-y
invariant-loop-y l = l.products.items ≡ l.initial.products.items ++ map (λ y. product l.g y l.x)
    (take l.y-index l.ys)
