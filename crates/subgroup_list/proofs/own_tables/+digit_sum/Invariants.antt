use Rattle.subgroup_list.proofs.own_tables.+digit_sum.Given as goal

abbrev pub decreases-digit_sum : goal.decreases-digit_sum
decreases-digit_sum l = l.rank
