use Rattle.std.proofs.Common.{◌≡◌, ◌++◌}
use Rattle.ring_degree.proofs.reached.numbered.Given as goal

-- what is in the list and what is to come
abbrev pub invariant-loop-m : goal.invariant-loop-m
invariant-loop-m l = l.monomials ++ l.m-iterator.rest.items ≡ l.fn.list.items
