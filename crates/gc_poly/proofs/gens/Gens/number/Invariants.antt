use Rattle.std.proofs.Common.{◌≡◌, ◌==◌, take}
use Rattle.std.specs.Prelude.{count_by}
use Rattle.gc_poly.proofs.gens.Gens.number.Given as goal

-- the generators of the same degree so far
abbrev pub invariant-loop-d : goal.invariant-loop-d
invariant-loop-d l = l.before ≡ count_by (λ d. d == l.degree) (take l.d-index l.d-items)
