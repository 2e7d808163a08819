use Rattle.std.proofs.Common.{take}
use Rattle.ring_degree.specs.Rests.{AreCandidatesIn}
use Rattle.ring_degree.proofs.left.candidates.Given as goal

-- those among the first
abbrev pub invariant-loop-k : goal.invariant-loop-k
invariant-loop-k l = AreCandidatesIn l.gens.degrees l.tables (take l.k l.list) l.found
