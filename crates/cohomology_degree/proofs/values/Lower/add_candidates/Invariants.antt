use Rattle.std.proofs.Common.{suc, ◌++◌, take, length}
use Rattle.cohomology_degree.specs.KnownTables.{AreCandidatesOf}
use Rattle.cohomology_degree.proofs.values.Lower.add_candidates.Given as goal

-- the candidates with the monomials of the first new generators
abbrev pub invariant-loop-i : goal.invariant-loop-i
invariant-loop-i l = AreCandidatesOf l.self.group.now (suc (length l.self.degrees.now))
    (l.self.lifts.now ++ take l.i l.new) l.candidates
